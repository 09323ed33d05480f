pub mod Words
pub mod Loops
pub mod Blocks
pub mod Exits
