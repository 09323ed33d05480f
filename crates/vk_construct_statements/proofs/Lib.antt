pub mod Bodies
pub mod Branches
pub mod Flow
pub mod Functions
pub mod Looping
pub mod Loops
pub mod Straight
