pub mod Calls
pub mod Loops
pub mod Objects
pub mod Captures
pub mod Shapes
pub mod Bounds
