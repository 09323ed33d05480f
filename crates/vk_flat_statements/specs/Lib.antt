pub mod Flat
pub mod Frames
pub mod Statements
