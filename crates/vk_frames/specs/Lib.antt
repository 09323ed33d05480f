pub mod Each
pub mod Frames
pub mod Rows
pub mod Written
