pub mod Commands
pub mod Unasked
