pub mod Depth
pub mod Ranges
