mod Depth
mod Ranges
pub mod Zero
