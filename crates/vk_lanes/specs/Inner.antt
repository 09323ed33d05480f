pub mod Blocks
pub mod Patterns
