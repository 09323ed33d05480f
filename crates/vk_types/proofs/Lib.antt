pub mod Patterns
mod WrapNumber
pub mod Wrapping
