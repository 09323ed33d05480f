pub mod Nesting
pub mod Room
