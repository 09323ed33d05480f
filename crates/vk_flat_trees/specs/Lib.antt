pub mod Names
pub mod Emits
