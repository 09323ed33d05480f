mod Examples
pub mod Forms
pub mod Sound
pub mod Grown
pub mod Limits
pub mod Whole
pub mod Theorem
