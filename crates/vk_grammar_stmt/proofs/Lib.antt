mod Examples
pub mod Signs
pub mod Forms
pub mod Starts
pub mod Closed
pub mod Sound
pub mod Grown
pub mod Taken
pub mod Limits
pub mod Parts
pub mod Whole
pub mod Readers
pub mod Theorem
