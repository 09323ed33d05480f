pub mod Fitting
pub mod Given
pub mod Live
pub mod Patterns
pub mod Writes
