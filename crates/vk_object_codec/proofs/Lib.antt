pub mod Feeding
pub mod Again
