pub mod Calling
pub mod Fitting
pub mod Growing
pub mod Looping
pub mod Running
