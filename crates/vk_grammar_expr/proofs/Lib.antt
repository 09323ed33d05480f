mod Examples
pub mod Signs
pub mod Starts
pub mod Steps
pub mod Sound
pub mod Grown
pub mod Heights
pub mod Stops
pub mod Equations
pub mod Whole
pub mod Places
pub mod Theorem
pub mod Climb
