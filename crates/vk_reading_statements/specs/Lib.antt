pub mod Flows
pub mod Acts
pub mod Loops
pub mod Places
pub mod Assigned
