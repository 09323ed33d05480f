pub mod Grown
pub mod Steps
pub mod Joined
pub mod Emitting
pub mod Cases
