pub mod Lanes
pub mod Ran
