pub mod Runs
pub mod Settings
pub mod Deciding
