pub mod Logs
pub mod Rest
pub mod Words
