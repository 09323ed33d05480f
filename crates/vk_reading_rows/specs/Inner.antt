pub mod Noted
pub mod Collected
pub mod Rows
