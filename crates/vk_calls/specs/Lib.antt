pub mod Fetched
pub mod Found
