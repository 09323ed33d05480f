pub mod Taken
pub mod Stands
pub mod Codes
