pub mod Definitions
pub mod Returning
