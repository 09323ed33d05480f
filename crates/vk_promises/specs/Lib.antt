pub mod Settings
pub mod Loops
pub mod Codes
pub mod Makers
pub mod Places
