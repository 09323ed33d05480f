pub mod Fields
pub mod Parameters
pub mod Codes
pub mod Values
pub mod Places
