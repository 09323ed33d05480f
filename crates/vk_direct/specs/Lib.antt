pub mod Calls
pub mod Discard
pub mod Given
pub mod Places
pub mod Taking
