mod Calls
pub mod Lined
mod Lines
mod Readings
mod Selected
mod Told
