mod Identifiers
pub mod Readings
mod Said
