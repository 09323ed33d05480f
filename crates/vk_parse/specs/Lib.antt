pub mod Parsing
pub mod Inner
pub mod Readings
