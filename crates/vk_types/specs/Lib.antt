pub mod Conversions
pub mod Formats
pub mod Numbers
pub mod Operators
