mod Adding
pub mod Rows
