pub mod Follows
pub mod Statements
