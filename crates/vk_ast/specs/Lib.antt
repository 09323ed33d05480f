pub mod Directives
pub mod Names
pub mod Statements
pub mod Tree
pub mod Units
