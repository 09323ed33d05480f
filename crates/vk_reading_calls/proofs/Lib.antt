pub mod Bodies
pub mod Names
pub mod Printing
pub mod Rows
pub mod Scopes
