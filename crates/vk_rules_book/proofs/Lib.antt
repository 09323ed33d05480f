pub mod Along
mod Examples
mod First
pub mod Noting
