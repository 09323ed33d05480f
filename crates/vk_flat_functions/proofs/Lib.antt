pub mod Locals
pub mod Returning
