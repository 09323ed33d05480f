pub mod Inner
pub mod Locals
pub mod Places
