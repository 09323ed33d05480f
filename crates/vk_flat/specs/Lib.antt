pub mod Emitters
pub mod Locals
pub mod Values
