pub mod Constants
pub mod Inner
pub mod Laws
pub mod Operators
pub mod Types
pub mod Values
