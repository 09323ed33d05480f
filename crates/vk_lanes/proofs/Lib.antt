pub mod Bits
pub mod InRows
pub mod Operators
pub mod Typed
pub mod Vectors
pub mod Written
