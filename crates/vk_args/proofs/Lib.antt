pub mod Counting
pub mod Loops
pub mod Products
pub mod Types
