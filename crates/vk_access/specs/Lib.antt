pub mod Accesses
pub mod Cells
pub mod Outer
pub mod Stores
