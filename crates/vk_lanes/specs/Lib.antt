pub mod Inner
pub mod Kernels
pub mod Masks
pub mod Words
