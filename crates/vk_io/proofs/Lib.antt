pub mod Counting
pub mod Grown
mod Sofar
mod Fronts
mod Pieces
