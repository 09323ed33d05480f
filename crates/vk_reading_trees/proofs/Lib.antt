pub mod Operators
pub mod Nodes
pub mod Passing
