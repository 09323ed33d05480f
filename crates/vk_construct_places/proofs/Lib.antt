pub mod Offsets
pub mod Moving
pub mod Nodes
