pub mod Rules
pub mod Writing
pub mod Moving
pub mod Pointers
