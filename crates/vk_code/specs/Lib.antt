pub mod Inner
pub mod Instruction
pub mod Listing
pub mod Tests
pub mod Valid
