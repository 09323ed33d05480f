pub mod Examples
pub mod Faults
pub mod Nesting
pub mod Pairs
pub mod Sections
