pub mod Functions
pub mod UnitNames
pub mod Verdicts
pub mod Entries
pub mod Inner
