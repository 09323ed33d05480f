-- Definitions on which no public contract's meaning rests: what the code's own functions tell each other.
pub mod Entries
pub mod Parts
pub mod Rounds
pub mod Types
