pub mod Spelling
pub mod Refusal
pub mod Pieces
pub mod Inner
pub mod Labels
