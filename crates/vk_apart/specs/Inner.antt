-- Definitions on which no public contract's meaning rests: what the code's own functions tell each other.
pub mod Pairs
pub mod Reaches
