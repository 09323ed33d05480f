-- Definitions on which no public contract's meaning rests.
pub mod Noted
