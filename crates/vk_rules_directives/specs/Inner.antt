-- Definitions on which no public contract's meaning rests: what the code's own functions tell each other.
pub mod Joins
pub mod Marks
pub mod Signed
pub mod Tables
pub mod Tests
pub mod Working
