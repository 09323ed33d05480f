pub mod Places
pub mod Pieces
pub mod Writes
pub mod Cells
pub mod Runs
pub mod Entries
