pub mod Homes
pub mod Pieces
