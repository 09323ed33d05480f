pub mod Bytes
pub mod Inverse
pub mod Pieces
