pub mod Labels
pub mod Format
pub mod Codec
pub mod Bytes
