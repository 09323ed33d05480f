pub mod Room
pub mod Stores
