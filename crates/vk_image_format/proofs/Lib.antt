mod Changed
mod Examples
pub mod Inverse
