pub mod Acting
pub mod Holding
mod Messages
