pub mod Tame
pub mod Reach
