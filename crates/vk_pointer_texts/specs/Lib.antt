pub mod Heads
pub mod Inner
pub mod Texts
pub mod Values
