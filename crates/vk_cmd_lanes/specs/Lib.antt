pub mod Inner
pub mod Lanes
