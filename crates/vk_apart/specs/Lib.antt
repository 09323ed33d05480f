pub mod Apart
pub mod Inner
