pub mod Inner
pub mod Making
