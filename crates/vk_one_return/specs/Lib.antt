pub mod Form
pub mod Inner
