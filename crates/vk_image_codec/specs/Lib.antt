pub mod Rows
pub mod Images
pub mod Standing
pub mod Reading
pub mod Inner
