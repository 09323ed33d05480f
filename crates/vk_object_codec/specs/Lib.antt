pub mod Rows
pub mod Objects
pub mod Standing
pub mod Reading
pub mod Inner
