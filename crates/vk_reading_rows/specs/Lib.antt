pub mod Objects
pub mod Numbers
pub mod Functions
pub mod Inner
