pub mod Symbols
pub mod Types
pub mod Grammar
pub mod Texts
pub mod Inner
