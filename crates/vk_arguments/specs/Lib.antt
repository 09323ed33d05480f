pub mod Arguments
pub mod Inner
pub mod Integers
pub mod Texts
pub mod Typed
