pub mod Callable
pub mod Callees
