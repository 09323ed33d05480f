pub mod Lines
pub mod Demangle
