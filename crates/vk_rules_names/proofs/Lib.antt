mod Bindings
pub mod Tables
