pub mod Mangle
