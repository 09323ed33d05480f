mod NameLines
mod Described
pub mod Lined
mod Told
