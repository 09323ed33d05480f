pub mod Lined
mod Told
