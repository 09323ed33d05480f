mod Firsts
mod Listed
pub mod Naming
mod Parts
mod Placed
pub mod Quiet
mod Ranges
mod Tests
mod Told
