pub mod Filled
pub mod Taken
