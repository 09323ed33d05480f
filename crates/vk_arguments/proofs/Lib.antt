mod Appended
mod Numbers
mod Numerals
mod Parts
mod Passing
mod Ranges
pub mod Unique
