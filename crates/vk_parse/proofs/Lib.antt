mod Copying
mod Deep
pub mod Facts
mod Numbers
pub mod Total
