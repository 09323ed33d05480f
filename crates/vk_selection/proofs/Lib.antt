mod Counts
pub mod Fits
mod Lists
mod Parts
mod SameKinds
mod Vectors
