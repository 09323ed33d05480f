pub mod Accepted
pub mod Lists
pub mod Parts
pub mod Rounds
