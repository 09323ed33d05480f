pub mod Units
pub mod Agree
