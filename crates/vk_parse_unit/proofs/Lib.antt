pub mod Qualifiers
pub mod Names
pub mod Values
pub mod Units
pub mod Told
