pub mod Lists
pub mod Order
pub mod Images
pub mod Accepted
pub mod Arrays
pub mod Levels
