pub mod Last
pub mod Lists
