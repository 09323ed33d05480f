pub mod Right
pub mod Views
pub mod Ends
pub mod Inner
