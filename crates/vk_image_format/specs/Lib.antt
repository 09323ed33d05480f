pub mod Values
pub mod Image
