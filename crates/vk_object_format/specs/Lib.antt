pub mod Values
pub mod Object
