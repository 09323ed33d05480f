pub mod Lengths
pub mod SameFault
