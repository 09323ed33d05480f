pub mod Found
pub mod Laned
pub mod Leading
pub mod Sweeping
pub mod Words
