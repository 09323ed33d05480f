pub mod Appending
pub mod Gathering
pub mod Slots
