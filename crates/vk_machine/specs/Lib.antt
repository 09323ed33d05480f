pub mod Ends
pub mod Machines
