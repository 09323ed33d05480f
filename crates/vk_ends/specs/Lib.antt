pub mod Ends
pub mod Holds
pub mod Inputs
pub mod Reports
pub mod Printing
