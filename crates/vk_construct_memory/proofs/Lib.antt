pub mod Giving
pub mod Loading
pub mod Nodes
pub mod Storing
