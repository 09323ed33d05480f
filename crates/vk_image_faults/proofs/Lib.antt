pub mod Asked
pub mod Linked
pub mod Rounds
pub mod Rules
