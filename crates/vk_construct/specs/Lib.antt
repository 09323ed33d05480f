pub mod Adds
pub mod Applies
pub mod Computes
pub mod Trees
