pub mod Chains
pub mod Compose
pub mod Bridge
pub mod Plans
mod Program
