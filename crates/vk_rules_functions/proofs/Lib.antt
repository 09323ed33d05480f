mod Params
pub mod Walk
