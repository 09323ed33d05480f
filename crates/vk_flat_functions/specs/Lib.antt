pub mod Params
pub mod Returns
pub mod Finished
