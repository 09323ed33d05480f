pub mod Results
mod Untouched
pub mod Targets
