pub mod Fitting
pub mod Live
pub mod Locals
pub mod Results
pub mod Typed
