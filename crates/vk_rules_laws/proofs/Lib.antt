pub mod Each
pub mod Fitting
pub mod Visited
pub mod Typed
mod Declarations
mod TypedUnits
pub mod Sizes
