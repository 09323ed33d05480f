pub mod Ends
pub mod Targets
mod Within
mod Made
