mod LaneScopes
mod Tame
mod Expressions
mod Statements
pub mod Definitions
pub mod Programs
