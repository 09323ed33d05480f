pub mod Words
pub mod Cuts
pub mod Clauses
pub mod Directives
pub mod Inner
