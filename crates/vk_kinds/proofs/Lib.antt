pub mod Facts
pub mod Apart
