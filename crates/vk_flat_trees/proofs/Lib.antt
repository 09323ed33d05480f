pub mod Emitting
pub mod Pointing
pub mod Cases
pub mod Ready
