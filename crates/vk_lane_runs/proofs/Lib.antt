pub mod Alone
pub mod Arguments
pub mod Closing
