pub mod Bodies
pub mod Callees
pub mod Readable
