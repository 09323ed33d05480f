pub mod Along
pub mod CodeFaults
pub mod FirstFault
pub mod Uses
