pub mod Given
pub mod Outermost
mod Results
pub mod Words
