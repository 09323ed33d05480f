pub mod Held
pub mod Cells
pub mod Reading
pub mod Variables
