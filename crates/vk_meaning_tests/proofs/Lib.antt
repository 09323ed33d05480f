mod Forms
mod Functions
mod Programs
mod Order
mod Guards
mod Cells
