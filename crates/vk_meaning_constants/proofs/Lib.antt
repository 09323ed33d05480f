mod Operators
mod Constants
mod Choices
