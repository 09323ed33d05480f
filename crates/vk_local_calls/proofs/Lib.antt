mod Silence
mod Expressions
mod Effects
mod Statements
mod Calls
mod Returns
