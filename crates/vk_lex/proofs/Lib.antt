mod Gaps
mod Firsts
mod Fronts
mod Identifiers
mod Integers
mod Joins
mod Lengths
mod Loop
mod Marks
mod Places
mod Rules
mod Steps
pub mod Tables
mod Total
mod Values
mod Words
