mod Cutting
mod Conds
mod Sums
mod Lists
mod Summing
mod Telling
mod Forms
mod Even
mod Colons
mod Linears
pub mod Known
mod Told
