mod Split
mod Known
mod Runs
