mod Noting
mod Places
mod Pointing
mod Positions
mod Splits
mod Steps
