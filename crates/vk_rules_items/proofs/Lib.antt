mod Limits
mod Parameters
mod Surveys
mod Declared
mod Sums
mod Locals
mod Initials
mod Walk
