mod Ending
mod Gives
mod Programs
