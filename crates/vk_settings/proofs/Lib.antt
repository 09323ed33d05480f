pub mod Heads
pub mod Declared
mod Files
mod Meant
mod Sound
pub mod Told
mod Calls
mod Numbers
mod Agreeing
