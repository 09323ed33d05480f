mod Answering
mod Any
mod Calling
mod Lanes
mod Reaching
