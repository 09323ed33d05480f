mod Arguments
mod Calls
