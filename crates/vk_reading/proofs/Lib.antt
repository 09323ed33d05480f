mod Loads
mod Stores
