mod Visited
mod Lined
