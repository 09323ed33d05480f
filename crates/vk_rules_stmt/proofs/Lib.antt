mod Blocks
mod Scopes
