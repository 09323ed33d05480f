mod Declared
mod Numbered
mod Linked
mod Few
