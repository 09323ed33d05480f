pub mod Linked
