mod Deciding
pub mod Numbers
