pub mod Tables
pub mod Codes
pub mod Choice
pub mod Linked
pub mod Joins
pub mod Links
pub mod Carries
