pub mod Grammatical
