mod Forms
mod Texts
mod Lanes
mod Pointers
mod Candidates
