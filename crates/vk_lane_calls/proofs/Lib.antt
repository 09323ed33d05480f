pub mod Calling
pub mod Footprints
pub mod Passing
pub mod Plainly
pub mod Pointed
pub mod Singly
pub mod Slots
pub mod Uniforms
