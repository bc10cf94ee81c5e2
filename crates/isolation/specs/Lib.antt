pub mod Walk
pub mod Private
pub mod Kept
