pub mod Work
pub mod Mode
pub mod Level
pub mod Lookup
pub mod Descent
pub mod Commit
pub mod Lent
