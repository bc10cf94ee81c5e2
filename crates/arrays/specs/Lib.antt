pub mod Arrays
pub mod Outcomes
pub mod Calls
pub mod Told
