pub mod Runs
pub mod Arrays
pub mod Isolated
pub mod Memory
pub mod Own
pub mod Theorems
