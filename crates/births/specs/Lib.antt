pub mod Arrays
pub mod Births
