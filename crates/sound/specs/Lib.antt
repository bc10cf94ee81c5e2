pub mod Tree
pub mod Rows
pub mod Maps
pub mod Sound
pub mod Facts
