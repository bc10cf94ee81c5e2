pub mod Pool
pub mod Tables
pub mod Lent
