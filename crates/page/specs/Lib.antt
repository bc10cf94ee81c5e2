pub mod Each
pub mod Pages
pub mod Lent
