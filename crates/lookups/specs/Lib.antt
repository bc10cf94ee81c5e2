pub mod Need
pub mod Reading
