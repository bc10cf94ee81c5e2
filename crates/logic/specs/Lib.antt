pub mod Pick
pub mod Below
