pub mod Answers
pub mod Told
pub mod Lent
pub mod Room
pub mod Outcome
