pub mod Answers
pub mod Stored
pub mod Testing
