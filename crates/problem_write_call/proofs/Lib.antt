pub mod Testing
pub mod Told
pub mod Passed
pub mod Answers
pub mod Shown
