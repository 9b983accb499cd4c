pub mod Writing
pub mod Numerals
pub mod Lines
pub mod Answers
pub mod Passes
pub mod Enough
pub mod Cases
