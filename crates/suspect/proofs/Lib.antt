pub mod Claims
pub mod Decisions
pub mod Largest
pub mod Measures
pub mod Preparing
pub mod Whole
pub mod Zeros
