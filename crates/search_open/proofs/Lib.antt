pub mod Factors
pub mod Steps
pub mod Lines
pub mod Openings
pub mod After
