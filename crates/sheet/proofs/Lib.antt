pub mod FirstWords
pub mod Lines
pub mod Faults
pub mod Names
