pub mod Kept
pub mod Tables
pub mod Texts
pub mod Minutes
pub mod Whole
