pub mod Posing
pub mod Laid
pub mod Whole
