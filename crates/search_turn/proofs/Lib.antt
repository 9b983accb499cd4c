pub mod Floats
pub mod Parts
