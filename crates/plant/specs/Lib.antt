-- The sheet from kept records and a plant file. Definitions only.
pub mod Lines
pub mod Texts
pub mod Plant
pub mod Claims
