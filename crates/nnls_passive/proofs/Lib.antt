pub mod Members
pub mod Columns
pub mod Part
pub mod Spreads
pub mod Whole
pub mod Many
