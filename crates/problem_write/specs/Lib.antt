-- The file that is written for a problem. Definitions only.
pub mod File
pub mod Lent
pub mod Claims
pub mod inner
