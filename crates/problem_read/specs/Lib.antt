-- What the record program reads. Definitions only.
pub mod Bits
pub mod Input
pub mod Tables
pub mod Promise
pub mod Claims
pub mod inner
