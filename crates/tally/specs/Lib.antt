-- The running tally of rounds and factorings. Definitions only.
pub mod Tally
pub mod Claims
