-- How the public answer reads as docs/RULES.md's numbers and values. Definitions only.
pub mod Promise
pub mod Claims
