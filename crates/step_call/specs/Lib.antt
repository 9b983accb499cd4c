-- What the public step promises, and what is shown of it. Definitions only.
pub mod Promise
pub mod Strict
pub mod NoBands
pub mod Claims
pub mod inner
