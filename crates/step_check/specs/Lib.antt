-- The check of a step: five tests, and what is shown of them. Definitions only.
pub mod Check
pub mod Lent
pub mod Claims
pub mod inner
