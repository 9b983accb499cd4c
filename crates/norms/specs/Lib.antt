-- The norm of a list, and where it has the bits of the plain one. Definitions only.
pub mod Norm
pub mod Claims
pub mod inner
