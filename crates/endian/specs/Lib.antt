-- Numbers as bytes, little-endian. Definitions only.
pub mod Little
pub mod Claims
