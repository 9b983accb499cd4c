-- B as its lower triangle, and that it agrees with the square form. Definitions only.
pub mod Claims
pub mod Packed
