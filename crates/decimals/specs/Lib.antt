-- Decimal numbers in a text: what they are, and the f64 of each; and an f64 as text. Definitions only.
pub mod Decimal
pub mod Claims
pub mod Fixed
pub mod Printed
pub mod inner
