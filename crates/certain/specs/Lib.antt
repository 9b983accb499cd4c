-- What is certain of a day's volumes, whoever worked them out, and the bound that says how certain. Definitions only.
pub mod Day
pub mod Bound
pub mod Claims
pub mod Examples
pub mod inner
