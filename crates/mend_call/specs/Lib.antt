-- The public operation that mends a day's readings. Definitions only.
pub mod Promise
pub mod Claims
pub mod inner
