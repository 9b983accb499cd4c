-- What the day's program writes. Definitions only.
pub mod Report
pub mod Promise
pub mod Claims
