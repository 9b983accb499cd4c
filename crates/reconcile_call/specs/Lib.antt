-- What a call of the day's reconciliation promises, and what is shown of it. Definitions only.
pub mod Claims
pub mod Promise
pub mod inner
