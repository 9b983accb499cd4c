-- The day's reconciliation. Definitions only.
pub mod Claims
pub mod Day
pub mod inner
