-- What the day's program writes. Definitions only.
pub mod Places
pub mod Cells
pub mod Items
pub mod Tables
pub mod Verdict
pub mod Report
pub mod Refusals
pub mod Claims
pub mod inner
