-- The search around the step: what a turn computes, the written loop, the machine that does it, and what is shown of them. Definitions only.
pub mod Places
pub mod Setup
pub mod Turn
pub mod Written
pub mod Machine
pub mod Layout
pub mod Claims
pub mod Differences
pub mod Promise
pub mod Calls
pub mod inner
