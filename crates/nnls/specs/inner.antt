-- What serves the contracts of inner functions alone: no promise rests on it.
pub mod State
pub mod Work
pub mod Dual
pub mod Memory
pub mod Back
