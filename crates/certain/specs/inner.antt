-- What serves the contracts alone: no claim rests on it.
pub mod Lengths
