-- What serves the contracts of inner functions alone. Definitions only.
pub mod Sums
pub mod Patterns
