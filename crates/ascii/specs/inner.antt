-- What the functions leave: it serves contracts of inner functions alone. Definitions only.
pub mod Work
