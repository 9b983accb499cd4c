-- What the inner functions are handed and tell: it serves their contracts alone. Definitions only.
pub mod Work
