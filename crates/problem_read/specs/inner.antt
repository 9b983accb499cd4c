-- What the inner functions keep and tell: it serves their contracts alone. Definitions only.
pub mod Spots
pub mod Filling
