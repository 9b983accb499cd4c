-- Where roots are remembered. What a root is, is the crate `numbers`'. Definitions only.
pub mod inner
