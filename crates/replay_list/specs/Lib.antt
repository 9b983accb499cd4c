-- The stored calls and the digest of what a call left. Definitions only.
pub mod Digest
pub mod Operation
