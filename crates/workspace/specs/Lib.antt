-- The tables of docs/RULES.md, which all public operations share, and what stands where in a workspace. Definitions only.
pub mod Tables
pub mod Readings
