-- The words of a sheet by names: names, remarks, words. Definitions only.
pub mod Names
pub mod Lines
