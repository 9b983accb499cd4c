pub mod MeterLine
pub mod Places
pub mod Rows
pub mod AllLines
