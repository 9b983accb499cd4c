pub mod Calls
pub mod Called
pub mod One
pub mod Rows
