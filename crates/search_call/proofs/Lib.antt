pub mod Orders
pub mod Questions
pub mod Posing
pub mod Starts
pub mod Calls
