pub mod Constants
pub mod Parts
pub mod Rows
pub mod Expecting
pub mod Closes
