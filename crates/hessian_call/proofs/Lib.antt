pub mod Calls
pub mod Lower
pub mod Mirrored
pub mod One
