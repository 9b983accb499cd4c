pub mod Loading
pub mod Giving
pub mod Calls
pub mod Clear
pub mod One
pub mod Passing
pub mod Called
pub mod Places
