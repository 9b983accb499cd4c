-- What is found of a sheet's day. Definitions only.
pub mod Posed
pub mod Found
pub mod Promise
pub mod inner
