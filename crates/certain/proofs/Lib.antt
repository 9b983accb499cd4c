pub mod Core
pub mod Certain
pub mod Examples
pub mod Found
pub mod Terms
pub mod Bounds
pub mod Laws
