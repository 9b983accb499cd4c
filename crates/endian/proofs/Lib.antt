pub mod Placed
pub mod Little
pub mod Laws
pub mod Turns
