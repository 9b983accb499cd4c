pub mod Laws
pub mod Monotone
pub mod Numbers
pub mod Ring
pub mod Values
