pub mod Turning
pub mod Joining
pub mod Whole
pub mod Together
pub mod FourSums
