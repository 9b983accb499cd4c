pub mod Problems
pub mod Working
pub mod Tries
pub mod Claims
pub mod Days
