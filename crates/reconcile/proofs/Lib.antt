pub mod Names
pub mod Problems
