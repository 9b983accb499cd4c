pub mod One
pub mod Edge
pub mod Examples
pub mod Ranks
