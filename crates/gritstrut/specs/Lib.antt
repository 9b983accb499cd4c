-- What the C functions promise. Definitions only.
pub mod Interface
pub mod Claims
pub mod Daily
pub mod Checking
pub mod Mending
pub mod Writing
pub mod Searching
pub mod Suspecting
pub mod Settling
pub mod Reporting
