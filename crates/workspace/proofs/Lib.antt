pub mod Readings
pub mod Writes
pub mod Copies
pub mod Clears
pub mod Parts
pub mod Tests
