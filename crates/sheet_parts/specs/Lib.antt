-- The parts of a line, and how a found word is shown. Definitions only.
pub mod Texts
pub mod Parts
pub mod Shown
pub mod inner
