-- Reading an input. Definitions only.
pub mod Reading
