-- Floats, sums, lists and matrices: the words that all definitions use; the root, and what is shown of it. Definitions only.
pub mod Numbers
pub mod Root
pub mod Rounded
pub mod Ordered
