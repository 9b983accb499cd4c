-- The sheet of a day, from the bytes of kept records and of a plant file. Definitions only.
pub mod Promise
pub mod Claims
pub mod inner
