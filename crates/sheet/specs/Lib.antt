-- The sheet by names: its grammar, what it says, and what reading it promises. Definitions only.
pub mod Sheet
pub mod Promise
pub mod Claims
pub mod inner
