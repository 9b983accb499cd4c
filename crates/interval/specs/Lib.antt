-- The next float, interval arithmetic, what an interval holds, and what is claimed of all of it. Definitions only.
pub mod Next
pub mod Intervals
pub mod Held
pub mod Claims
