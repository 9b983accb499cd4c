-- What the public operations on B as its lower triangle promise, and what is shown of them. Definitions only.
pub mod Claims
pub mod Promise
pub mod inner
