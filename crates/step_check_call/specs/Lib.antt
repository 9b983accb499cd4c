-- What the public check promises, and what is shown of it. Definitions only.
pub mod Promise
pub mod Claims
