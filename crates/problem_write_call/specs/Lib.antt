-- What a call that writes a problem file promises, and what is shown of it. Definitions only.
pub mod Promise
pub mod Claims
pub mod inner
