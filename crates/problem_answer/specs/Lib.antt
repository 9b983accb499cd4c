-- What the record program writes. Definitions only.
pub mod Text
pub mod Program
pub mod Promise
pub mod Claims
pub mod Cases
pub mod inner
