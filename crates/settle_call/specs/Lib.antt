-- What the calls that settle and certify a day's volumes promise, and what is shown of them. Definitions only.
pub mod Claims
pub mod Promise
pub mod inner
