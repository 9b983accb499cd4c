-- What the iterates of the search are made of. Definitions only.
pub mod inner
