-- What the calls of the search are made of; their promise is in `search`. Definitions only.
pub mod inner
