-- What the transitions of the search's machine leave. Definitions only.
pub mod inner
