-- Where LSEI's inputs and answers stand in the workspace. Definitions only.
pub mod inner
