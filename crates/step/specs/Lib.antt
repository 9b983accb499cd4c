-- The step's code: what its answers mean, and what its functions leave in the workspace. Definitions only.
pub mod Step
pub mod inner
