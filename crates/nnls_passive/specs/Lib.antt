-- The solve on the passive columns, and what its steps do to the workspaces. Definitions only.
pub mod Passive
pub mod inner
