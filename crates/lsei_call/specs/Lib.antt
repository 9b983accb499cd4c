-- How the public answers of LDP, LSI and LSEI read as docs/RULES.md's numbers, and what stands in the workspaces on the way. Definitions only.
pub mod Claims
pub mod Promise
pub mod inner
