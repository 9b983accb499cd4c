-- A sheet's lines and words (docs/RULES.md, "The day's sheet"). Definitions only.
pub mod Words
pub mod Items
pub mod inner
