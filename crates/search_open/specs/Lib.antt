-- How a turn of the search opens, as its inner functions tell it. Definitions only.
pub mod inner
