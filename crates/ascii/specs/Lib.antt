-- Text as bytes. Definitions only.
pub mod Text
pub mod inner
