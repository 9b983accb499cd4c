-- The lines of a sheet by names: what each kind gives. Definitions only.
pub mod Lines
pub mod inner
