-- Totalisers of six digits. Definitions only.
pub mod Claims
pub mod Volume
