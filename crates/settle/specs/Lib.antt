-- Settled volumes: LSEI's, or those worked again with the limits that hold as equalities. Definitions only.
pub mod Settle
pub mod Lent
pub mod Claims
pub mod Days
pub mod inner
