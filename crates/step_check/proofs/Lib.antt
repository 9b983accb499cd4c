pub mod First
pub mod Sloping
pub mod Rows
pub mod Shown
pub mod Lower
