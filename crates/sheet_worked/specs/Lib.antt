-- Sheets worked by hand. Definitions only.
pub mod WorkedSheets
