-- Kept records and plant files worked by hand. Definitions only.
pub mod WorkedPlants
