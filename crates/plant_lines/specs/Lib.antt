-- What reading the lines of a plant file tells. Definitions only.
pub mod Table
pub mod inner
