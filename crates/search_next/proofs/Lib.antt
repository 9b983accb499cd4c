-- What is shown of the transitions.
pub mod Read
pub mod Ended
pub mod Asked
pub mod Tried
pub mod Judged
pub mod Taken
pub mod Sloped
pub mod Told
