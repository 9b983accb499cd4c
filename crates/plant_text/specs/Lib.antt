-- No definitions of its own: what is written is that of crate plant.
pub mod inner
