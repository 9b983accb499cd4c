pub mod Agreement
pub mod Triangles
