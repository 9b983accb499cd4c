pub mod Volumes
