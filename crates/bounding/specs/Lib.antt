pub mod Distances
pub mod Fields
