pub mod Fields
pub mod Flaws
pub mod Paths
