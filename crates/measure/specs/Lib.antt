pub mod Roots
pub mod Weight
pub mod Rooted
