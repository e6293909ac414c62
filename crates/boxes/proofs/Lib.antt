pub mod Gridded
pub mod Viewed
