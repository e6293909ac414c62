pub mod Covered
pub mod Seen
