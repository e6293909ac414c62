pub mod Boxed
pub mod Counting
pub mod Drawn
pub mod Lawfully
pub mod Numbering
pub mod Pathed
pub mod Rebuilt
pub mod Tallying
