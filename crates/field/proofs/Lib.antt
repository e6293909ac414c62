pub mod Cleared
pub mod Flawed
pub mod Marked
pub mod Redrawn
pub mod Refreshed
pub mod Stepped
pub mod Told
pub mod Upheld
