pub mod Bodies
pub mod Cursors
pub mod Examined
pub mod Faults
pub mod Format
pub mod Loads
pub mod Outlines
pub mod Parts
