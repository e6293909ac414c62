pub mod Bytes
pub mod Checks
pub mod Described
pub mod Format
pub mod Laws
pub mod Parts
pub mod Readings
pub mod Rules
