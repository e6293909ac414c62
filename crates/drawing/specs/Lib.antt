pub mod Builds
pub mod Held
pub mod Runs
