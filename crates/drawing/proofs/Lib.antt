pub mod Lodging
pub mod Parting
pub mod Running
pub mod Sound
pub mod Walking
pub mod Writing
pub mod Planned
pub mod Whole
