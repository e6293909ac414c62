pub mod Counts
pub mod Lowest
pub mod Majority
pub mod Ranks
