pub mod Gathered
pub mod Picking
pub mod Ranged
pub mod Rising
pub mod Tabled
pub mod Voting
