pub mod Counted
pub mod Found
pub mod Keyed
pub mod Leading
pub mod Picked
pub mod Ranked
