pub mod Candidates
pub mod Examples
pub mod Questions
pub mod Ranges
pub mod Refusals
pub mod Slots
pub mod Verdict
