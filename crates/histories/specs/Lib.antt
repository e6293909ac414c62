pub mod Calls
pub mod Expected
pub mod Promise
pub mod Queries
