pub mod Asked
pub mod Inquiries
pub mod Lists
pub mod Moments
pub mod Outcomes
pub mod Places
pub mod Questions
pub mod Stands
