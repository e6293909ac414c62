pub mod Agreed
pub mod Answered
pub mod Lawful
pub mod Places
pub mod Promised
pub mod Runs
