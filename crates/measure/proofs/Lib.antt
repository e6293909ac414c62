pub mod Joins
pub mod Tables
