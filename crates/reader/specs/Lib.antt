pub mod Rights
pub mod Views
pub mod Walked
