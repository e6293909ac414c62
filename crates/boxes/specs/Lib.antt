pub mod Grids
pub mod Views
