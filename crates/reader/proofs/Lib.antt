pub mod Asked
pub mod Finishing
pub mod Placed
pub mod Righted
