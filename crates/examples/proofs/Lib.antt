pub mod Reached
pub mod Five
pub mod Agreed
pub mod Drawn
pub mod Blended
pub mod Lasted
