pub mod Views
pub mod Scenes
pub mod Walk
pub mod Laws
