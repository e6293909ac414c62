pub mod Boxes
pub mod Drawing
pub mod Lawful
pub mod Laws
pub mod Samples
pub mod Trees
