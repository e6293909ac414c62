pub mod Contents
pub mod Laws
pub mod Order
