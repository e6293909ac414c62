-- What a script says. Assumes nothing.
pub mod Lines
pub mod Numbers
pub mod Commands
pub mod Scripts
pub mod Steps
