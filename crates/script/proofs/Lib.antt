-- Lemmas on the readers. Assumes nothing.
pub mod Gathered
pub mod Numbered
pub mod Opened
pub mod Parted
pub mod Spoken
