pub mod Journals
pub mod Evidence
pub mod Overlaps
