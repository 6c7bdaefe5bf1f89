pub mod Kept
pub mod OwnClock
pub mod Laws
