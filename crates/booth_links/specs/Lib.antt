pub mod Queue
pub mod Turn
pub mod Seats
pub mod Transport
