pub mod Move
pub mod Waiting
pub mod Deeds
pub mod Rows
pub mod Bound
pub mod Laws
pub mod Carrying
pub mod Carried
