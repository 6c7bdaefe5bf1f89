pub mod Key
pub mod Mac
pub mod Ring
pub mod Pads
