pub mod Services
pub mod ServiceExample
pub mod RunExample
