pub mod Commands
pub mod Pages
pub mod Arguments
pub mod Given
pub mod Reading
pub mod Asking
pub mod Valid
