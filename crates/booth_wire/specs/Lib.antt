pub use Rattle.booth_base.specs.Name
pub mod Command
pub mod Codes
pub mod PlainMessage
pub mod Layout
pub mod Reading
pub mod Faults
pub mod Spelling
