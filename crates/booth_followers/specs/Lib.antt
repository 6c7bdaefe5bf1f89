pub mod Rounds
pub mod Service
pub mod Run
pub mod Faultless
pub use Rattle.booth_host.specs.Past
pub use Rattle.booth_host.specs.Causes
pub use Rattle.booth_host.specs.Memory
