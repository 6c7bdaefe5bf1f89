pub mod Past
pub mod Causes
pub mod Told
pub mod Memory
pub mod Records
pub use Rattle.booth_base.specs.Tree
