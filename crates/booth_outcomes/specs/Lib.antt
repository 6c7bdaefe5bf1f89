pub mod Texts
pub mod Pages
pub mod Unasked
pub mod Outcomes
pub mod Configuration
pub mod Keys
pub use Rattle.booth_host.specs.Past
pub use Rattle.booth_host.specs.Causes
