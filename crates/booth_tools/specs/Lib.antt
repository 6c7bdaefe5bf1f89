pub mod Client
pub mod MoveLook
pub mod MoveRun
pub mod ClientRun
pub use Rattle.booth_host.specs.Past
pub use Rattle.booth_host.specs.Causes
pub use Rattle.booth_host.specs.Memory
