pub mod State
pub mod Outcome
pub mod Messages
pub mod Start
pub mod GrantAndRevoke
pub mod Hearing
pub mod Facts
