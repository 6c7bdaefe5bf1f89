pub mod ByteLemmas
pub mod FoundLemmas
pub mod AgainLemmas
pub mod FrameLemmas
pub mod FaultLemmas
