pub mod SealLemmas
pub mod GateLemmas
pub mod FaultLemmas
