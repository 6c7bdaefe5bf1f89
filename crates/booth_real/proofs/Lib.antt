pub mod WaitingLemmas
pub mod SharingLemmas
