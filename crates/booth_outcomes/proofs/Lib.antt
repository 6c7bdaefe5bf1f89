mod TextLemmas
mod TellingLemmas
mod ConfigurationLemmas
pub mod UsageLemmas
pub mod CallLemmas
pub mod EndedLemmas
mod KeyLemmas
