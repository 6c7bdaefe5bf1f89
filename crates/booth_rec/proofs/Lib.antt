pub mod SpellingLemmas
pub mod Moments
pub mod FileLemmas
pub mod Greatest
pub mod KnownLemmas
pub mod StepLemmas
pub mod ReadLemmas
pub mod MemoryLemmas
