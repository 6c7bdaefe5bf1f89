mod RequiredLemmas
mod GivenLemmas
mod ReadingLemmas
pub mod AskingLemmas
pub mod ValidLemmas
