pub mod LineLemmas
pub mod TurnLemmas
pub mod StandingLemmas
pub mod TermLemmas
pub mod LawLemmas
pub mod JoinedTurns
