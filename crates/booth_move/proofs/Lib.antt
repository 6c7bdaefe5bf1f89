pub mod RowLemmas
pub mod SoundLemmas
pub mod LawLemmas
pub mod EndLemmas
pub mod ReplyLemmas
pub mod CarryingLemmas
pub mod CarriedLemmas
