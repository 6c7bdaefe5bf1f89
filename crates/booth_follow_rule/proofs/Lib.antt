pub mod StateLemmas
pub mod KnownLemmas
pub mod TimeLemmas
pub mod HeardLemmas
pub mod RowLemmas
pub mod EndLemmas
pub mod PlainLemmas
