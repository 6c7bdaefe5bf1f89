pub mod KeyLemmas
pub mod MacLemmas
pub mod LenLemmas
