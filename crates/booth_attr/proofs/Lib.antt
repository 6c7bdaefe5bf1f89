pub mod ListLemmas
pub mod PoolLemmas
pub mod ChangeLemmas
pub mod WalkLemmas
