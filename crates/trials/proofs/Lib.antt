pub mod FarLemmas
