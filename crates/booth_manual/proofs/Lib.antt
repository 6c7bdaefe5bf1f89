pub mod FactsLemmas
