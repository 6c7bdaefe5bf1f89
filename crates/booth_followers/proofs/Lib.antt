mod ServiceLemmas
mod RoundLemmas
mod RunLemmas
mod FaultlessLemmas
