mod ClientLemmas
mod MoveLemmas
mod ClientFaultless
mod MoveFaultless
