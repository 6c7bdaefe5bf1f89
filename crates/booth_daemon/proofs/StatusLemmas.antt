-- A look at a lock from its parts.
use Rattle.std.specs.Prelude.{Option, Ok}
use Rattle.std.proofs.Common.{ℕ, Bool, true, false, List, [], ◌∷◌, ap}
use Rattle.booth_host.specs.declared.entry.Entry.{Entry}
use Rattle.booth_host.specs.declared.entry.Entry.TheVariants.{Lock}
use Rattle.booth_host.specs.Past.{GrewBy, GrewSome}
use Rattle.booth_host.proofs.PastLemmas.{then_some}
use Rattle.booth_outcomes.specs.declared.outcome.Outcome.{Outcome}
use Rattle.booth_outcomes.specs.declared.outcome.Outcome.TheVariants.{Done, NotRunning, LockFault, PrintFault}
use Rattle.booth_daemon.specs.Status.{IsPrinted, IsStatus, IsStatusOutcome}

printed : (lock said : List ℕ) (free : Bool) (outcome : Outcome) (es : List Entry) → IsStatusOutcome outcome → IsPrinted free outcome said es →
    IsStatus lock outcome said (Lock lock (Ok free) ∷ es)
printed lock said free PrintFault es one is = (is.0, free, is.1, ap (λ es. Lock lock (Ok free) ∷ es) is.2)
printed lock said false Done es one is = (is.1, ap (λ es. Lock lock (Ok false) ∷ es) is.2)
printed lock said true Done es one is = let same = is.0 in cc
printed lock said true NotRunning es one is = (is.1, ap (λ es. Lock lock (Ok true) ∷ es) is.2)
printed lock said false NotRunning es one is = let same = is.0 in cc
printed lock said true LockFault es one is = let same = is.0 in cc
printed lock said false LockFault es one is = let same = is.0 in cc
printed lock said free outcome es one is = absurd one

-- the lock's answer, and the print of it
pub looked : {a b c : Option (List Entry)} (lock said : List ℕ) (free : Bool) (outcome : Outcome) → IsStatusOutcome outcome →
    GrewBy a b (Lock lock (Ok free) ∷ []) → GrewSome (IsPrinted free outcome said) b c → GrewSome (IsStatus lock outcome said) a c
looked lock said free outcome one call print =
    then_some (IsPrinted free outcome said) (IsStatus lock outcome said) call (λ es is. printed lock said free outcome es one is) print
