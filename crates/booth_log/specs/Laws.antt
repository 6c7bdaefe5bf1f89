-- What the log lines mean to their readers.
use Rattle.std.specs.Prelude.{◌≡◌, ℕ, List, [], ◌∷◌, Option, None, Some, Result, Ok}
use Rattle.booth_host.specs.declared.entry.Entry.TheVariants.{Keep}
use Rattle.booth_host.specs.declared.host.Failed.{Failed}
use Rattle.booth_rec.specs.declared.record.Lease.{Lease}
use Rattle.booth_rec.specs.declared.record.Record.{Record}
use Rattle.booth_log.specs.declared.happening.Happening.TheVariants.{Gains}
use Rattle.booth_log.specs.declared.seen.Seen.{Seen}
use Rattle.booth_log.specs.Known.{known_of}
use Rattle.booth_log.specs.Calls.{lines_of}
use Rattle.booth_log.specs.Texts.{line, of_ticket, happening_text}

-- the known lease of a ticket
abbrev pub lease_in : Seen → List ℕ → Option Lease
lease_in seen ticket = (known_of seen.tickets ticket).lease

-- a record that changes no lease, for example a promise to another site, has no line, however its write ends
abbrev pub PromisesAreSilent : Type 0
PromisesAreSilent = (seen : Seen) (ticket : List ℕ) (kept : Record) (answer : Result (Unit {0}) Failed)
    → kept.lease ≡ lease_in seen ticket → lines_of seen (Keep ticket kept answer) ≡ []

-- a lease that was written with a new end in its term has no line
abbrev pub RenewalsAreSilent : Type 0
RenewalsAreSilent = (seen : Seen) (ticket : List ℕ) (kept : Record) (old new : Lease)
    → lease_in seen ticket ≡ Some old → kept.lease ≡ Some new → old.term ≡ new.term
    → lines_of seen (Keep ticket kept (Ok tt)) ≡ []

-- a lease that was written when none was known has its line
abbrev pub GainsAreTold : Type 0
GainsAreTold = (seen : Seen) (ticket : List ℕ) (kept : Record) (lease : Lease)
    → lease_in seen ticket ≡ None → kept.lease ≡ Some lease
    → lines_of seen (Keep ticket kept (Ok tt)) ≡ line (of_ticket ticket (happening_text (Gains lease))) ∷ []
