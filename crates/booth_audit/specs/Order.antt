-- Holdings in the order of tickets.
use Rattle.std.proofs.Common.{zero, suc}
use Rattle.std.specs.Prelude.{◌+◌, ◌++◌, ℕ, List, []}
use Rattle.std.specs.List.{filter}
use Rattle.booth_audit.specs.declared.holding.Holding.{Holding}
use Rattle.booth_audit.specs.Noted.{is_of}

-- The holdings of this many tickets, from this ticket on. Each ticket keeps its own order.
abbrev pub by_tickets : List Holding → ℕ → ℕ → List Holding
by_tickets held ticket zero = []
by_tickets held ticket (suc count) = filter (is_of ticket) held ++ by_tickets held (ticket + 1) count
