use Rattle.std.proofs.Common.{◌≡◌}
use Rattle.booth_log.specs.Known.{ticket_of}
use Rattle.booth_log.proofs.known.Tickets.ticket_of.Given as goal

-- the ticket is that of those that are left
abbrev pub invariant-loop-name : goal.invariant-loop-name
invariant-loop-name l =
    (goal.iterator-loop-name).can_next l.name-iterator ×
    (goal.iterator-loop-name).is_finite l.name-iterator ×
    (ticket_of l.self l.number ≡ ticket_of l.name-iterator l.number)
