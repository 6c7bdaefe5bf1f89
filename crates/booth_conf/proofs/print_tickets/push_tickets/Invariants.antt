use Rattle.std.proofs.Common.{◌≡◌, ◌++◌, take}
use Rattle.std.specs.List.{flat_map}
use Rattle.booth_conf.specs.Print.{lines_text, ticket_settings}
use Rattle.booth_conf.proofs.print_tickets.push_tickets.Given as goal

abbrev pub invariant-loop-ticket : goal.invariant-loop-ticket
invariant-loop-ticket l =
    l.out.items ≡ l.fn.out.items ++ lines_text (flat_map ticket_settings (take l.ticket-index l.tickets))
