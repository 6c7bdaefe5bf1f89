-- So many of the daemons before hold the ticket.
use Rattle.std.proofs.Common.{◌≡◌, ◌≤◌, List, Some}
use Rattle.std.specs.Prelude.{count_by, slice_get}
use Rattle.std.specs.List.{range_with_len}
use Rattle.booth_conf.specs.declared.tickets.TicketConf.{TicketConf}
use Rattle.booth_node.specs.World.{WorldEntry, last_time}
use Rattle.booth_sim.specs.Counts.{is_holder}
use Rattle.booth_sim.specs.Standing.{AreDaemons}
use Rattle.booth_sim.proofs.holders.holders.Given as goal

abbrev pub invariant-loop-place : goal.invariant-loop-place
invariant-loop-place l =
    (l.holders ≤ l.place)
    × ((before : List WorldEntry) (conf : TicketConf) → slice_get l.config.tickets l.ticket ≡ Some conf
    → AreDaemons l.config before 0 l.daemons → l.time ≡ last_time 0 before
    → l.holders ≡ count_by (is_holder l.config before conf) (range_with_len 0 l.place))
