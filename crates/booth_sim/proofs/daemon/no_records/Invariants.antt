-- So many records, and none of any ticket.
use Rattle.std.proofs.Common.{◌≡◌, replicate, None}
use Rattle.booth_sim.proofs.daemon.no_records.Given as goal

abbrev pub invariant-loop-ticket : goal.invariant-loop-ticket
invariant-loop-ticket l = l.kept.items ≡ replicate l._ticket None
