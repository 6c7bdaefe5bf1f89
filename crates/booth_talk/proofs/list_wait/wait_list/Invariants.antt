use Rattle.std.proofs.Common.{◌≤◌}
use Rattle.booth_host.specs.Past.{GrewSome}
use Rattle.booth_talk.proofs.ListLemmas.{IsKeptRow}
use Rattle.booth_talk.proofs.list_wait.wait_list.Given as goal

abbrev pub invariant-loop-pair : goal.invariant-loop-pair
invariant-loop-pair g l = record {
  past : GrewSome (IsKeptRow l.fn.asking l.fn.start l._pair l.parts) (g.H.Host.past l.fn.host) (g.H.Host.past l.host);
  later : g.H.Host.faults l.fn.host ≤ g.H.Host.faults l.host;
}
