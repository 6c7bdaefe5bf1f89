use Rattle.std.proofs.Common.{◌≤◌}
use Rattle.booth_host.specs.Past.{GrewSome}
use Rattle.booth_talk.specs.Waiting.{IsRow, IsSilent}
use Rattle.booth_talk.proofs.wait.wait_first.Given as goal

abbrev pub invariant-loop-pair : goal.invariant-loop-pair
invariant-loop-pair g l = record {
  past : GrewSome (IsRow (IsSilent l.fn.asking l.fn.start) l._pair) (g.H.Host.past l.fn.host) (g.H.Host.past l.host);
  later : g.H.Host.faults l.fn.host ≤ g.H.Host.faults l.host;
}
