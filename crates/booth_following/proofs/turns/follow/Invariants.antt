use Rattle.std.proofs.Common.{◌≤◌}
use Rattle.booth_host.specs.Past.{GrewSome}
use Rattle.booth_following.specs.Turns.{IsUnderway}
use Rattle.booth_following.proofs.turns.follow.Given as goal

abbrev pub invariant-loop-turn : goal.invariant-loop-turn
invariant-loop-turn g l = record {
  past : GrewSome (IsUnderway l.fn.f l.fn.seat l.seat l.awaited l._turn) (g.H.Host.past l.fn.host) (g.H.Host.past l.host);
  later : g.H.Host.faults l.fn.host ≤ g.H.Host.faults l.host;
}
