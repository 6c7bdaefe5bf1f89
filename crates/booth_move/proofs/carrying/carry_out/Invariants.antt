use Rattle.std.proofs.Common.{◌≡◌, ◌≤◌, ◌+◌, ◌*◌}
use Rattle.booth_talk.specs.declared.wait.TheConstants.{MOST_PAIRS}
use Rattle.booth_host.specs.Past.{GrewSome}
use Rattle.booth_move.specs.Bound.{pairs_left}
use Rattle.booth_move.specs.Carrying.{IsUnderway, setup_of}
use Rattle.booth_move.proofs.carrying.carry_out.Given as goal

abbrev pub invariant-loop-pair : goal.invariant-loop-pair
invariant-loop-pair g l = record {
  past : GrewSome (IsUnderway l.fn.moving l.fn.start l.mover.stage l._pair) (g.H.Host.past l.fn.host) (g.H.Host.past l.host);
  setup : l.mover.setup ≡ setup_of l.fn.moving;
  some : 1 ≤ pairs_left l.mover.stage;
  left : pairs_left l.mover.stage + l._pair ≤ 36 * MOST_PAIRS;
  later : g.H.Host.faults l.fn.host ≤ g.H.Host.faults l.host;
}
