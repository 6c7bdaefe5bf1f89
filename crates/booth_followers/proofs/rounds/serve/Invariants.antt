use Rattle.std.proofs.Common.{◌≡◌, ◌≤◌}
use Rattle.booth_host.specs.Past.{GrewSome}
use Rattle.booth_following.specs.Turns.{first_seat}
use Rattle.booth_followers.specs.Rounds.{AreMade}
use Rattle.booth_followers.proofs.rounds.serve.Given as goal

abbrev pub invariant-loop-round : goal.invariant-loop-round
invariant-loop-round g l = record {
  past : GrewSome
      (AreMade l.fn.service.conf l.fn.service.following l.service.following (first_seat l.fn.service.following l.fn.setting.left) l.seat l._round)
      (g.H.Host.past l.fn.host) (g.H.Host.past l.host);
  conf : l.service.conf ≡ l.fn.service.conf;
  later : g.H.Host.faults l.fn.host ≤ g.H.Host.faults l.host;
}
