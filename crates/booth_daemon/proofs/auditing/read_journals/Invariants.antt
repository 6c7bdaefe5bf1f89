use Rattle.std.proofs.Common.{◌≡◌, ◌≤◌, length, take}
use Rattle.std.specs.Prelude.{vec_capacity}
use Rattle.booth_host.specs.Past.{GrewSome}
use Rattle.booth_daemon.specs.Auditing.{AreJournals}
use Rattle.booth_daemon.proofs.auditing.read_journals.Given as goal

abbrev pub invariant-loop-path : goal.invariant-loop-path
invariant-loop-path g l = record {
  past : GrewSome (AreJournals (take l.path-index l.paths) l.journals.items)
      (g.H.Host.past l.fn.host) (g.H.Host.past l.host);
  count : length l.journals.items ≡ l.path-index;
  room : length l.paths ≤ vec_capacity l.journals;
  later : g.H.Host.faults l.fn.host ≤ g.H.Host.faults l.host;
}
