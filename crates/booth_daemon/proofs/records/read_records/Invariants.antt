use Rattle.std.proofs.Common.{◌≡◌, ◌≤◌, length, take}
use Rattle.std.specs.Prelude.{vec_capacity}
use Rattle.booth_host.specs.Past.{GrewSome}
use Rattle.booth_daemon.specs.Records.{AreKept}
use Rattle.booth_daemon.proofs.records.read_records.Given as goal

abbrev pub invariant-loop-ticket : goal.invariant-loop-ticket
invariant-loop-ticket g l = record {
  past : GrewSome (AreKept (take l.ticket-index l.tickets) l.records.items)
      (g.H.Host.past l.fn.host) (g.H.Host.past l.host);
  count : length l.records.items ≡ l.ticket-index;
  room : length l.tickets ≤ vec_capacity l.records;
  later : g.H.Host.faults l.fn.host ≤ g.H.Host.faults l.host;
}
