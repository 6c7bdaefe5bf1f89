use Rattle.std.proofs.Common.{◌≡◌, length}
use Rattle.booth_journal.proofs.PieceLemmas.{SoFar}
use Rattle.booth_journal.proofs.journal_host.JournalHost.write_pieces.Given as goal

abbrev pub invariant-pieces : goal.invariant-pieces
invariant-pieces g l = record {
  so_far : SoFar g.S.Sink.held g.S.Sink.faults l.fn.self.journal l.self.journal l.rest l.fn.bytes;
  host : l.self.host ≡ l.fn.self.host;
  calls : l.self.calls.items ≡ l.fn.self.calls.items;
}

abbrev pub decreases-pieces : goal.decreases-pieces
decreases-pieces g l = length l.rest
