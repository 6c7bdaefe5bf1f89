use Rattle.std.proofs.Common.{◌∙◌, ◌++◌, List, ℕ, ap, refl}
use Rattle.hex.specs.Hex.{encode_lower}
use Rattle.booth_journal.proofs.JournalLemmas.{as_text}
use Rattle.booth_journal.proofs.PieceLemmas.{cut_at, next_piece, start_pieces}
use Rattle.booth_journal.proofs.journal_host.JournalHost.write_pieces.Goals as goal

pub pieces-init : goal.pieces-init
pieces-init g c = record {
  so_far = start_pieces g.S.Sink.held g.S.Sink.faults c.args.self.now.journal c.args.bytes.now;
  host = refl;
  calls = refl;
}

pub pieces-preserved : goal.pieces-preserved
pieces-preserved g c =
    let digits : List ℕ = encode_lower c.split_at.result.0.now in
    let text = c.put_hex.ensures.bytes ∙ ap (λ (l : List ℕ). l ++ digits) c.begin.ensures in
    record {
      so_far = next_piece g.S.Sink.held g.S.Sink.faults c.args.self.now.journal c.pieces.self.journal
          c.write_draft.new.self.journal c.split_at.result.0.now c.split_at.result.1.now c.pieces.rest.now c.args.bytes.now
          c.pieces.invariant.so_far
          (cut_at c.min.result c.pieces.rest.now c.split_at.result.0.now c.split_at.result.1.now c.split_at.ensures.front
          c.split_at.ensures.back)
          (as_text text c.write_draft.ensures.wrote);
      host = c.write_draft.ensures.host ∙ c.pieces.invariant.host;
      calls = c.write_draft.ensures.calls ∙ c.pieces.invariant.calls;
    }
