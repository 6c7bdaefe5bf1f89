-- The rule start.
use Rattle.std.specs.Prelude.{true, is_some, None}
use Rattle.booth_rec.specs.declared.record.Record.{Record}
use Rattle.booth_manual.specs.declared.view.ManualView.{ManualView}

-- Start: the term is the record's, and this site holds the ticket if the record has a lease; no other holder is known
abbrev pub started : Record → ManualView
started kept = record {
  term = kept.term;
  kept = kept;
  sure = true;
  owner = is_some kept.lease;
  shown = None;
  waiting = None;
}
