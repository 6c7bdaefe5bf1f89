use Rattle.std.proofs.Common.{◌≤◌, ◌+◌, ◌∙◌, ℕ, List, [], ◌∷◌, drop, length, length-append, sym, ap, subst, arith}
use Rattle.std.specs.Prelude.{Option}
use Rattle.booth_rec.specs.declared.record.Record.{Record}
use Rattle.booth_audit.specs.Course.{kept_calls, start_on}
use Rattle.booth_audit.proofs.BeginLemmas.{ReadsOn}
use Rattle.booth_audit.proofs.RecordLemmas.{records_all, records_ended, records_failed, records_more, records_next}
use Rattle.booth_audit.proofs.starting.read_records.Goals as goal

pub returns-in-Some-end : goal.returns-in-Some-end
returns-in-Some-end c node reading left same says =
    records_ended c.record.new.self c.bytes.result.now c.in-Some.found
    (records_next c.args.tickets.now c.loop-ticket.ticket-index c.ticket-item.result c.loop-ticket-test.true c.ticket-item.is
    (c.loop-ticket.invariant.on node reading left says))
    c.requires.short c.loop-ticket.invariant.running (c.bytes.ensures.value ∙ c.spell_kept.ensures.bytes)
    (λ l s. c.in-Some.ensures l s) c.in-Some-end.field-0 (sym c.in-Some-end.is ∙ c.end.ensures)

pub returns-in-Err : goal.returns-in-Err
returns-in-Err c node reading left same says =
    records_failed c.record.new.self c.bytes.result.now c.in-Some.found
    (records_next c.args.tickets.now c.loop-ticket.ticket-index c.ticket-item.result c.loop-ticket-test.true c.ticket-item.is
    (c.loop-ticket.invariant.on node reading left says))
    c.requires.short c.loop-ticket.invariant.running (c.bytes.ensures.value ∙ c.spell_kept.ensures.bytes)
    (λ l s. c.in-Some.ensures l s) c.in-Err.field-0 c.in-Err.is (sym c.in-None.is ∙ c.end.ensures)

pub loop-ticket-preserved : goal.loop-ticket-preserved
loop-ticket-preserved c = record {
  running = sym c.end.ensures ∙ c.in-None.is;
  count = omega (
    arith,
    c.loop-ticket.invariant.count,
    ap (λ (l : List (Option Record)). length l) c.push_reserved.ensures.items,
    length-append c.loop-ticket.records.items (c.in-Ok.record ∷ []),
  );
  room = subst (λ (n : ℕ). length c.args.tickets.now ≤ n) (sym c.push_reserved.ensures.capacity)
      c.loop-ticket.invariant.room;
  on = λ node reading left says.
      subst
      (λ (r : List (Option Record)). ReadsOn node reading
      (start_on node reading [] (kept_calls c.args.tickets.now) c.args.lines.now.line left) r
      (kept_calls (drop (c.loop-ticket.ticket-index + 1) c.args.tickets.now)) c.args.lines.now c.record.new.self)
      (sym c.push_reserved.ensures.items)
      (records_more c.record.new.self c.bytes.result.now c.in-Some.found
      (records_next c.args.tickets.now c.loop-ticket.ticket-index c.ticket-item.result c.loop-ticket-test.true
      c.ticket-item.is (c.loop-ticket.invariant.on node reading left says))
      c.requires.short c.loop-ticket.invariant.running (c.bytes.ensures.value ∙ c.spell_kept.ensures.bytes)
      (λ l s. c.in-Some.ensures l s) c.in-Ok.record c.in-Ok.is (sym c.in-None.is ∙ c.end.ensures));
}

pub returns : goal.returns
returns c node reading left same says =
    records_all c.args.tickets.now c.loop-ticket.ticket-index c.loop-ticket-test.false same
    (omega (arith, c.loop-ticket.invariant.count, c.loop-ticket-test.false, c.loop-ticket.auto.ticket-index-end))
    (c.loop-ticket.invariant.on node reading left says)
