use Rattle.std.specs.Prelude.{List, Option, None, Some, length}
use Rattle.std.proofs.Common.{◌≤◌, ◌+◌, ◌^◌, ◌∙◌, ap, refl, sym, subst, arith}
use Rattle.booth_journal.specs.Says.{Says}
use Rattle.booth_rec.specs.declared.record.Record.{Record}
use Rattle.booth_audit.specs.Left.{LinesLeft}
use Rattle.booth_audit.proofs.SessionLemmas.{run_none, run_session, started_here}
use Rattle.booth_audit.proofs.sessions.replay_start.Goals as goal

pub read_start-requires : goal.read_start-requires
read_start-requires c =
    let is = c.new-lines.ensures in
    record {
      running = ap (λ (l : LinesLeft). l.end) is;
      short = subst (λ (l : LinesLeft). l.line + length l.rest ≤ 2 ^ 63) (sym is) c.requires.short;
      says = (c.requires.says.0, subst (λ (l : LinesLeft). Says l.rest c.requires.says.0) (sym is) c.requires.says.1);
    }

pub left_behind-requires : goal.left_behind-requires
left_behind-requires c =
    let left = c.requires.says.0 in
    let has = started_here c.args.whose.now.node c.args.reading c.args.from.rest.now c.args.from.line left None
    c.new-lines.result c.read_start.new.lines c.rest.result.now c.line.result c.end.result c.new-lines.ensures
    c.rest.ensures c.line.ensures c.end.ensures c.requires.says.1
    (λ says. let h = c.in_ok-started.ensures c.args.reading left says in rw c.in_default.is at h) in
    let within = has.left.within in
    let short = c.requires.short in
    omega (arith, within, short)

pub start-requires : goal.start-requires
start-requires c =
    let left = c.requires.says.0 in
    let has = started_here c.args.whose.now.node c.args.reading c.args.from.rest.now c.args.from.line left
    (Some c.in-Some.records.items) c.new-lines.result c.read_start.new.lines c.rest.result.now c.line.result
    c.read_start.new.lines.end c.new-lines.ensures c.rest.ensures c.line.ensures refl c.requires.says.1
    (λ says. let h = c.in_ok-started.ensures c.args.reading left says in rw c.in-Some.is at h) in
    let within = has.left.within in
    let short = c.requires.short in
    let less = c.saturating_sub.ensures in
    record { short = omega (arith, within, short, less) }

pub open-requires : goal.open-requires
open-requires c =
    let left = c.requires.says.0 in
    let has = started_here c.args.whose.now.node c.args.reading c.args.from.rest.now c.args.from.line left
    (Some c.in-Some.records.items) c.new-lines.result c.read_start.new.lines c.rest.result.now c.line.result
    c.read_start.new.lines.end c.new-lines.ensures c.rest.ensures c.line.ensures refl c.requires.says.1
    (λ says. let h = c.in_ok-started.ensures c.args.reading left says in rw c.in-Some.is at h) in
    ap (λ (l : List (Option Record)). length l) c.as_slice-read.ensures.value ∙ has.started.0

pub replay_turns-requires : goal.replay_turns-requires
replay_turns-requires c =
    let left = c.requires.says.0 in
    let has = started_here c.args.whose.now.node c.args.reading c.args.from.rest.now c.args.from.line left
    (Some c.in-Some.records.items) c.new-lines.result c.read_start.new.lines c.rest.result.now c.line.result
    c.read_start.new.lines.end c.new-lines.ensures c.rest.ensures c.line.ensures refl c.requires.says.1
    (λ says. let h = c.in_ok-started.ensures c.args.reading left says in rw c.in-Some.is at h) in
    let within = has.left.within in
    let short = c.requires.short in
    record {
      member = c.in_ok-node.ensures.node;
      short = omega (arith, within, short);
      says = (has.then_left, has.left.says);
    }

pub returns-in_default : goal.returns-in_default
returns-in_default c left says =
    run_none
    (started_here c.args.whose.now.node c.args.reading c.args.from.rest.now c.args.from.line left None
    c.new-lines.result c.read_start.new.lines c.rest.result.now c.line.result c.end.result c.new-lines.ensures
    c.rest.ensures c.line.ensures c.end.ensures says
    (λ then_says. let h = c.in_ok-started.ensures c.args.reading left then_says in rw c.in_default.is at h))
    c.left_behind.ensures

pub returns : goal.returns
returns c left says =
    let has = started_here c.args.whose.now.node c.args.reading c.args.from.rest.now c.args.from.line left
    (Some c.in-Some.records.items) c.new-lines.result c.read_start.new.lines c.rest.result.now c.line.result
    c.read_start.new.lines.end c.new-lines.ensures c.rest.ensures c.line.ensures refl says
    (λ then_says. let h = c.in_ok-started.ensures c.args.reading left then_says in rw c.in-Some.is at h) in
    run_session has c.as_slice-read.ensures.value c.saturating_sub.ensures c.in_ok-start.ensures c.in_ok-node.ensures.state
    (c.in_ok-found.ensures has.then_left has.left.says)
