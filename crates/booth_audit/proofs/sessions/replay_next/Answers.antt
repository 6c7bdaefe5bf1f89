use Rattle.std.specs.Prelude.{List, ℕ, option_map}
use Rattle.std.specs.Borrow.{Bor}
use Rattle.std.proofs.Common.{ap, arith, refl}
use Rattle.booth_audit.specs.declared.end.End.TheVariants.{Cut, Differs}
use Rattle.booth_audit.proofs.SessionLemmas.{cut_shorter, differs_shorter, next_cut, next_none, next_run, next_strays, two_lines}
use Rattle.booth_audit.proofs.sessions.replay_next.Goals as goal

pub returns-in_default : goal.returns-in_default
returns-in_default c left says = (c.in_default.ensures left says, refl)

pub returns-then-not-is_now : goal.returns-then-not-is_now
returns-then-not-is_now c left says =
    let f = c.in-Some.ensures left says in
    next_none Differs says (next_strays c.args.whose.now.node c.args.from.line f c.if-not-is_now.ensures)
    c.left_behind.ensures (differs_shorter c.left_behind.ensures)

pub returns-in_default-answer : goal.returns-in_default-answer
returns-in_default-answer c left says =
    let f = c.in-Some.ensures left says in
    next_none Cut says
    (next_cut c.args.whose.now.node c.args.from.line f c.if-not-is_now.ensures
    (ap (option_map (λ (b : Bor (List ℕ)). b.now)) c.in_default-answer.is))
    c.left_behind-in_default-answer.ensures
    (cut_shorter c.args.from.line c.left_behind-in_default-answer.result.left.line f says
    c.left_behind-in_default-answer.ensures)

pub replay_start-requires : goal.replay_start-requires
replay_start-requires c =
    let f = c.in-Some.ensures c.requires.says.0 c.requires.says.1 in
    let two = two_lines c.args.whose.now.node c.args.from.line f c.in-Some-answer.bytes.now
    (ap (option_map (λ (b : Bor (List ℕ)). b.now)) c.in-Some-answer.is) in
    let long = f.shorter in
    let short = c.requires.short in
    record { short = omega (arith, two, long, short); says = (f.more, f.says) }

pub returns : goal.returns
returns c left says =
    let f = c.in-Some.ensures left says in
    next_run c.args.from.line c.in-Ok-Reading.reading c.in-Some-answer.bytes.now c.in-Ok-Reading.field-0 f
    c.if-not-is_now.ensures (ap (option_map (λ (b : Bor (List ℕ)). b.now)) c.in-Some-answer.is) says
    c.in-Ok-Reading.ensures.found c.in-Ok-Reading.field-0-is (c.in_ok-found.ensures f.more f.says)
