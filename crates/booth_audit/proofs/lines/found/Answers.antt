use Rattle.std.specs.Prelude.{option_map}
use Rattle.std.specs.Borrow.{Bor}
use Rattle.std.proofs.Common.{List, ℕ, ap}
use Rattle.booth_audit.proofs.JudgeLemmas.{cut_here, differs_here, over_none, over_start, taken_here}
use Rattle.booth_audit.proofs.lines.found.Goals as goal

pub returns-in_default-clause-ends : goal.returns-in_default-clause-ends
returns-in_default-clause-ends c left says = over_none c.args.text.now left (c.in_default.ensures left says)

pub returns-then-begins_start-clause-ends : goal.returns-then-begins_start-clause-ends
returns-then-begins_start-clause-ends c left says =
    let f = c.in-Some.ensures left says in
    over_start c.args.text.now f (c.if-begins_start.ensures f.more f.says)

pub returns-then-ne-clause-ends : goal.returns-then-ne-clause-ends
returns-then-ne-clause-ends c left says =
    let f = c.in-Some.ensures left says in
    differs_here c.args.text.now f (c.if-begins_start.ensures f.more f.says) c.if-ne.ensures

pub returns-in-Some-answer-clause-taken : goal.returns-in-Some-answer-clause-taken
returns-in-Some-answer-clause-taken c left says =
    let f = c.in-Some.ensures left says in
    taken_here c.args.text.now f says (c.if-begins_start.ensures f.more f.says) c.if-ne.ensures
    (ap (option_map (λ (b : Bor (List ℕ)). b.now)) c.in-Some-answer.is)

pub returns-in-None-clause-ends : goal.returns-in-None-clause-ends
returns-in-None-clause-ends c left says =
    let f = c.in-Some.ensures left says in
    cut_here c.args.text.now f (c.if-begins_start.ensures f.more f.says) c.if-ne.ensures
    (ap (option_map (λ (b : Bor (List ℕ)). b.now)) c.in-None.is)
