use Rattle.std.specs.Prelude.{codes}
use Rattle.std.proofs.Common.{◌≡◌, ◌∙◌, rules, sym}
use Rattle.std.proofs.lemmas.Slice.Eq.{bytes_eq-Decides}
use Rattle.booth_journal.proofs.LookLemmas.{now_answer}
use Rattle.booth_journal.proofs.looking.answer_of.Goals as goal

pub returns-then-eq : goal.returns-then-eq
returns-then-eq c =
    let is : c.as_slice.result.now ≡ codes "now" = search rules in
    now_answer c.args.text.now c.in-Some.first.now c.in-Some.behind.now c.in-Some.ensures
    ((bytes_eq-Decides _ _).0 (sym c.if-eq.ensures) ∙ is)
