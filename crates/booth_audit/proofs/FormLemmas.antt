-- A text that says calls is a journal by its form.
use Rattle.std.specs.Prelude.{Option, None, Some}
use Rattle.std.specs.List.{All, flat_map}
use Rattle.std.proofs.Common.{◌≡◌, ℕ, List, [], ◌∷◌, ◌++◌, refl, ◌∙◌, ap, subst}
use Rattle.std.proofs.lemmas.List.Elements.{All-append, All-cons, All-nil}
use Rattle.booth_journal.specs.declared.said.Answer.{Answer}
use Rattle.booth_journal.specs.declared.said.Call.{Call}
use Rattle.booth_journal.specs.declared.said.Call.TheVariants as calls
use Rattle.booth_journal.specs.Lines.{answer_text, call_text}
use Rattle.booth_journal.specs.Reading.{IsCall}
use Rattle.booth_journal.specs.Says.{AreWhole, IsAnswered, Said, Says, answer_lines, lines_saying}
use Rattle.booth_journal.specs.Texts.{AreSaid, Follows, IsFirstFault, IsInside}
use Rattle.booth_journal.proofs.OnceLemmas.{no_fault}
use Rattle.booth_journal.proofs.OneLemmas.{one_call}
use Rattle.booth_journal.proofs.PlainLemmas.{answer_inside, call_inside}

-- ---- each line is one

answers_inside : (call : Call) (answer : Option Answer) (more : List Said) → IsAnswered call answer more
    → All IsInside (answer_lines answer)
answers_inside call None more may = All-nil IsInside
answers_inside call (Some answer) more may = All-cons IsInside (answer_text answer) [] (answer_inside answer may.1) (All-nil IsInside)

lines_inside : (all : List Said) → AreWhole all → All IsInside (flat_map lines_saying all)
lines_inside [] whole = All-nil IsInside
lines_inside (said ∷ all) whole =
    All-cons IsInside (call_text said.call) (answer_lines said.answer ++ flat_map lines_saying all) (call_inside said.call whole.0)
    (All-append IsInside (answer_lines said.answer) (flat_map lines_saying all) (answers_inside said.call said.answer all whole.1)
    (lines_inside all whole.2))

-- ---- and follows from those before it

abbrev SaidFrom : Option Call → List (List ℕ) → Type 0
SaidFrom before lines = (after : Option Call) × AreSaid before lines after

-- a call without an answer, behind which a start begins
behind_cut : (call : Call) (next : Said) (lines : List (List ℕ)) → IsCall next.call → next.call ≡ calls.Now
    → SaidFrom None (call_text next.call ∷ lines) → SaidFrom (Some call) (call_text next.call ∷ lines)
behind_cut call next lines may now from = (from.0, by from.1.0 from.1.1 from.1.2)
  where
    by : (between : Option Call) → Follows None (call_text next.call) between → AreSaid between lines from.0
        → AreSaid (Some call) (call_text next.call ∷ lines) from.0
    by None follows are = absurd follows
    by (Some k) follows are =
        let same : k ≡ calls.Now = one_call (call_text next.call) k next.call follows (may, refl) ∙ now in (
          Some calls.Now,
          (refl, ap call_text now),
          subst (λ (c : Call). AreSaid (Some c) lines from.0) same are,
        )

said_so : (all : List Said) → AreWhole all → SaidFrom None (flat_map lines_saying all)
said_so [] whole = (None, refl)
said_so (said ∷ all) whole = by said.answer all whole.1 whole.2 (said_so all whole.2)
  where
    by : (answer : Option Answer) (more : List Said) → IsAnswered said.call answer more → AreWhole more
        → SaidFrom None (flat_map lines_saying more)
        → SaidFrom None (call_text said.call ∷ (answer_lines answer ++ flat_map lines_saying more))
    by (Some answer) more may whole_more from =
        (from.0, (Some said.call, (whole.0, refl), (None, (answer, (may.0, (may.1, refl))), from.1)))
    by None [] may whole_more from = (Some said.call, (Some said.call, (whole.0, refl), refl))
    by None (next ∷ more) now whole_more from =
        let cut = behind_cut said.call next (answer_lines next.answer ++ flat_map lines_saying more) whole_more.0 now from in
        (cut.0, (Some said.call, (whole.0, refl), cut.1))

pub says_no_fault : (text : List ℕ) (all : List Said) (line : ℕ) → Says text all → IsFirstFault text line → ⊥
says_no_fault text all line says fault =
    no_fault text line (record {
      lines = flat_map lines_saying all;
      tail = says.tail;
      after = (said_so all says.each).0;
      whole = says.whole;
      each = lines_inside all says.each;
      rest = says.rest;
      said = (said_so all says.each).1;
    }) fault
