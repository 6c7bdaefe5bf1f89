-- The calls that lines say.
use Rattle.std.specs.Prelude.{Option, None, Some}
use Rattle.std.specs.List.{flat_map}
use Rattle.std.proofs.Common.{◌≡◌, ℕ, List, [], ◌∷◌, ◌++◌, refl, sym, ◌∙◌, ap, subst}
use Rattle.booth_journal.specs.declared.said.Answer.{Answer}
use Rattle.booth_journal.specs.declared.said.Call.{Call}
use Rattle.booth_journal.specs.Lines.{answer_text, call_text, line}
use Rattle.booth_journal.specs.Reading.{IsCall}
use Rattle.booth_journal.specs.Says.{AreWhole, IsAnswered, JournalsSayCalls, Said, answer_lines, lines_saying}
use Rattle.booth_journal.specs.Texts.{AreSaid, Follows}

-- lines as calls; behind a call that has no answer yet they begin with its answer, or it has none
abbrev Gathered : Option Call → List (List ℕ) → Type 0
Gathered None lines = (all : List Said) × (lines ≡ flat_map lines_saying all) × AreWhole all
Gathered (Some call) lines =
    (answer : Option Answer) × (all : List Said) × (lines ≡ answer_lines answer ++ flat_map lines_saying all)
    × IsAnswered call answer all × AreWhole all

one_more : (before : Option Call) (text : List ℕ) (texts : List (List ℕ)) (between : Option Call) → Follows before text between
    → Gathered between texts → Gathered before (text ∷ texts)
one_more None text texts None follows rest = absurd follows
one_more None text texts (Some call) follows rest = (
  record { call = call; answer = rest.0 } ∷ rest.1,
  ap (λ l. l ∷ texts) follows.1 ∙ ap (λ l. call_text call ∷ l) rest.2,
  (follows.0, rest.3, rest.4),
)
one_more (Some call) text texts None follows rest = (
  Some follows.0,
  rest.0,
  ap (λ l. l ∷ texts) follows.1.1.1 ∙ ap (λ l. answer_text follows.0 ∷ l) rest.1,
  (follows.1.0, follows.1.1.0),
  rest.2,
)
one_more (Some call) text texts (Some next) follows rest = (
  None,
  record { call = next; answer = rest.0 } ∷ rest.1,
  ap (λ l. l ∷ texts) (follows.1 ∙ ap call_text (sym follows.0)) ∙ ap (λ l. call_text next ∷ l) rest.2,
  follows.0,
  (subst IsCall (sym follows.0) tt, rest.3, rest.4),
)

gathered : (lines : List (List ℕ)) (before after : Option Call) → AreSaid before lines after → Gathered before lines
gathered [] None after said = ([], refl, tt)
gathered [] (Some call) after said = (None, [], refl, tt, tt)
gathered (text ∷ texts) before after said =
    one_more before text texts said.0 said.1 (gathered texts said.0 after said.2)

pub journals_say_calls : JournalsSayCalls
journals_say_calls text journal =
    let calls_of = gathered journal.lines None journal.after journal.said in (
      calls_of.0,
      record {
        tail = journal.tail;
        whole = journal.whole ∙ ap (λ l. flat_map line l ++ journal.tail) calls_of.1;
        rest = journal.rest;
        each = calls_of.2;
      },
    )
