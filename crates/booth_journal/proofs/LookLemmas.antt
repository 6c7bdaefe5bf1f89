-- The first call of a text that says calls.
use Rattle.std.specs.Prelude.{codes, length, Option, None, Some, option_map}
use Rattle.std.specs.List.{flat_map}
use Rattle.std.proofs.Common.{◌≡◌, ◌+◌, ℕ, List, [], ◌∷◌, ◌++◌, refl, sym, ◌∙◌, ap, subst, arith, length-append}
use Rattle.booth_journal.specs.declared.said.Answer.{Answer}
use Rattle.booth_journal.specs.declared.said.Call.{Call}
use Rattle.booth_journal.specs.Fields.{HasNo, IsCut}
use Rattle.booth_journal.specs.Lines.{answer_text, call_text, line}
use Rattle.booth_journal.specs.Looking.{HasNoAnswer, IsFirstCall}
use Rattle.booth_journal.specs.Says.{AreWhole, IsAnswered, Said, Says, answer_lines, lines_saying}
use Rattle.booth_journal.specs.Texts.{IsInside}
use Rattle.booth_journal.proofs.BlankLemmas.{no_cut, one_cut}
use Rattle.booth_journal.proofs.OneLemmas.{no_answer_is_now}
use Rattle.booth_journal.proofs.OnceLemmas.{first_line}
use Rattle.booth_journal.proofs.PlainLemmas.{answer_inside, call_inside}

-- ---- no line is left

pub none_left : (text : List ℕ) → HasNo 0x0A text → (left : List Said) → Says text left → left ≡ []
none_left text plain [] says = refl
none_left text plain (said ∷ more) says =
    let rest = flat_map line (answer_lines said.answer ++ flat_map lines_saying more) in
    absurd (no_cut 0x0A text (call_text said.call) (rest ++ says.tail) plain
    (says.whole ∙ first_line (call_text said.call) rest says.tail))

-- ---- the first line is a call's

-- what stands behind it
record Begins (text first more : List ℕ) (left : List Said) : Type 0 where
  said : Said
  others : List Said
  tail : List ℕ
  is : left ≡ said ∷ others
  call_is : first ≡ call_text said.call
  more_is : more ≡ flat_map line (answer_lines said.answer ++ flat_map lines_saying others) ++ tail
  rest : IsInside tail
  each : AreWhole (said ∷ others)
  long : length text ≡ length first + 1 + length more

begins : (text first more : List ℕ) → IsCut 0x0A text first more → (left : List Said) → Says text left
    → Begins text first more left
begins text first more cut [] says = absurd (no_cut 0x0A says.tail first more says.rest (sym says.whole ∙ cut.joined))
begins text first more cut (said ∷ others) says =
    let rest = flat_map line (answer_lines said.answer ++ flat_map lines_saying others) in
    let both = one_cut 0x0A first (call_text said.call) more (rest ++ says.tail) cut.plain
    (call_inside said.call says.each.0)
    (sym cut.joined ∙ says.whole ∙ first_line (call_text said.call) rest says.tail) in
    record {
      said = said;
      others = others;
      tail = says.tail;
      is = refl;
      call_is = both.0;
      more_is = both.1;
      rest = says.rest;
      each = says.each;
      long = ap length cut.joined ∙ length-append first (0x0A ∷ more) ∙ omega arith;
    }

-- ---- with and without an answer

-- where none came
no_answer : (call : Call) (answer : Option Answer) (others : List Said) (more tail : List ℕ)
    → more ≡ flat_map line (answer_lines answer ++ flat_map lines_saying others) ++ tail → IsInside tail
    → IsAnswered call answer others → HasNoAnswer more
    → (None ≡ option_map (λ (a : Answer). answer_text a) answer)
    × (more ≡ flat_map line (flat_map lines_saying others) ++ tail) × (length (answer_lines answer) ≡ 0)
no_answer call None others more tail is of_tail answered none = (refl, is, refl)
no_answer call (Some answer) others more tail is of_tail answered none =
    let rest = flat_map line (flat_map lines_saying others) in
    let now = none (answer_text answer) (rest ++ tail)
    (record { plain = answer_inside answer answered.1; joined = is ∙ first_line (answer_text answer) rest tail }) in
    absurd (no_answer_is_now call answer (answered.0, (answered.1, sym now)))

-- where one came
some_answer : (call : Call) (answer : Option Answer) (others : List Said) (more tail first behind : List ℕ)
    → more ≡ flat_map line (answer_lines answer ++ flat_map lines_saying others) ++ tail → IsInside tail
    → IsAnswered call answer others → IsCut 0x0A more first behind → (first ≡ codes "now" → ⊥)
    → (Some first ≡ option_map (λ (a : Answer). answer_text a) answer)
    × (behind ≡ flat_map line (flat_map lines_saying others) ++ tail) × (length (answer_lines answer) ≡ 1)
some_answer call (Some answer) others more tail first behind is of_tail answered cut other =
    let rest = flat_map line (flat_map lines_saying others) in
    let both = one_cut 0x0A first (answer_text answer) behind (rest ++ tail) cut.plain (answer_inside answer answered.1)
    (sym cut.joined ∙ is ∙ first_line (answer_text answer) rest tail) in
    (ap Some both.0, both.1, refl)
some_answer call None [] more tail first behind is of_tail answered cut other =
    absurd (no_cut 0x0A tail first behind of_tail (sym is ∙ cut.joined))
some_answer call None (said ∷ others) more tail first behind is of_tail answered cut other =
    let rest = flat_map line (answer_lines said.answer ++ flat_map lines_saying others) in
    let now : codes "now" ≡ call_text said.call = sym (ap call_text answered) in
    let both = one_cut 0x0A first (call_text said.call) behind (rest ++ tail) cut.plain
    (subst IsInside now refl) (sym cut.joined ∙ is ∙ first_line (call_text said.call) rest tail) in
    absurd (other (both.0 ∙ sym now))

-- ---- the first call

pub looked_without : (text call more : List ℕ) → IsCut 0x0A text call more → HasNoAnswer more → (left : List Said)
    → Says text left → IsFirstCall text left call None more
looked_without text call more cut none left says =
    let b = begins text call more cut left says in
    let a = no_answer b.said.call b.said.answer b.others more b.tail b.more_is b.rest b.each.1 none in
    let long = b.long in
    let lines = a.2 in
    record {
      said = b.said;
      more = b.others;
      is = b.is;
      call_is = b.call_is;
      answer_is = a.0;
      says = record { tail = b.tail; whole = a.1; rest = b.rest; each = b.each.2 };
      shorter = omega (arith, long, lines);
    }

pub looked_with : (text call more answer behind : List ℕ) → IsCut 0x0A text call more → IsCut 0x0A more answer behind
    → (answer ≡ codes "now" → ⊥) → (left : List Said) → Says text left → IsFirstCall text left call (Some answer) behind
looked_with text call more answer behind cut also other left says =
    let b = begins text call more cut left says in
    let a = some_answer b.said.call b.said.answer b.others more b.tail answer behind b.more_is b.rest b.each.1 also other in
    let long = b.long in
    let lines = a.2 in
    let second : length more ≡ length answer + 1 + length behind =
    ap length also.joined ∙ length-append answer (0x0A ∷ behind) ∙ omega arith in
    record {
      said = b.said;
      more = b.others;
      is = b.is;
      call_is = b.call_is;
      answer_is = a.0;
      says = record { tail = b.tail; whole = a.1; rest = b.rest; each = b.each.2 };
      shorter = omega (arith, long, second, lines);
    }

-- ---- what stands behind a call

pub plain_answer : (text : List ℕ) → HasNo 0x0A text → HasNoAnswer text
plain_answer text plain first behind cut = absurd (no_cut 0x0A text first behind plain cut.joined)

pub now_answer : (text first behind : List ℕ) → IsCut 0x0A text first behind → first ≡ codes "now" → HasNoAnswer text
now_answer text first behind cut now other more also =
    (one_cut 0x0A other first more behind also.plain cut.plain (sym also.joined ∙ cut.joined)).0 ∙ now
