-- The lines of a text, read one by one.
use Rattle.std.specs.Prelude.{codes, length, Option, None}
use Rattle.std.specs.List.{All, flat_map}
use Rattle.std.proofs.Common.{◌≡◌, ◌≤◌, ◌+◌, ℕ, List, [], ◌∷◌, ◌++◌, refl, sym, ◌∙◌, ap, subst, arith, append_assoc, append-nil, length-append}
use Rattle.std.proofs.lemmas.List.Elements.{All-nil, All-cons, All-append}
use Rattle.booth_journal.specs.declared.said.Call.{Call}
use Rattle.booth_journal.specs.Fields.{HasNo, IsCut}
use Rattle.booth_journal.specs.Lines.{line}
use Rattle.booth_journal.specs.Texts.{AreSaid, Follows, IsFirstFault, IsInside, IsJournal}

-- lines were read, and this is left
pub record SoFar (text rest : List ℕ) (open_call : Option Call) (count : ℕ) : Type 0 where
  lines : List (List ℕ)
  whole : text ≡ flat_map line lines ++ rest
  each : All IsInside lines
  number : count ≡ length lines
  said : AreSaid None lines open_call
  short : count + length rest ≤ length text

pub none_read : (text : List ℕ) → SoFar text text None 0
none_read text = record {
  lines = [];
  whole = refl;
  each = All-nil IsInside;
  number = refl;
  said = refl;
  short = omega arith;
}

joined_more : (lines : List (List ℕ)) (text : List ℕ) → flat_map line (lines ++ text ∷ []) ≡ flat_map line lines ++ line text
joined_more [] text = append-nil (line text)
joined_more (first ∷ lines) text =
    ap (λ l. line first ++ l) (joined_more lines text) ∙ sym (append_assoc (line first) (flat_map line lines) (line text))

said_more : (before : Option Call) (lines : List (List ℕ)) (between : Option Call) (text : List ℕ) (after : Option Call)
    → AreSaid before lines between → Follows between text after → AreSaid before (lines ++ text ∷ []) after
said_more before [] between text after said follows =
    (after, subst (λ b. Follows b text after) (sym said) follows, refl)
said_more before (first ∷ lines) between text after said follows =
    (said.0, said.1, said_more said.0 lines between text after said.2 follows)

-- what is left, as the next line and what is behind it
cut_line : (rest first more : List ℕ) → IsCut 0x0A rest first more → rest ≡ line first ++ more
cut_line rest first more cut = cut.joined ∙ sym (append_assoc first (codes "\n") more)

pub one_read : (text rest : List ℕ) (open_call : Option Call) (count : ℕ) (first more : List ℕ) (after : Option Call)
    → SoFar text rest open_call count → IsCut 0x0A rest first more → Follows open_call first after
    → SoFar text more after (count + 1)
one_read text rest open_call count first more after so cut follows =
    let left = cut_line rest first more cut in
    let len = ap length left ∙ length-append (line first) more in
    let one = length-append first (codes "\n") in
    record {
      lines = so.lines ++ first ∷ [];
      whole = so.whole ∙ ap (λ l. flat_map line so.lines ++ l) left
          ∙ sym (append_assoc (flat_map line so.lines) (line first) more)
          ∙ ap (λ l. l ++ more) (sym (joined_more so.lines first));
      each = All-append IsInside so.lines (first ∷ []) so.each (All-cons IsInside first [] cut.plain (All-nil IsInside));
      number = ap (λ n. n + 1) so.number ∙ sym (length-append so.lines (first ∷ []));
      said = said_more None so.lines open_call first after so.said follows;
      short = omega (arith, so.short, len, one);
    }

-- there are not more lines than bytes
pub counted : (text rest : List ℕ) (open_call : Option Call) (count : ℕ) (first more : List ℕ) → SoFar text rest open_call count
    → IsCut 0x0A rest first more → count + 1 ≤ length text
counted text rest open_call count first more so cut =
    omega (arith, so.short, ap length cut.joined ∙ length-append first (0x0A ∷ more))

pub all_read : (text rest : List ℕ) (open_call : Option Call) (count : ℕ) → SoFar text rest open_call count → HasNo 0x0A rest
    → IsJournal text
all_read text rest open_call count so plain = record {
  lines = so.lines;
  tail = rest;
  after = open_call;
  whole = so.whole;
  each = so.each;
  rest = plain;
  said = so.said;
}

pub none_follows : (text rest : List ℕ) (open_call : Option Call) (count : ℕ) (first more : List ℕ)
    → SoFar text rest open_call count → IsCut 0x0A rest first more
    → ((after : Option Call) → Follows open_call first after → ⊥) → IsFirstFault text (count + 1)
none_follows text rest open_call count first more so cut never = record {
  lines = so.lines;
  wrong = first;
  behind = more;
  before = open_call;
  whole = so.whole ∙ ap (λ l. flat_map line so.lines ++ l) (cut_line rest first more cut)
      ∙ sym (append_assoc (flat_map line so.lines) (line first) more);
  each = so.each;
  inside = cut.plain;
  count = ap (λ n. n + 1) so.number;
  said = so.said;
  never = never;
}
