-- Lists have these parts, and no others.
use Rattle.std.specs.Prelude.{Bool, true, false, nat_le, if◌then◌else◌}
use Rattle.std.specs.List.{All}
use Rattle.std.proofs.Common.{◌≡◌, ◌+◌, ◌<◌, ◌≤◌, ℕ, suc, List, [], ◌∷◌, ◌++◌, length, refl, sym, ◌∙◌, ap, subst, arith}
use Rattle.std.proofs.lemmas.Bool.Decides.{nat_tests}
use Rattle.std.proofs.lemmas.List.{length-append}
use Rattle.booth_base.specs.declared.buffer.TheConstants.{TEXT_BYTES}
use Rattle.booth_node.specs.Lists.{AreFull, AreParts, IsFull, ListsHaveTheseParts, cut_lines, joined, part_text, with_first}
use Rattle.booth_node.proofs.ListLemmas.{cut_fits}

abbrev Part : Type 0
Part = List (List ℕ)

-- The first part fits behind so many bytes, and could take no more line behind them; the others are full.
abbrev FullFrom : ℕ → Part → List Part → Type 0
FullFrom taken first rest =
    (taken + length (part_text first) ≤ TEXT_BYTES) × IsFull (taken + length (part_text first)) rest × AreFull rest

-- a line more at the front of the first part is so many bytes more that are taken
more_text : (taken : ℕ) (line : List ℕ) (first : Part)
    → taken + length line + length (part_text first) ≡ taken + length (part_text (line ∷ first))
more_text taken line first = let both = length-append line (part_text first) in omega (arith, both)

line_first : (taken : ℕ) (line : List ℕ) (first : Part) (rest : List Part) → FullFrom (taken + length line) first rest
    → FullFrom taken (line ∷ first) rest
line_first taken line first rest full = (
  subst (λ (n : ℕ). n ≤ TEXT_BYTES) (more_text taken line first) full.0,
  subst (λ (n : ℕ). IsFull n rest) (more_text taken line first) full.1,
  full.2,
)

line_taken : (taken : ℕ) (line : List ℕ) (first : Part) (rest : List Part) → FullFrom taken (line ∷ first) rest
    → FullFrom (taken + length line) first rest
line_taken taken line first rest full = (
  subst (λ (n : ℕ). n ≤ TEXT_BYTES) (sym (more_text taken line first)) full.0,
  subst (λ (n : ℕ). IsFull n rest) (sym (more_text taken line first)) full.1,
  full.2,
)

-- where nothing is taken, it is a part as any other
from_none : (first : Part) (rest : List Part) → FullFrom 0 first rest → AreFull (first ∷ rest)
from_none first rest full = (
  subst (λ (n : ℕ). n ≤ TEXT_BYTES) none full.0,
  subst (λ (n : ℕ). IsFull n rest) none full.1,
  full.2,
)
  where
    none : 0 + length (part_text first) ≡ length (part_text first)
    none = omega arith

to_none : (first : Part) (rest : List Part) → AreFull (first ∷ rest) → FullFrom 0 first rest
to_none first rest full = (
  subst (λ (n : ℕ). n ≤ TEXT_BYTES) none full.0,
  subst (λ (n : ℕ). IsFull n rest) none full.1,
  full.2,
)
  where
    none : length (part_text first) ≡ 0 + length (part_text first)
    none = omega arith

-- ---- a cut is of these parts

pub record Cut (taken : ℕ) (lines : Part) (parts : List Part) : Type 0 where
  pub first : Part
  pub rest : List Part
  pub is : parts ≡ first ∷ rest
  pub whole : joined (first ∷ rest) ≡ lines
  pub full : FullFrom taken first rest

cut_so : (taken : ℕ) (lines : Part) → taken ≤ TEXT_BYTES → All (λ line. length line ≤ TEXT_BYTES) lines
    → Cut taken lines (cut_lines taken lines)
cut_so taken [] within fit = record { first = []; rest = []; is = refl; whole = refl; full = (omega (arith, within), tt, tt) }
cut_so taken (line ∷ lines) within fit =
    by_test (λ (low : taken + length line ≤ TEXT_BYTES). cut_so (taken + length line) lines low (λ k d below. fit (suc k) d (omega (arith, below))))
    (cut_so (length line) lines (fit 0 line (omega arith)) (λ k d below. fit (suc k) d (omega (arith, below)))) (nat_le (taken + length line) TEXT_BYTES) refl
  where
    with_it : (taken : ℕ) (parts : List Part) → Cut (taken + length line) lines parts → Cut taken (line ∷ lines) (with_first line parts)
    with_it taken parts cut = record {
      first = line ∷ cut.first;
      rest = cut.rest;
      is = ap (λ (ps : List Part). with_first line ps) cut.is;
      whole = ap (λ (ls : Part). line ∷ ls) cut.whole;
      full = line_first taken line cut.first cut.rest cut.full;
    }

    by_test : (taken + length line ≤ TEXT_BYTES → Cut (taken + length line) lines (cut_lines (taken + length line) lines))
        → Cut (length line) lines (cut_lines (length line) lines) → (b : Bool) → nat_le (taken + length line) TEXT_BYTES ≡ b
        → Cut taken (line ∷ lines)
        (if b then with_first line (cut_lines (taken + length line) lines) else [] ∷ with_first line (cut_lines (length line) lines))
    by_test more next true test = with_it taken (cut_lines (taken + length line) lines) (more (grind (arith, nat_tests)))
    by_test more next false test =
        let none : length line ≡ 0 + length line = omega arith in
        let over : TEXT_BYTES < taken + 0 + length line = grind (arith, nat_tests) in
        let low : taken + 0 ≤ TEXT_BYTES = omega (arith, within) in
        let alone : FullFrom (0 + length line) next.first next.rest =
        subst (λ (n : ℕ). FullFrom n next.first next.rest) none next.full in
        record {
          first = [];
          rest = (line ∷ next.first) ∷ next.rest;
          is = ap (λ (ps : List Part). [] ∷ with_first line ps) next.is;
          whole = ap (λ (ls : Part). line ∷ ls) next.whole;
          full = (
            low,
            over,
            from_none (line ∷ next.first) next.rest (line_first 0 line next.first next.rest alone),
          );
        }

-- ---- and of no others

cut_not : (taken : ℕ) (line : List ℕ) (lines : Part) → TEXT_BYTES < taken + length line
    → cut_lines taken (line ∷ lines) ≡ [] ∷ with_first line (cut_lines (length line) lines)
cut_not taken line lines over = by_test (nat_le (taken + length line) TEXT_BYTES) (grind (arith, nat_tests))
  where
    by_test : (b : Bool) → b ≡ false
        → (if b then with_first line (cut_lines (taken + length line) lines) else [] ∷ with_first line (cut_lines (length line) lines))
        ≡ [] ∷ with_first line (cut_lines (length line) lines)
    by_test true is = absurd cc
    by_test false is = refl

one_cut : (rest : List Part) (first : Part) (taken : ℕ) → FullFrom taken first rest
    → cut_lines taken (joined (first ∷ rest)) ≡ first ∷ rest
one_cut [] [] taken full = refl
one_cut ([] ∷ rest) [] taken full = absurd full.1
one_cut ((line ∷ part) ∷ rest) [] taken full =
    cut_not taken line (part ++ joined rest) (omega (arith, full.1))
    ∙ ap (λ (ps : List Part). [] ∷ with_first line ps)
    (one_cut rest part (length line)
    (subst (λ (n : ℕ). FullFrom n part rest) none (line_taken 0 line part rest (to_none (line ∷ part) rest full.2))))
  where
    none : 0 + length line ≡ length line
    none = omega arith
one_cut rest (line ∷ first) taken full =
    let later : FullFrom (taken + length line) first rest = line_taken taken line first rest full in
    let fits : taken + length line ≤ TEXT_BYTES = let low = later.0 in omega (arith, low) in
    cut_fits taken line (first ++ joined rest) fits
    ∙ ap (λ (ps : List Part). with_first line ps) (one_cut rest first (taken + length line) later)

pub these : ListsHaveTheseParts
these lines fit =
    let cut = cut_so 0 lines (omega arith) fit in (
      subst (λ (parts : List Part). AreParts lines parts) (sym cut.is) (record {
        some = omega arith;
        whole = cut.whole;
        full = from_none cut.first cut.rest cut.full;
      }),
      others lines,
    )
  where
    others : (lines : Part) (parts : List Part) → AreParts lines parts → parts ≡ cut_lines 0 lines
    others lines [] parts = absurd (omega (arith, parts.some))
    others lines (first ∷ rest) parts =
        sym (ap (λ (ls : Part). cut_lines 0 ls) (sym parts.whole) ∙ one_cut rest first 0 (to_none first rest parts.full))
