-- A list that a stable sort put in order is its parts, one for each key.
use Rattle.std.specs.Prelude.{◌==◌, IsPermutation, length, cond, not, ◌&&◌, Bool, true, false}
use Rattle.std.specs.List.{All, filter}
use Rattle.std.specs.List.Sorted.{IsNonDecreasingBy, IsStableByKey}
use Rattle.std.specs.Ordering.{is_lt, nat_cmp}
use Rattle.std.proofs.Common.{◌≡◌, ◌≤◌, ◌<◌, ◌+◌, ℕ, zero, suc, List, [], ◌∷◌, ◌++◌, get_or, refl, sym, ◌∙◌, ap, subst, arith, true≢false}
use Rattle.std.proofs.lemmas.Bool.Decides.{Decides-eqb}
use Rattle.std.proofs.lemmas.List.Sorted.{All-permutation}
use Rattle.booth_audit.specs.declared.holding.Holding.{Holding}
use Rattle.booth_audit.specs.Noted.{is_of}
use Rattle.booth_audit.specs.Order.{by_tickets}
use Rattle.booth_audit.proofs.NotedLemmas.{other_is}

-- ---- tickets that do not fall

abbrev From : ℕ → List Holding → Type 0
From ticket [] = Unit {0}
From ticket (h ∷ held) = (ticket ≤ h.ticket) × From ticket held

abbrev Below : ℕ → List Holding → Type 0
Below count [] = Unit {0}
Below count (h ∷ held) = (h.ticket < count) × Below count held

abbrev Rises : List Holding → Type 0
Rises [] = Unit {0}
Rises (h ∷ held) = From h.ticket held × Rises held

from_each : (ticket : ℕ) (d : Holding) (held : List Holding)
    → ((k : ℕ) → k < length held → ticket ≤ (get_or held k d).ticket) → From ticket held
from_each ticket d [] each = tt
from_each ticket d (h ∷ held) each =
    (each 0 (omega arith), from_each ticket d held (λ k below. each (suc k) (omega (arith, below))))

rises_by : (held : List Holding) → IsNonDecreasingBy (λ (h : Holding). h.ticket) held → Rises held
rises_by [] up = tt
rises_by (h ∷ held) up = (
  from_each h.ticket h held (λ k below. up 0 (suc k) h (omega arith) (omega (arith, below))),
  rises_by held (λ i j d le below. up (suc i) (suc j) d (omega (arith, le)) (omega (arith, below))),
)

-- ---- parts

-- those of no ticket below
none_below : (ticket : ℕ) (held : List Holding) → From (ticket + 1) held → filter (is_of ticket) held ≡ []
none_below ticket [] from = refl
none_below ticket (h ∷ held) from =
    let above = from.0 in
    ap (λ (b : Bool). cond b (h ∷ filter (is_of ticket) held) (filter (is_of ticket) held))
    (other_is h.ticket ticket (λ same. absurd (omega (arith, above, same))))
    ∙ none_below ticket held from.1

weaker : (ticket : ℕ) (held : List Holding) (at : ℕ) → ticket ≤ at → From at held → From ticket held
weaker ticket [] at le from = tt
weaker ticket (h ∷ held) at le from =
    let above = from.0 in
    (omega (arith, le, above), weaker ticket held at le from.1)

-- what is left of a list behind those of its first ticket
pub record IsParted (ticket : ℕ) (held : List Holding) : Type 0 where
  pub rest : List Holding
  pub whole : held ≡ filter (is_of ticket) held ++ rest
  pub from : From (ticket + 1) rest
  pub rises : Rises rest
  pub others : (other : ℕ) → ticket < other → filter (is_of other) held ≡ filter (is_of other) rest

parted_by : (ticket : ℕ) (h : Holding) (held : List Holding) (b : Bool) → (h.ticket == ticket) ≡ b → Rises (h ∷ held)
    → From ticket (h ∷ held) → IsParted ticket held → IsParted ticket (h ∷ held)
parted_by ticket h held true is rises from part =
    let same = (Decides-eqb h.ticket ticket).0 is in
    record {
      rest = part.rest;
      whole = ap (λ (l : List Holding). h ∷ l) part.whole
          ∙ ap (λ (b : Bool). cond b (h ∷ filter (is_of ticket) held) (filter (is_of ticket) held) ++ part.rest) (sym is);
      from = part.from;
      rises = part.rises;
      others = λ other above.
          ap (λ (b : Bool). cond b (h ∷ filter (is_of other) held) (filter (is_of other) held))
          (other_is h.ticket other (λ both. absurd (omega (arith, above, both, same))))
          ∙ part.others other above;
    }
parted_by ticket h held false is rises from part =
    let first = from.0 in
    let differs : h.ticket ≡ ticket → ⊥ = λ same. true≢false (sym ((Decides-eqb h.ticket ticket).1 same) ∙ is) in
    let above : ticket + 1 ≤ h.ticket = grind (arith, first, differs) in
    let all : From (ticket + 1) (h ∷ held) = (above, weaker (ticket + 1) held h.ticket above rises.0) in
    record {
      rest = h ∷ held;
      whole = sym (ap (λ (l : List Holding). l ++ h ∷ held) (none_below ticket (h ∷ held) all));
      from = all;
      rises = rises;
      others = λ other above. refl;
    }

parted : (ticket : ℕ) (held : List Holding) → Rises held → From ticket held → IsParted ticket held
parted ticket [] rises from = record { rest = []; whole = refl; from = tt; rises = tt; others = λ other above. refl }
parted ticket (h ∷ held) rises from =
    parted_by ticket h held (h.ticket == ticket) refl rises from (parted ticket held rises.1 from.1)

same_parts : (one other : List Holding) (ticket count : ℕ)
    → ((k : ℕ) → ticket ≤ k → filter (is_of k) one ≡ filter (is_of k) other) → by_tickets one ticket count ≡ by_tickets other ticket count
same_parts one other ticket zero same = refl
same_parts one other ticket (suc count) same =
    ap (λ (l : List Holding). l ++ by_tickets one (ticket + 1) count) (same ticket (omega arith))
    ∙ ap (λ (l : List Holding). filter (is_of ticket) other ++ l)
    (same_parts one other (ticket + 1) count (λ k le. same k (omega (arith, le))))

none_left : (ticket : ℕ) (held : List Holding) → From ticket held → Below (ticket + 0) held → held ≡ []
none_left ticket [] from below = refl
none_left ticket (h ∷ held) from below =
    let a = from.0 in let b = below.0 in absurd (omega (arith, a, b))

below_right : (count : ℕ) (one other : List Holding) → Below count (one ++ other) → Below count other
below_right count [] other below = below
below_right count (h ∷ one) other below = below_right count one other below.1

parts_are : (count ticket : ℕ) (held : List Holding) → Rises held → From ticket held → Below (ticket + count) held
    → held ≡ by_tickets held ticket count
parts_are zero ticket held rises from below = none_left ticket held from below
parts_are (suc count) ticket held rises from below =
    let part = parted ticket held rises from in
    let rest_below = below_right (ticket + suc count) (filter (is_of ticket) held) part.rest
    (subst (Below (ticket + suc count)) part.whole below) in
    let on : ticket + suc count ≡ (ticket + 1) + count = omega arith in
    part.whole
    ∙ ap (λ (l : List Holding). filter (is_of ticket) held ++ l)
    (parts_are count (ticket + 1) part.rest part.rises part.from (subst (λ (n : ℕ). Below n part.rest) on rest_below)
    ∙ same_parts part.rest held (ticket + 1) count (λ k le. sym (part.others k (omega (arith, le)))))

below_of : (count : ℕ) (held : List Holding) → All (λ (h : Holding). h.ticket < count) held → Below count held
below_of count [] all = tt
below_of count (h ∷ held) all =
    (all 0 h (omega arith), below_of count held (λ k d below. all (suc k) d (omega (arith, below))))

-- ---- a stable sort

ties_are : (ticket : ℕ) (h : Holding) → (not (is_lt (nat_cmp ticket h.ticket)) && not (is_lt (nat_cmp h.ticket ticket))) ≡ is_of ticket h
ties_are ticket h = by (h.ticket == ticket) refl
  where
    by : (b : Bool) → (h.ticket == ticket) ≡ b
        → (not (is_lt (nat_cmp ticket h.ticket)) && not (is_lt (nat_cmp h.ticket ticket))) ≡ (h.ticket == ticket)
    by true is =
        let same = (Decides-eqb h.ticket ticket).0 is in
        grind (arith, same, is)
    by false is = grind (arith, is)

filters_same : (p q : Holding → Bool) (held : List Holding) → ((h : Holding) → p h ≡ q h) → filter p held ≡ filter q held
filters_same p q [] same = refl
filters_same p q (h ∷ held) same =
    ap (λ (b : Bool). cond b (h ∷ filter p held) (filter p held)) (same h)
    ∙ ap (λ (l : List Holding). cond (q h) (h ∷ l) l) (filters_same p q held same)

pub sorted_so : (old new : List Holding) → IsPermutation old new → IsNonDecreasingBy (λ (h : Holding). h.ticket) new
    → IsStableByKey (λ (h : Holding). h.ticket) nat_cmp old new → (count : ℕ)
    → All (λ (h : Holding). h.ticket < count) old → new ≡ by_tickets old 0 count
sorted_so old new permutation up stable count below =
    let is : count ≡ 0 + count = omega arith in
    parts_are count 0 new (rises_by new up) (all_from new)
    (subst (λ (n : ℕ). Below n new) is
    (below_of count new (All-permutation (λ (h : Holding). h.ticket < count) old new permutation below)))
    ∙ same_parts new old 0 count (λ k le. kept k)
  where
    all_from : (held : List Holding) → From 0 held
    all_from [] = tt
    all_from (h ∷ held) = (omega arith, all_from held)

    kept : (k : ℕ) → filter (is_of k) new ≡ filter (is_of k) old
    kept k =
        sym (filters_same _ (is_of k) new (ties_are k))
        ∙ stable (record { ticket = k; member = 0; from = 0; until = 0 })
        ∙ filters_same _ (is_of k) old (ties_are k)
