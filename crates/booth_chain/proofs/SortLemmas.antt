-- Slots sorted by deadline and then slot, each once.
use Rattle.std.proofs.Common.{◌≡◌, ◌⊎◌, ℕ, false, ◌<◌, List, [], get_or, refl, sym, ◌∙◌, ap, subst, inl, inr, Ordering}
use Rattle.std.specs.Prelude.{Option, None, nat_eq}
use Rattle.std.specs.Cmp.{IsTotalOrder}
use Rattle.std.specs.List.{Contains}
use Rattle.std.specs.List.Retain.{DiffersFromLast, IsFiltered}
use Rattle.std.specs.List.Sorted.{IsPermutation, IsSorted, IsStrictlySortedBy}
use Rattle.std.specs.Ordering.{eq_by_cmp, is_eq, nat_cmp, ordering_then, MatchOrdering}
use Rattle.std.specs.declared.cmp.Ordering.TheVariants.{Less, Equal, Greater}
use Rattle.std.proofs.lemmas.Cmp.{nat_cmp_total, on_total, ranked, then_total, tied_itself}
use Rattle.std.proofs.lemmas.List.Filters.{dedup_is}
use Rattle.std.proofs.lemmas.List.Kept.{Contains-dedup_nat, Contains-from_dedup, IsStrictlySortedBy-dedup}
use Rattle.std.proofs.lemmas.List.Sorted.{Contains-permutation, IsPermutation-sym}
use Rattle.booth_chain.specs.Draining.{by_deadline, number_of}
use Rattle.booth_chain.proofs.DueListLemmas.{eq_yes}
use Rattle.booth_chain.proofs.MoveLemmas.{eq_no}
use Rattle.booth_chain.proofs.NodesLemmas.{same_or_not}

abbrev pub number_at : List (Option ℕ) → ℕ → ℕ
number_at deadlines slot = number_of (get_or deadlines slot None)

pub then_less : (a b : Ordering) → ordering_then a b ≡ Less → (a ≡ Less) ⊎ ((a ≡ Equal) × (b ≡ Less))
then_less Less b e = inl refl
then_less Equal b e = inr (refl, e)
then_less Greater b e = absurd (cc)

pub is_less : (x y : ℕ) → nat_cmp x y ≡ Less → x < y
is_less x y e = subst (λ (o : Ordering). MatchOrdering o (x < y) (x ≡ y) (y < x)) e (ranked x y (nat_cmp x y) refl)

pub is_equal : (x y : ℕ) → nat_cmp x y ≡ Equal → x ≡ y
is_equal x y e = subst (λ (o : Ordering). MatchOrdering o (x < y) (x ≡ y) (y < x)) e (ranked x y (nat_cmp x y) refl)

by_deadline_total : (deadlines : List (Option ℕ)) → IsTotalOrder (by_deadline deadlines)
by_deadline_total deadlines = then_total (on_total (number_at deadlines) nat_cmp_total) nat_cmp_total

not_tied : (a b : Ordering) → (b ≡ Equal → ⊥) → is_eq (ordering_then a b) ≡ false
not_tied Less b apart = refl
not_tied Equal Less apart = refl
not_tied Equal Equal apart = absurd (apart refl)
not_tied Equal Greater apart = refl
not_tied Greater b apart = refl

-- two slots are tied where they are one
ties : (deadlines : List (Option ℕ)) (x y : ℕ) → nat_eq x y ≡ eq_by_cmp (by_deadline deadlines) x y
ties deadlines x y =
    elim (same_or_not x y) [
      | inl e ↦
          let own : by_deadline deadlines x y ≡ Equal = subst (λ (z : ℕ). by_deadline deadlines x z ≡ Equal) e (tied_itself (by_deadline_total deadlines) x) in
          eq_yes x y e ∙ sym (ap is_eq own)
      | inr ne ↦
          let first = nat_cmp (number_at deadlines x) (number_at deadlines y) in
          eq_no x y ne ∙ sym (not_tied first (nat_cmp x y) (λ e. ne (is_equal x y e)))
    ]

pub sorted_once : (deadlines : List (Option ℕ)) (xs ys : List ℕ) → IsSorted (by_deadline deadlines) xs → IsFiltered (DiffersFromLast nat_eq) [] xs ys → IsStrictlySortedBy (by_deadline deadlines) ys
sorted_once deadlines xs ys sorted filtered =
    let is = dedup_is nat_eq xs ys filtered in
    rw is (IsStrictlySortedBy-dedup (by_deadline_total deadlines) (ties deadlines) xs sorted)

pub same_slots_once : (xs ys zs : List ℕ) → IsPermutation xs ys → IsFiltered (DiffersFromLast nat_eq) [] ys zs → (slot : ℕ) → (Contains zs slot → Contains xs slot) × (Contains xs slot → Contains zs slot)
same_slots_once xs ys zs moved filtered slot =
    let is = dedup_is nat_eq ys zs filtered in (
      (λ h. Contains-permutation ys xs slot (IsPermutation-sym xs ys moved) (Contains-from_dedup nat_eq ys slot (rw is at h))),
      (λ h. rw is (Contains-dedup_nat ys slot (Contains-permutation xs ys slot moved h))),
    )
