-- The due list has just the slots that are due, each before all that follow.
use Rattle.std.proofs.Common.{◌≡◌, ◌⊎◌, ℕ, zero, suc, Bool, true, false, ◌+◌, ◌<◌, ◌≤◌, List, [], ◌∷◌, length, get_or, refl, sym, ap, subst, inl, inr, arith}
use Rattle.std.specs.Prelude.{Option, Some, None, IsTrue}
use Rattle.std.specs.List.{All, Contains}
use Rattle.std.proofs.lemmas.Bool.Decides.{nat_tests}
use Rattle.booth_chain.specs.Slots.{IsIn}
use Rattle.booth_chain.specs.Wheel.{IsDue}
use Rattle.booth_chain.specs.DueList.{comes_before, placed, due_from, due_list}
use Rattle.booth_chain.specs.Laws.{AreInOrder, ListsDue}
use Rattle.booth_chain.proofs.DueListLemmas.{lt_or_not, le_yes, le_no}

-- what comes before another comes before what the other comes before
before_all : (d s e t f u : ℕ) → comes_before d s e t ≡ true → comes_before e t f u ≡ true → comes_before d s f u ≡ true
before_all d s e t f u first second = grind (arith, nat_tests)

-- what does not come before a pair of a later slot comes after it
after_it : (d s e t : ℕ) → s < t → comes_before d s e t ≡ false → comes_before e t d s ≡ true
after_it d s e t less not_before = grind (arith, nat_tests)

-- ---- the pairs of a list

-- the pair at a place is one of the list
in_at : (list : List (ℕ × ℕ)) (at : ℕ) (other : ℕ × ℕ) → at < length list → IsIn (get_or list at other).0 (get_or list at other).1 list
in_at [] at other lt = absurd (omega arith)
in_at (entry ∷ rest) zero other lt = inl (refl, refl)
in_at (entry ∷ rest) (suc at) other lt = inr (in_at rest at other (omega arith))

pub contained : (d s : ℕ) (list : List (ℕ × ℕ)) → IsIn d s list → Contains list (d, s)
contained d s [] h = absurd h
contained d s ((e, t) ∷ rest) (inl same) = let p = same.0 in let q = same.1 in (0, omega arith, cc)
contained d s (entry ∷ rest) (inr h) =
    let more = contained d s rest h in
    (suc more.0, omega (arith, more.1), more.2)

pub is_in : (d s : ℕ) (list : List (ℕ × ℕ)) → Contains list (d, s) → IsIn d s list
is_in d s list h = subst (λ (entry : ℕ × ℕ). IsIn entry.0 entry.1 list) h.2 (in_at list h.0 (d, s) h.1)

abbrev pub IsBefore : ℕ × ℕ → ℕ × ℕ → Type 0
IsBefore entry later = IsTrue (comes_before entry.0 entry.1 later.0 later.1)

-- a pair comes before all of a list where it comes before each pair in it
pub before_list : (entry : ℕ × ℕ) (list : List (ℕ × ℕ)) → ((d s : ℕ) → IsIn d s list → IsBefore entry (d, s)) → All (IsBefore entry) list
before_list entry list each at other lt = each (get_or list at other).0 (get_or list at other).1 (in_at list at other lt)

pub before_each : (entry : ℕ × ℕ) (list : List (ℕ × ℕ)) → All (IsBefore entry) list → (d s : ℕ) → IsIn d s list → IsBefore entry (d, s)
before_each entry list all d s h =
    let at = contained d s list h in
    subst (IsBefore entry) at.2 (all at.0 (d, s) at.1)

-- ---- a pair at its place

-- it comes first, or after the first
placed_as : (e t : ℕ) (entry : ℕ × ℕ) (rest : List (ℕ × ℕ)) → ((comes_before e t entry.0 entry.1 ≡ true) × (placed e t (entry ∷ rest) ≡ (e, t) ∷ entry ∷ rest)) ⊎ ((comes_before e t entry.0 entry.1 ≡ false) × (placed e t (entry ∷ rest) ≡ entry ∷ placed e t rest))
placed_as e t entry rest = by_test (comes_before e t entry.0 entry.1) refl
  where
    by_test : (test : Bool) → comes_before e t entry.0 entry.1 ≡ test → ((comes_before e t entry.0 entry.1 ≡ true) × (placed e t (entry ∷ rest) ≡ (e, t) ∷ entry ∷ rest)) ⊎ ((comes_before e t entry.0 entry.1 ≡ false) × (placed e t (entry ∷ rest) ≡ entry ∷ placed e t rest))
    by_test true test = inl (test, rw test)
    by_test false test = inr (test, rw test)

placed_in : (e t d s : ℕ) (list : List (ℕ × ℕ)) → IsIn d s (placed e t list) → ((d ≡ e) × (s ≡ t)) ⊎ IsIn d s list
placed_in e t d s [] (inl same) = inl same
placed_in e t d s [] (inr h) = absurd h
placed_in e t d s (entry ∷ rest) h =
    elim (placed_as e t entry rest) [
      | inl first ↦ subst (IsIn d s) first.1 h
      | inr later ↦
          elim (subst (IsIn d s) later.1 h) [
            | inl same ↦ inr (inl same)
            | inr more ↦ elim (placed_in e t d s rest more) [ inl same ↦ inl same | inr old ↦ inr (inr old) ]
          ]
    ]

new_is_in : (e t : ℕ) (list : List (ℕ × ℕ)) → IsIn e t (placed e t list)
new_is_in e t [] = inl (refl, refl)
new_is_in e t (entry ∷ rest) =
    elim (placed_as e t entry rest) [
      | inl first ↦ subst (IsIn e t) (sym first.1) (inl (refl, refl))
      | inr later ↦ subst (IsIn e t) (sym later.1) (inr (new_is_in e t rest))
    ]

old_is_in : (e t d s : ℕ) (list : List (ℕ × ℕ)) → IsIn d s list → IsIn d s (placed e t list)
old_is_in e t d s [] h = absurd h
old_is_in e t d s (entry ∷ rest) h =
    elim (placed_as e t entry rest) [
      | inl first ↦ subst (IsIn d s) (sym first.1) (inr h)
      | inr later ↦ subst (IsIn d s) (sym later.1) (elim h [ inl same ↦ inl same | inr more ↦ inr (old_is_in e t d s rest more) ])
    ]

-- among pairs of later slots in order, the order stays
placed_in_order : (e t : ℕ) (list : List (ℕ × ℕ)) → AreInOrder list → ((d s : ℕ) → IsIn d s list → t < s) → AreInOrder (placed e t list)
placed_in_order e t [] order later = (before_list (e, t) [] (λ d s h. absurd h), tt)
placed_in_order e t (entry ∷ rest) order later =
    elim (placed_as e t entry rest) [
      | inl first ↦
          let before : (d s : ℕ) → IsIn d s (entry ∷ rest) → IsBefore (e, t) (d, s) =
          λ d s h. elim h [
            | inl same ↦ rw (same.0, same.1, first.0)
            | inr more ↦ before_all e t entry.0 entry.1 d s first.0 (before_each entry rest order.0 d s more)
          ] in
          subst AreInOrder (sym first.1) (before_list (e, t) (entry ∷ rest) before, order)
      | inr after ↦
          let less = later entry.0 entry.1 (inl (refl, refl)) in
          let before : (d s : ℕ) → IsIn d s (placed e t rest) → IsBefore entry (d, s) =
          λ d s h. elim (placed_in e t d s rest h) [
            | inl same ↦ rw (same.0, same.1, after_it e t entry.0 entry.1 less after.0)
            | inr old ↦ before_each entry rest order.0 d s old
          ] in
          subst AreInOrder (sym after.1) (before_list entry (placed e t rest) before, placed_in_order e t rest order.1 (λ d s h. later d s (inr h)))
    ]

-- ---- the due list

-- a slot that is due, counted from the first
record Listed (now slot : ℕ) (deadlines : List (Option ℕ)) (d s : ℕ) : Type 0 where
  at : ℕ
  number : s ≡ slot + at
  due : IsDue deadlines now at d

listed_later : (now slot : ℕ) (o : Option ℕ) (rest : List (Option ℕ)) (d s : ℕ) → Listed now (slot + 1) rest d s → Listed now slot (o ∷ rest) d s
listed_later now slot o rest d s l = record { at = suc l.at; number = omega (arith, l.number); due = record { set = l.due.set; came = l.due.came } }

-- a slot that is due is listed at once, or not, as its deadline has come or not
due_as : (now slot e : ℕ) (rest : List (Option ℕ)) → ((e ≤ now) × (due_from now slot (Some e ∷ rest) ≡ placed e slot (due_from now (slot + 1) rest))) ⊎ ((now < e) × (due_from now slot (Some e ∷ rest) ≡ due_from now (slot + 1) rest))
due_as now slot e rest =
    elim (lt_or_not now e) [
      | inl lt ↦ let t = le_no e now lt in inr (lt, rw t)
      | inr le ↦ let t = le_yes e now le in inl (le, rw t)
    ]

listed : (now slot : ℕ) (deadlines : List (Option ℕ)) (d s : ℕ) → IsIn d s (due_from now slot deadlines) → Listed now slot deadlines d s
listed now slot [] d s h = absurd h
listed now slot (None ∷ rest) d s h = listed_later now slot None rest d s (listed now (slot + 1) rest d s h)
listed now slot (Some e ∷ rest) d s h =
    elim (due_as now slot e rest) [
      | inl came ↦
          elim (placed_in e slot d s (due_from now (slot + 1) rest) (subst (IsIn d s) came.1 h)) [
            | inl same ↦ record { at = 0; number = omega (arith, same.1); due = record { set = ap Some (sym same.0); came = omega (arith, same.0, came.0) } }
            | inr old ↦ listed_later now slot (Some e) rest d s (listed now (slot + 1) rest d s old)
          ]
      | inr far ↦ listed_later now slot (Some e) rest d s (listed now (slot + 1) rest d s (subst (IsIn d s) far.1 h))
    ]

listed_all : (now slot : ℕ) (deadlines : List (Option ℕ)) (d at : ℕ) → IsDue deadlines now at d → IsIn d (slot + at) (due_from now slot deadlines)
listed_all now slot [] d at due = let set = due.set in absurd (cc)
listed_all now slot (None ∷ rest) d zero due = let set = due.set in absurd (cc)
listed_all now slot (None ∷ rest) d (suc at) due =
    let number : slot + 1 + at ≡ slot + suc at = omega arith in
    subst (λ (s : ℕ). IsIn d s (due_from now (slot + 1) rest)) number (listed_all now (slot + 1) rest d at (record { set = due.set; came = due.came }))
listed_all now slot (Some e ∷ rest) d zero due =
    let set = due.set in
    let same : e ≡ d = cc in
    elim (due_as now slot e rest) [
      | inl came ↦
          let number : slot ≡ slot + 0 = omega arith in
          subst (IsIn d (slot + 0)) (sym came.1) (subst (λ (f : ℕ). IsIn f (slot + 0) (placed e slot (due_from now (slot + 1) rest))) same (subst (λ (s : ℕ). IsIn e s (placed e slot (due_from now (slot + 1) rest))) number (new_is_in e slot (due_from now (slot + 1) rest))))
      | inr far ↦ absurd (omega (arith, far.0, due.came, same))
    ]
listed_all now slot (Some e ∷ rest) d (suc at) due =
    let number : slot + 1 + at ≡ slot + suc at = omega arith in
    let inner = subst (λ (s : ℕ). IsIn d s (due_from now (slot + 1) rest)) number (listed_all now (slot + 1) rest d at (record { set = due.set; came = due.came })) in
    elim (due_as now slot e rest) [
      | inl came ↦ subst (IsIn d (slot + suc at)) (sym came.1) (old_is_in e slot d (slot + suc at) (due_from now (slot + 1) rest) inner)
      | inr far ↦ subst (IsIn d (slot + suc at)) (sym far.1) inner
    ]

in_order : (now slot : ℕ) (deadlines : List (Option ℕ)) → AreInOrder (due_from now slot deadlines)
in_order now slot [] = tt
in_order now slot (None ∷ rest) = in_order now (slot + 1) rest
in_order now slot (Some e ∷ rest) =
    elim (due_as now slot e rest) [
      | inl came ↦
          let later : (d s : ℕ) → IsIn d s (due_from now (slot + 1) rest) → slot < s =
          λ d s h. let l = listed now (slot + 1) rest d s h in omega (arith, l.number) in
          subst AreInOrder (sym came.1) (placed_in_order e slot (due_from now (slot + 1) rest) (in_order now (slot + 1) rest) later)
      | inr far ↦ subst AreInOrder (sym far.1) (in_order now (slot + 1) rest)
    ]

-- The due list has just the slots that are due, in order.
pub lists_due : (now : ℕ) (deadlines : List (Option ℕ)) → ListsDue now deadlines
lists_due now deadlines = record { due = λ d s. (found d s, holds d s); sorted = in_order now 0 deadlines }
  where
    found : (d s : ℕ) → Contains (due_list now deadlines) (d, s) → IsDue deadlines now s d
    found d s h =
        let l = listed now 0 deadlines d s (is_in d s (due_list now deadlines) h) in
        let number : l.at ≡ s = omega (arith, l.number) in
        subst (λ (at : ℕ). IsDue deadlines now at d) number l.due

    holds : (d s : ℕ) → IsDue deadlines now s d → Contains (due_list now deadlines) (d, s)
    holds d s due =
        let number : 0 + s ≡ s = omega arith in
        contained d s (due_list now deadlines) (subst (λ (at : ℕ). IsIn d at (due_list now deadlines)) number (listed_all now 0 deadlines d s due))
