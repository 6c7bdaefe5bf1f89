-- What is due, sorted and each once, is the due list; and what is left once each of it was cleared.
use Rattle.std.proofs.Common.{◌≡◌, ◌≢◌, ℕ, zero, suc, true, ◌+◌, ◌<◌, ◌≤◌, List, [], ◌∷◌, ◌++◌, length, map, set, take, get_or, refl, sym, ◌∙◌, ap, subst, inl, inr, arith, length-set}
use Rattle.std.proofs.lemmas.List.{length-map}
use Rattle.std.specs.Prelude.{Option, Some, None}
use Rattle.std.specs.List.{All, Contains}
use Rattle.std.specs.List.Sorted.{IsStrictlySortedBy}
use Rattle.std.specs.Ordering.{nat_cmp, ordering_then}
use Rattle.std.specs.declared.cmp.Ordering.TheVariants.{Less}
use Rattle.std.proofs.lemmas.Bool.Decides.{nat_tests}
use Rattle.std.proofs.lemmas.List.{get_or-set_other, take_more}
use Rattle.std.proofs.lemmas.List.Elements.{All-contains, All-from_recursion, Contains-get_or}
use Rattle.booth_chain.specs.Slots.{IsIn}
use Rattle.booth_chain.specs.Wheel.{Timer, IsDue}
use Rattle.booth_chain.specs.DueList.{comes_before, due_list}
use Rattle.booth_chain.specs.Laws.{AreInOrder}
use Rattle.booth_chain.specs.Draining.{AreDue, by_deadline, cleared, number_of, undue}
use Rattle.booth_chain.proofs.DueListLemmas.{lt_yes, lt_no, le_yes, le_no, eq_yes, lt_or_not, there}
use Rattle.booth_chain.proofs.DueOrderLemmas.{IsBefore, before_each, before_list, contained, is_in, lists_due}
use Rattle.booth_chain.proofs.SortLemmas.{is_equal, is_less, number_at, then_less}

-- ---- two lists in order that have the same pairs are one

not_both : (d s e t : ℕ) → comes_before d s e t ≡ true → comes_before e t d s ≡ true → ⊥
not_both d s e t first second = grind (arith, nat_tests)

not_itself : (d s : ℕ) → comes_before d s d s ≡ true → ⊥
not_itself d s first = not_both d s d s first first

abbrev pub Has : List (ℕ × ℕ) → List (ℕ × ℕ) → Type 0
Has xs ys = (d s : ℕ) → IsIn d s xs → IsIn d s ys

first_is : (x y : ℕ × ℕ) (xs ys : List (ℕ × ℕ)) → AreInOrder (x ∷ xs) → AreInOrder (y ∷ ys) → Has (x ∷ xs) (y ∷ ys) → Has (y ∷ ys) (x ∷ xs) → (x.0 ≡ y.0) × (x.1 ≡ y.1)
first_is x y xs ys in_x in_y to back =
    elim (to x.0 x.1 (inl (refl, refl))) [
      | inl same ↦ same
      | inr later ↦ elim (back y.0 y.1 (inl (refl, refl))) [
        | inl same ↦ (sym same.0, sym same.1)
        | inr other ↦ absurd (not_both x.0 x.1 y.0 y.1 (before_each x xs in_x.0 y.0 y.1 other) (before_each y ys in_y.0 x.0 x.1 later))
      ]
    ]

-- what follows the first one
rest_has : (x y : ℕ × ℕ) (xs ys : List (ℕ × ℕ)) → AreInOrder (x ∷ xs) → x.0 ≡ y.0 → x.1 ≡ y.1 → Has (x ∷ xs) (y ∷ ys) → Has xs ys
rest_has x y xs ys in_x same_d same_s to d s h =
    elim (to d s (inr h)) [
      | inr more ↦ more
      | inl same ↦
          let before : comes_before x.0 x.1 d s ≡ true = before_each x xs in_x.0 d s h in
          let here : comes_before x.0 x.1 x.0 x.1 ≡ true = subst (λ (t : ℕ). comes_before x.0 x.1 x.0 t ≡ true) (same.1 ∙ sym same_s) (subst (λ (e : ℕ). comes_before x.0 x.1 e s ≡ true) (same.0 ∙ sym same_d) before) in
          absurd (not_itself x.0 x.1 here)
    ]

one_list : (xs ys : List (ℕ × ℕ)) → AreInOrder xs → AreInOrder ys → Has xs ys → Has ys xs → xs ≡ ys
one_list [] [] in_x in_y to back = refl
one_list [] (y ∷ ys) in_x in_y to back = absurd (back y.0 y.1 (inl (refl, refl)))
one_list (x ∷ xs) [] in_x in_y to back = absurd (to x.0 x.1 (inl (refl, refl)))
one_list (x ∷ xs) (y ∷ ys) in_x in_y to back =
    let first = first_is x y xs ys in_x in_y to back in
    let rest = one_list xs ys in_x.1 in_y.1 (rest_has x y xs ys in_x first.0 first.1 to) (rest_has y x ys xs in_y (sym first.0) (sym first.1) back) in
    ap (λ (d : ℕ). (d, x.1) ∷ xs) first.0 ∙ ap (λ (s : ℕ). (y.0, s) ∷ xs) first.1 ∙ ap (λ (more : List (ℕ × ℕ)). y ∷ more) rest

-- ---- sorted slots, each with its deadline

abbrev pairs : List (Option ℕ) → List ℕ → List (ℕ × ℕ)
pairs deadlines [] = []
pairs deadlines (slot ∷ rest) = (number_at deadlines slot, slot) ∷ pairs deadlines rest

slots_of_pairs : (deadlines : List (Option ℕ)) (slots : List ℕ) → map (λ (entry : ℕ × ℕ). entry.1) (pairs deadlines slots) ≡ slots
slots_of_pairs deadlines [] = refl
slots_of_pairs deadlines (slot ∷ rest) = ap (λ (more : List ℕ). slot ∷ more) (slots_of_pairs deadlines rest)

pair_at : (deadlines : List (Option ℕ)) (slots : List ℕ) (slot at : ℕ) → at < length slots → get_or slots at slot ≡ slot → IsIn (number_at deadlines slot) slot (pairs deadlines slots)
pair_at deadlines [] slot at lt e = absurd (omega arith)
pair_at deadlines (other ∷ rest) slot zero lt e = inl (ap (number_at deadlines) (sym e), sym e)
pair_at deadlines (other ∷ rest) slot (suc at) lt e = inr (pair_at deadlines rest slot at (omega arith) e)

pair_of : (deadlines : List (Option ℕ)) (slots : List ℕ) (d s : ℕ) → IsIn d s (pairs deadlines slots) → Contains slots s × (d ≡ number_at deadlines s)
pair_of deadlines [] d s h = absurd h
pair_of deadlines (other ∷ rest) d s (inl same) = ((0, omega arith, sym same.1), same.0 ∙ ap (number_at deadlines) (sym same.1))
pair_of deadlines (other ∷ rest) d s (inr h) =
    let more = pair_of deadlines rest d s h in
    let place = more.0 in
    ((suc place.0, omega (arith, place.1), place.2), more.1)

before_then : (d s e t : ℕ) → ordering_then (nat_cmp d e) (nat_cmp s t) ≡ Less → comes_before d s e t ≡ true
before_then d s e t less =
    elim (then_less (nat_cmp d e) (nat_cmp s t) less) [
      | inl first ↦ let a = lt_yes d e (is_less d e first) in rw a
      | inr both ↦
          let same = is_equal d e both.0 in
          let a = lt_no d e (omega (arith, same)) in
          let b = eq_yes d e same in
          let c = lt_yes s t (is_less s t both.1) in
          rw (a, b, c)
    ]

in_order_of : (deadlines : List (Option ℕ)) (slots : List ℕ) → IsStrictlySortedBy (by_deadline deadlines) slots → AreInOrder (pairs deadlines slots)
unfolding IsStrictlySortedBy
in_order_of deadlines [] sorted = tt
in_order_of deadlines (slot ∷ rest) sorted =
    let below = All-from_recursion (λ (other : ℕ). by_deadline deadlines slot other ≡ Less) rest sorted.0 in
    let before : (d s : ℕ) → IsIn d s (pairs deadlines rest) → IsBefore (number_at deadlines slot, slot) (d, s) =
    λ d s h.
    let p = pair_of deadlines rest d s h in
    let less = All-contains (λ (other : ℕ). by_deadline deadlines slot other ≡ Less) rest s below p.0 in
    subst (λ (e : ℕ). comes_before (number_at deadlines slot) slot e s ≡ true) (sym p.1) (before_then (number_at deadlines slot) slot (number_at deadlines s) s less) in
    (before_list (number_at deadlines slot, slot) (pairs deadlines rest) before, in_order_of deadlines rest sorted.1)

-- what is due, sorted strictly by deadline and then slot, is the due list's slots
pub sorted_is_due : (deadlines : List (Option ℕ)) (now : ℕ) (slots : List ℕ) → AreDue deadlines now slots → IsStrictlySortedBy (by_deadline deadlines) slots → slots ≡ map (λ (entry : ℕ × ℕ). entry.1) (due_list now deadlines)
sorted_is_due deadlines now slots due sorted =
    let list = due_list now deadlines in
    let law = lists_due now deadlines in
    let to : Has (pairs deadlines slots) list =
    λ d s h.
    let p = pair_of deadlines slots d s h in
    let one = due.only s p.0 in
    let same : d ≡ one.0 = p.1 ∙ ap number_of one.1.set in
    subst (λ (e : ℕ). IsIn e s list) (sym same) (is_in one.0 s list ((law.due one.0 s).1 one.1)) in
    let back : Has list (pairs deadlines slots) =
    λ d s h.
    let is : IsDue deadlines now s d = (law.due d s).0 (contained d s list h) in
    let place = due.all s d is in
    let same : number_at deadlines s ≡ d = ap number_of is.set in
    subst (λ (e : ℕ). IsIn e s (pairs deadlines slots)) same (pair_at deadlines slots s place.0 place.1 place.2) in
    let one = one_list (pairs deadlines slots) list (in_order_of deadlines slots sorted) law.sorted to back in
    sym (slots_of_pairs deadlines slots) ∙ ap (map (λ (entry : ℕ × ℕ). entry.1)) one

-- slots that have the same members are due alike
pub due_alike : (deadlines : List (Option ℕ)) (now : ℕ) (old new : List ℕ) → ((slot : ℕ) → (Contains new slot → Contains old slot) × (Contains old slot → Contains new slot)) → AreDue deadlines now old → AreDue deadlines now new
due_alike deadlines now old new same due = record {
  all = λ s d is. (same s).1 (due.all s d is);
  only = λ s h. due.only s ((same s).0 h);
}

-- ---- what is left

same_deadlines : (xs ys : List (Option ℕ)) → length xs ≡ length ys → ((s : ℕ) → get_or xs s None ≡ get_or ys s None) → xs ≡ ys
same_deadlines [] [] long same = refl
same_deadlines [] (y ∷ ys) long same = absurd (omega (arith, long))
same_deadlines (x ∷ xs) [] long same = absurd (omega (arith, long))
same_deadlines (x ∷ xs) (y ∷ ys) long same =
    let rest = same_deadlines xs ys (omega (arith, long)) (λ s. same (suc s)) in
    ap (λ (d : Option ℕ). d ∷ xs) (same 0) ∙ ap (λ (ds : List (Option ℕ)). y ∷ ds) rest

undue_at : (now : ℕ) (deadlines : List (Option ℕ)) (slot : ℕ) → get_or (map (undue now) deadlines) slot None ≡ undue now (get_or deadlines slot None)
undue_at now [] slot = refl
undue_at now (d ∷ rest) zero = refl
undue_at now (d ∷ rest) (suc slot) = undue_at now rest slot

pub length-cleared : (slots : List ℕ) (deadlines : List (Option ℕ)) → length (cleared slots deadlines) ≡ length deadlines
length-cleared [] deadlines = refl
length-cleared (slot ∷ rest) deadlines = length-cleared rest (set deadlines slot None) ∙ length-set deadlines slot None

none_set : (deadlines : List (Option ℕ)) (slot other : ℕ) → get_or deadlines other None ≡ None → get_or (set deadlines slot None) other None ≡ None
none_set [] slot other e = e
none_set (d ∷ rest) zero zero e = refl
none_set (d ∷ rest) zero (suc other) e = e
none_set (d ∷ rest) (suc slot) zero e = e
none_set (d ∷ rest) (suc slot) (suc other) e = none_set rest slot other e

none_there : (deadlines : List (Option ℕ)) (slot : ℕ) → get_or (set deadlines slot None) slot None ≡ None
none_there [] slot = refl
none_there (d ∷ rest) zero = refl
none_there (d ∷ rest) (suc slot) = none_there rest slot

none_stays : (slots : List ℕ) (deadlines : List (Option ℕ)) (slot : ℕ) → get_or deadlines slot None ≡ None → get_or (cleared slots deadlines) slot None ≡ None
none_stays [] deadlines slot e = e
none_stays (other ∷ rest) deadlines slot e = none_stays rest (set deadlines other None) slot (none_set deadlines other slot e)

cleared_at : (slots : List ℕ) (deadlines : List (Option ℕ)) (slot at : ℕ) → at < length slots → get_or slots at slot ≡ slot → get_or (cleared slots deadlines) slot None ≡ None
cleared_at [] deadlines slot at lt e = absurd (omega arith)
cleared_at (other ∷ rest) deadlines slot zero lt e =
    none_stays rest (set deadlines other None) slot (subst (λ (o : ℕ). get_or (set deadlines o None) slot None ≡ None) (sym e) (none_there deadlines slot))
cleared_at (other ∷ rest) deadlines slot (suc at) lt e = cleared_at rest (set deadlines other None) slot at (omega arith) e

uncleared : (slots : List ℕ) (deadlines : List (Option ℕ)) (slot : ℕ) → (Contains slots slot → ⊥) → get_or (cleared slots deadlines) slot None ≡ get_or deadlines slot None
uncleared [] deadlines slot absent = refl
uncleared (other ∷ rest) deadlines slot absent =
    let apart : slot ≢ other = λ e. absent (0, omega arith, sym e) in
    uncleared rest (set deadlines other None) slot (λ h. absent (suc h.0, omega (arith, h.1), h.2)) ∙ get_or-set_other deadlines other slot None None apart

left_at : (deadlines : List (Option ℕ)) (now : ℕ) (slots : List ℕ) → AreDue deadlines now slots → (slot : ℕ) (deadline : Option ℕ) → get_or deadlines slot None ≡ deadline → get_or (cleared slots deadlines) slot None ≡ undue now deadline
left_at deadlines now slots due slot None e = none_stays slots deadlines slot e
left_at deadlines now slots due slot (Some d) e =
    elim (lt_or_not now d) [
      | inl lt ↦
          let t = le_no d now lt in
          let absent : Contains slots slot → ⊥ = λ h.
          let one = due.only slot h in
          let same : d ≡ one.0 = ap number_of (sym e ∙ one.1.set) in
          omega (arith, same, one.1.came) in
          let stays : undue now (Some d) ≡ Some d = rw t in
          uncleared slots deadlines slot absent ∙ e ∙ sym stays
      | inr le ↦
          let t = le_yes d now le in
          let place = due.all slot d (record { set = e; came = le }) in
          let gone : undue now (Some d) ≡ None = rw t in
          cleared_at slots deadlines slot place.0 place.1 place.2 ∙ sym gone
    ]

-- once each slot that is due was cleared, the deadlines are left that have not come
pub cleared_is_undue : (deadlines : List (Option ℕ)) (now : ℕ) (slots : List ℕ) → AreDue deadlines now slots → cleared slots deadlines ≡ map (undue now) deadlines
cleared_is_undue deadlines now slots due =
    same_deadlines (cleared slots deadlines) (map (undue now) deadlines)
    (length-cleared slots deadlines ∙ sym (length-map deadlines (undue now)))
    (λ slot. left_at deadlines now slots due slot (get_or deadlines slot None) refl ∙ sym (undue_at now deadlines slot))

-- and then nothing is due
pub none_due : (deadlines : List (Option ℕ)) (now : ℕ) (slots : List ℕ) → AreDue deadlines now slots → (slot deadline : ℕ) → IsDue (cleared slots deadlines) now slot deadline → ⊥
none_due deadlines now slots due slot deadline is =
    not_due now (get_or deadlines slot None) deadline (sym (left_at deadlines now slots due slot (get_or deadlines slot None) refl) ∙ is.set) is.came
  where
    not_due : (now : ℕ) (o : Option ℕ) (deadline : ℕ) → undue now o ≡ Some deadline → deadline ≤ now → ⊥
    not_due now None deadline e le = cc
    not_due now (Some d) deadline e le =
        elim (lt_or_not now d) [
          | inl lt ↦
              let t = le_no d now lt in
              let stays : undue now (Some d) ≡ Some d = rw t in
              let same : d ≡ deadline = ap number_of (sym stays ∙ e) in
              omega (arith, same)
          | inr came ↦
              let t = le_yes d now came in
              let gone : undue now (Some d) ≡ None = rw t in
              let none : None ≡ Some deadline = sym gone ∙ e in
              cc
        ]

-- a slot that was not taken keeps its deadline
pub untaken : (deadlines : List (Option ℕ)) (now : ℕ) (slots : List ℕ) (slot : ℕ) → All (λ (gone : ℕ). gone ≢ slot) slots → get_or (cleared slots deadlines) slot None ≡ get_or deadlines slot None
untaken deadlines now slots slot none = uncleared slots deadlines slot (λ h. none h.0 slot h.1 h.2)

-- the slots that are due are there
due_there : (deadlines : List (Option ℕ)) (now : ℕ) (slots : List ℕ) → AreDue deadlines now slots → (slot : ℕ) → Contains slots slot → slot < length deadlines
due_there deadlines now slots due slot h =
    let one = due.only slot h in
    there deadlines slot one.0 one.1.set

pub all_there : (deadlines : List (Option ℕ)) (now : ℕ) (slots given : List ℕ) → AreDue deadlines now slots → given ≡ slots → All (λ (slot : ℕ). slot < length deadlines) given
all_there deadlines now slots given due same at other lt =
    due_there deadlines now slots due (get_or given at other) (subst (λ (xs : List ℕ). Contains xs (get_or given at other)) same (Contains-get_or given at other lt))

-- one slot more is cleared
pub cleared_more : (slots : List ℕ) (slot : ℕ) (deadlines : List (Option ℕ)) → cleared (slots ++ slot ∷ []) deadlines ≡ set (cleared slots deadlines) slot None
cleared_more [] slot deadlines = refl
cleared_more (other ∷ rest) slot deadlines = cleared_more rest slot (set deadlines other None)

pub clear_next : (old before after : Timer) (slots : List ℕ) (at : ℕ) → at < length slots → before ≡ record { deadlines = cleared (take at slots) old.deadlines; last = old.last; swept = old.swept } → after ≡ record { deadlines = set before.deadlines (get_or slots at 0) None; last = before.last; swept = before.swept } → after ≡ record { deadlines = cleared (take (at + 1) slots) old.deadlines; last = old.last; swept = old.swept }
clear_next old before after slots at lt before_is after_is =
    let slot = get_or slots at 0 in
    let timer : List (Option ℕ) → Timer = λ ds. record { deadlines = ds; last = old.last; swept = old.swept } in
    let set_in : Timer → Timer = λ t. record { deadlines = set t.deadlines slot None; last = t.last; swept = t.swept } in
    after_is ∙ ap set_in before_is ∙ ap timer (sym (cleared_more (take at slots) slot old.deadlines) ∙ ap (λ (xs : List ℕ). cleared xs old.deadlines) (sym (take_more slots at 0 lt)))
