-- The greatest of some slots, where one of them is closed, or newer than the others.
use Rattle.std.proofs.Common.{◌≡◌, ◌⊎◌, inl, inr, ⊎_elim, ◌<◌, ◌≤◌, Bool, true, false, List, [], ◌∷◌, ◌++◌, Option, None, Some, refl, sym, ◌∙◌, ap, arith, if◌then◌else◌}
use Rattle.std.specs.Prelude.{nat_lt}
use Rattle.std.proofs.lemmas.Bool.Decides.{nat_tests}
use Rattle.booth_rec.specs.RecordFile.{Slot, greater, greatest}

-- the slot is in the list
abbrev pub Has : List Slot → Slot → Type 0
Has [] s = ⊥
Has (x ∷ xs) s = (x ≡ s) ⊎ Has xs s

pub untrue : false ≡ true → ⊥
untrue e = cc

none_some : (s : Slot) → None ≡ Some s → ⊥
none_some s e = cc

some_is : (a b : Slot) → Some a ≡ Some b → a ≡ b
some_is a b e = cc

-- a closed slot does not count
pub aside : (xs ys : List Slot) (t : Slot) → t.is_open ≡ false → greatest (xs ++ t ∷ ys) ≡ greatest (xs ++ ys)
aside [] ys t closed = ap (λ (b : Bool). if b then greater t (greatest ys) else greatest ys) closed
aside (x ∷ xs) ys t closed = ap (λ (o : Option Slot). if x.is_open then greater x o else o) (aside xs ys t closed)

-- the greatest is an open one of them
pub record IsOne (xs : List Slot) (g : Slot) : Type 0 where
  pub has : Has xs g
  pub opened : g.is_open ≡ true

pub greatest_is_one : (xs : List Slot) (g : Slot) → greatest xs ≡ Some g → IsOne xs g
greatest_is_one [] g e = absurd (none_some g e)
greatest_is_one (x ∷ xs) g e = by_gate (λ at. greatest_is_one xs g at) x.is_open refl (greatest xs) refl e
  where
    there : IsOne xs g → IsOne (x ∷ xs) g
    there one = record { has = inr one.has; opened = one.opened }

    here : x.is_open ≡ true → x ≡ g → IsOne (x ∷ xs) g
    here opened same = record { has = inl same; opened = ap (λ (s : Slot). s.is_open) (sym same) ∙ opened }

    by_number : (greatest xs ≡ Some g → IsOne xs g) → x.is_open ≡ true → (later : Slot) → greatest xs ≡ Some later → (b : Bool) → (if b then Some later else Some x) ≡ Some g → IsOne (x ∷ xs) g
    by_number rec opened later is true e = there (rec (is ∙ e))
    by_number rec opened later is false e = here opened (some_is x g e)

    by_gate : (greatest xs ≡ Some g → IsOne xs g) → (b : Bool) → x.is_open ≡ b → (o : Option Slot) → greatest xs ≡ o → (if b then greater x o else o) ≡ Some g → IsOne (x ∷ xs) g
    by_gate rec false closed o is e = there (rec (is ∙ e))
    by_gate rec true opened None is e = here opened (some_is x g e)
    by_gate rec true opened (Some later) is e = by_number rec opened later is (nat_lt x.number later.number) e

-- where none is in force none is open
pub no_open : (ys : List Slot) → greatest ys ≡ None → (s : Slot) → Has ys s → s.is_open ≡ true → ⊥
no_open [] e s h is = h
no_open (y ∷ ys) e s h is = by_y (λ at there. no_open ys at s there is) y.is_open refl (greatest ys) refl e
  where
    never : (a : Slot) → Some a ≡ None → ⊥
    never a e = cc

    by_n : (later : Slot) (b : Bool) → (if b then Some later else Some y) ≡ None → ⊥
    by_n later true e = never later e
    by_n later false e = never y e

    by_y : (greatest ys ≡ None → Has ys s → ⊥) → (b : Bool) → y.is_open ≡ b → (o : Option Slot) → greatest ys ≡ o → (if b then greater y o else o) ≡ None → ⊥
    by_y rec true opened None at e = never y e
    by_y rec true opened (Some later) at e = by_n later (nat_lt y.number later.number) e
    by_y rec false closed o at e = ⊎_elim
        (λ (same : y ≡ s). untrue (sym closed ∙ (ap (λ (s : Slot). s.is_open) same ∙ is)))
        (λ (there : Has ys s). rec (at ∙ e) there) h

-- no open one has a greater number
pub greatest_is_most : (xs : List Slot) (g : Slot) → greatest xs ≡ Some g → (s : Slot) → Has xs s → s.is_open ≡ true → s.number ≤ g.number
greatest_is_most [] g e s h opened = absurd h
greatest_is_most (x ∷ xs) g e s h opened = by_gate (λ k at there. greatest_is_most xs k at s there opened) x.is_open refl (greatest xs) refl e
  where
    -- where x itself is the greatest
    first : x ≡ g → (Has xs s → s.number ≤ x.number) → s.number ≤ g.number
    first same most =
        let n = ap (λ (s : Slot). s.number) same in ⊎_elim
        (λ (e : x ≡ s). let k = ap (λ (s : Slot). s.number) e in omega (arith, n, k))
        (λ (there : Has xs s). let l = most there in omega (arith, l, n)) h

    by_number : ((k : Slot) → greatest xs ≡ Some k → Has xs s → s.number ≤ k.number) → (later : Slot) → greatest xs ≡ Some later → (b : Bool) → nat_lt x.number later.number ≡ b
        → (if b then Some later else Some x) ≡ Some g → s.number ≤ g.number
    by_number rec later at true less e =
        let n = ap (λ (s : Slot). s.number) (some_is later g e) in
        let below : x.number < later.number = grind (arith, nat_tests) in
        ⊎_elim
        (λ (here : x ≡ s). let k = ap (λ (s : Slot). s.number) here in omega (arith, k, below, n))
        (λ (there : Has xs s). let l = rec later at there in omega (arith, l, n)) h
    by_number rec later at false less e =
        let m : later.number ≤ x.number = grind (arith, nat_tests) in
        first (some_is x g e) (λ there. let l = rec later at there in omega (arith, l, m))

    by_gate : ((k : Slot) → greatest xs ≡ Some k → Has xs s → s.number ≤ k.number) → (b : Bool) → x.is_open ≡ b → (o : Option Slot) → greatest xs ≡ o → (if b then greater x o else o) ≡ Some g → s.number ≤ g.number
    by_gate rec false closed o at e = ⊎_elim
        (λ (same : x ≡ s). absurd (untrue (sym closed ∙ (ap (λ (s : Slot). s.is_open) same ∙ opened))))
        (λ (there : Has xs s). rec g (at ∙ e) there) h
    by_gate rec true is None at e = first (some_is x g e) (λ there. absurd (no_open xs at s there opened))
    by_gate rec true is (Some later) at e = by_number rec later at (nat_lt x.number later.number) refl e

-- an open slot that is newer than each open one is in force
pub newest : (xs ys : List Slot) (t : Slot) → t.is_open ≡ true → ((s : Slot) → Has (xs ++ ys) s → s.is_open ≡ true → s.number < t.number) → greatest (xs ++ t ∷ ys) ≡ Some t
newest [] ys t opened below =
    ap (λ (b : Bool). if b then greater t (greatest ys) else greatest ys) opened ∙ by_rest (greatest ys) refl
  where
    by_less : (later : Slot) (b : Bool) → nat_lt t.number later.number ≡ b → later.number < t.number → (if b then Some later else Some t) ≡ Some t
    by_less later true less l = absurd (grind (arith, nat_tests))
    by_less later false less l = refl

    by_rest : (o : Option Slot) → greatest ys ≡ o → greater t o ≡ Some t
    by_rest None e = refl
    by_rest (Some later) e =
        let one = greatest_is_one ys later e in by_less later (nat_lt t.number later.number) refl (below later one.has one.opened)
newest (x ∷ xs) ys t opened below =
    ap (λ (o : Option Slot). if x.is_open then greater x o else o) (newest xs ys t opened (λ s h. below s (inr h))) ∙ by_gate x.is_open refl
  where
    by_less : (b : Bool) → nat_lt x.number t.number ≡ b → x.number < t.number → (if b then Some t else Some x) ≡ Some t
    by_less true less l = refl
    by_less false less l = absurd (grind (arith, nat_tests))

    by_gate : (b : Bool) → x.is_open ≡ b → (if b then greater x (Some t) else Some t) ≡ Some t
    by_gate true is = by_less (nat_lt x.number t.number) refl (below x (inl refl) is)
    by_gate false is = refl
