-- Each ticket of a configuration is found by its name at its own place.
use Rattle.std.specs.Prelude.{Bool, true, false, None, Some, length, nat_lt, not, position, slice_get, ◌||◌, if◌then◌else◌}
use Rattle.std.specs.List.{list_any, position_or_len}
use Rattle.std.proofs.Common.{◌≡◌, ◌<◌, ◌≤◌, inl, inr, ℕ, zero, suc, List, [], ◌∷◌, ◌++◌, refl, sym, ap, arith, get_or, subst}
use Rattle.std.proofs.lemmas.Bool.{and_parts}
use Rattle.std.proofs.lemmas.Bool.Decides.{nat_tests}
use Rattle.std.proofs.lemmas.List.Sums.{position_or_len_is}
use Rattle.std.proofs.lemmas.Option.{get_or_from_slice_get, slice_get-get_or, slice_get_within}
use Rattle.std.proofs.lemmas.Slice.Eq.{bytes_eq-Decides}
use Rattle.booth_conf.specs.Lookups.{is_called}
use Rattle.booth_conf.specs.Sound.{are_new, same_ticket}
use Rattle.booth_conf.specs.declared.tickets.TicketConf.{TicketConf}
use Rattle.booth_node.specs.Records.{Has}
use Rattle.booth_audit.specs.Watched.{TicketsAreFound}

-- ---- no element is the same as one before it

not_either : (a b : Bool) → not (a || b) ≡ true → (a ≡ false) × (not b ≡ true)
not_either true b neither = absurd cc
not_either false b neither = (refl, neither)

none_passes : {X : Type 0} (p : X → Bool) (xs : List X) (x : X) → not (list_any p xs) ≡ true → Has xs x → p x ≡ false
none_passes p [] x none has = absurd has
none_passes {X} p (y ∷ ys) x none (inl is) =
    subst (λ (z : X). p z ≡ false) is (not_either (p y) (list_any p ys) none).0
none_passes p (y ∷ ys) x none (inr has) = none_passes p ys x (not_either (p y) (list_any p ys) none).1 has

has_last : {X : Type 0} (xs : List X) (x : X) → Has (xs ++ x ∷ []) x
has_last [] x = inl refl
has_last (y ∷ ys) x = inr (has_last ys x)

has_before : {X : Type 0} (xs : List X) (y x : X) → Has xs x → Has (xs ++ y ∷ []) x
has_before [] y x has = absurd has
has_before (z ∷ xs) y x (inl is) = inl is
has_before (z ∷ xs) y x (inr has) = inr (has_before xs y x has)

none_there : {X : Type 0} (place : ℕ) (x : X) → slice_get [] place ≡ Some x → ⊥
none_there place x is = let none : None ≡ Some x = is in absurd cc

module _ {X : Type 0} (same : X → X → Bool) where
  new_parts : (before : List X) (x : X) (xs : List X) → are_new same before (x ∷ xs) ≡ true
      → (not (list_any (same x) before) ≡ true) × (are_new same (before ++ x ∷ []) xs ≡ true)
  new_parts before x xs new = and_parts (not (list_any (same x) before)) (are_new same (before ++ x ∷ []) xs) new

  new_behind : (before xs : List X) (old x : X) (place : ℕ) → are_new same before xs ≡ true → Has before old
      → slice_get xs place ≡ Some x → same x old ≡ false
  new_behind before [] old x place new has is = absurd (none_there place x is)
  new_behind before (first ∷ xs) old x zero new has is =
      let this : first ≡ x = cc in
      subst (λ (z : X). same z old ≡ false) this
      (none_passes (same first) before old (new_parts before first xs new).0 has)
  new_behind before (first ∷ xs) old x (suc place) new has is =
      new_behind (before ++ first ∷ []) xs old x place (new_parts before first xs new).1
      (has_before before first old has) is

  pub new_pair : (before xs : List X) (old x : X) (earlier place : ℕ) → are_new same before xs ≡ true
      → slice_get xs earlier ≡ Some old → slice_get xs place ≡ Some x → earlier < place → same x old ≡ false
  new_pair before [] old x earlier place new was is less = absurd (none_there earlier old was)
  new_pair before (first ∷ xs) old x earlier zero new was is less = absurd (omega (arith, less))
  new_pair before (first ∷ xs) old x zero (suc place) new was is less =
      let this : first ≡ old = cc in
      subst (λ (z : X). same x z ≡ false) this
      (new_behind (before ++ first ∷ []) xs first x place (new_parts before first xs new).1 (has_last before first) is)
  new_pair before (first ∷ xs) old x (suc earlier) (suc place) new was is less =
      new_pair (before ++ first ∷ []) xs old x earlier place (new_parts before first xs new).1 was is
      (omega (arith, less))

-- ---- places

place_found : {X : Type 0} (p : X → Bool) (xs : List X) (place : ℕ) → position_or_len p xs ≡ place → place < length xs
    → position p xs ≡ Some place
place_found p xs place is below = by_test (nat_lt (position_or_len p xs) (length xs)) refl
  where
    by_test : (b : Bool) → nat_lt (position_or_len p xs) (length xs) ≡ b
        → (if b then Some (position_or_len p xs) else None) ≡ Some place
    by_test true test = ap Some is
    by_test false test =
        let past : length xs ≤ position_or_len p xs = grind (arith, nat_tests) in
        absurd (omega (arith, past, is, below))

pub tickets_are_found : TicketsAreFound
tickets_are_found config sound place conf at =
    let within = slice_get_within config.tickets place conf at in
    place_found (is_called conf.name) config.tickets place
    (position_or_len_is (is_called conf.name) config.tickets place conf (omega (arith, within))
    (λ earlier less.
    new_pair same_ticket [] config.tickets (get_or config.tickets earlier conf) conf earlier place sound.new_tickets
    (slice_get-get_or config.tickets earlier conf (omega (arith, less, within))) at less)
    (λ below.
    (bytes_eq-Decides conf.name (get_or config.tickets place conf).name).1
    (ap (λ (t : TicketConf). t.name) (sym (get_or_from_slice_get config.tickets place conf conf at)))))
    within
