-- How much room the datagrams of each socket take up, if one is put behind the others or the first is given.
use Rattle.std.proofs.Common.{◌≡◌, ◌≤◌, ◌<◌, ◌+◌, ℕ, List, [], ◌∷◌, ◌++◌, length, get_or, set, replicate, refl, sym, ◌∙◌, ap, subst, inl, inr, arith, length-set, get_or-set_same, get_or-set_other}
use Rattle.std.proofs.lemmas.Bool.{cases_eq, cond-true, cond-false, eq-eqb, ne_eqb}
use Rattle.std.proofs.lemmas.List.{get_or-replicate, length-replicate}
use Rattle.booth_host.specs.declared.datagram.TheConstants.{DATAGRAM_BYTES}
use Rattle.booth_real.specs.Waiting.{AreCounted, AreWithin, filled_by, part_of, room_of}
use Rattle.booth_real.specs.declared.backlog.Held.{Held}

own_part : (place : ℕ) (one : Held) → one.place ≡ place → part_of place one ≡ room_of one.length
own_part place one same = cond-true _ (room_of one.length) 0 (eq-eqb one.place place same)

no_part : (place : ℕ) (one : Held) → (one.place ≡ place → ⊥) → part_of place one ≡ 0
no_part place one other = cond-false _ (room_of one.length) 0 (ne_eqb one.place place other)

filled_behind : (place : ℕ) (held : List Held) (one : Held)
    → filled_by place (held ++ one ∷ []) ≡ filled_by place held + part_of place one
filled_behind place [] one = omega arith
filled_behind place (first ∷ held) one = let more = filled_behind place held one in omega (arith, more)

-- ---- each count is right

pub counted_none : (n : ℕ) → AreCounted (replicate n 0) []
counted_none n place below = get_or-replicate n place 0 0 (subst (λ (m : ℕ). place < m) (length-replicate n 0) below)

pub counted_behind : (filled : List ℕ) (held : List Held) (one : Held) (more : ℕ) → one.place < length filled
    → more ≡ get_or filled one.place 0 + room_of one.length → AreCounted filled held
    → AreCounted (set filled one.place more) (held ++ one ∷ [])
counted_behind filled held one more low sum counted place below =
    let within : place < length filled = subst (λ (n : ℕ). place < n) (length-set filled one.place more) below in
    let behind = filled_behind place held one in
    elim (cases_eq place one.place) [
      | inl same ↦
          let stored : get_or (set filled one.place more) place 0 ≡ more =
          subst (λ (k : ℕ). get_or (set filled one.place more) k 0 ≡ more) (sym same)
          (get_or-set_same filled one.place more 0 low) in
          let own = own_part place one (sym same) in
          let was = counted one.place low in
          let moved : filled_by place held ≡ filled_by one.place held = ap (λ (k : ℕ). filled_by k held) same in
          omega (arith, stored, own, was, moved, behind, sum)
      | inr other ↦
          let stored = get_or-set_other filled one.place place more 0 other in
          let none = no_part place one (λ e. other (sym e)) in
          let was = counted place within in
          omega (arith, stored, none, was, behind)
    ]

-- what the first datagram takes up is in its socket's count
pub own_is_counted : (filled : List ℕ) (first : Held) (rest : List Held) → first.place < length filled
    → AreCounted filled (first ∷ rest) → room_of first.length ≤ get_or filled first.place 0
own_is_counted filled first rest low counted =
    let own = own_part first.place first refl in
    let was = counted first.place low in
    omega (arith, own, was)

pub counted_after : (filled : List ℕ) (first : Held) (rest : List Held) (less : ℕ) → first.place < length filled
    → less + room_of first.length ≡ get_or filled first.place 0 → AreCounted filled (first ∷ rest)
    → AreCounted (set filled first.place less) rest
counted_after filled first rest less low difference counted place below =
    let within : place < length filled = subst (λ (n : ℕ). place < n) (length-set filled first.place less) below in
    elim (cases_eq place first.place) [
      | inl same ↦
          let stored : get_or (set filled first.place less) place 0 ≡ less =
          subst (λ (k : ℕ). get_or (set filled first.place less) k 0 ≡ less) (sym same)
          (get_or-set_same filled first.place less 0 low) in
          let own = own_part first.place first refl in
          let was = counted first.place low in
          let moved : filled_by place rest ≡ filled_by first.place rest = ap (λ (k : ℕ). filled_by k rest) same in
          omega (arith, stored, own, was, moved, difference)
      | inr other ↦
          let stored = get_or-set_other filled first.place place less 0 other in
          let none = no_part place first (λ e. other (sym e)) in
          let was = counted place within in
          omega (arith, stored, none, was)
    ]

-- ---- no socket takes up more than its share and one datagram

pub within_none : (share : ℕ) → AreWithin share []
within_none share place = omega arith

pub within_behind : (share : ℕ) (held : List Held) (one : Held) → one.length ≤ DATAGRAM_BYTES
    → filled_by one.place held < share → AreWithin share held → AreWithin share (held ++ one ∷ [])
within_behind share held one short room within place =
    let behind = filled_behind place held one in
    elim (cases_eq place one.place) [
      | inl same ↦
          let own = own_part place one (sym same) in
          let moved : filled_by place held ≡ filled_by one.place held = ap (λ (k : ℕ). filled_by k held) same in
          omega (arith, own, moved, behind, short, room)
      | inr other ↦
          let none = no_part place one (λ e. other (sym e)) in
          let was = within place in
          omega (arith, none, was, behind)
    ]

pub within_after : (share : ℕ) (first : Held) (rest : List Held) → AreWithin share (first ∷ rest) → AreWithin share rest
within_after share first rest within place = let was = within place in omega (arith, was)
