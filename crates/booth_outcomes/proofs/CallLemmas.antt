-- A call among others.
use Rattle.std.specs.Prelude.{Contains}
use Rattle.std.proofs.Common.{◌≡◌, List, [], ◌∷◌, ◌++◌, refl, sym, subst, arith}
use Rattle.std.proofs.lemmas.List.Elements.{Contains-append_left, Contains-append_right}
use Rattle.booth_host.specs.declared.entry.Entry.{Entry}

-- a call among the calls of a part is one of the whole
pub among : (x : Entry) (xs ys entries : List Entry) → Contains xs x → entries ≡ xs ++ ys → Contains entries x
among x xs ys entries here whole =
    let P : List Entry → Type 0 = λ es. Contains es x in
    subst P (sym whole) (Contains-append_left xs ys x here)

pub same_calls : (x : Entry) (xs entries : List Entry) → Contains xs x → entries ≡ xs → Contains entries x
same_calls x xs entries here same =
    let P : List Entry → Type 0 = λ es. Contains es x in
    subst P (sym same) here

pub first_of : (x : Entry) (xs : List Entry) → Contains (x ∷ xs) x
first_of x xs = (0, omega arith, refl)

pub second_of : (u x : Entry) (xs : List Entry) → Contains (u ∷ x ∷ xs) x
second_of u x xs = (1, omega arith, refl)

pub third_of : (u v x : Entry) (xs : List Entry) → Contains (u ∷ v ∷ x ∷ xs) x
third_of u v x xs = (2, omega arith, refl)

-- a part of calls that are among these
abbrev pub AreAmong : List Entry → List Entry → Type 0
AreAmong part entries = (x : Entry) → Contains part x → Contains entries x

pub left_among : (xs ys entries whole : List Entry) → whole ≡ xs ++ ys → AreAmong whole entries → AreAmong xs entries
left_among xs ys entries whole same all x here = all x (among x xs ys whole here same)

pub right_among : (xs ys entries whole : List Entry) → whole ≡ xs ++ ys → AreAmong whole entries → AreAmong ys entries
right_among xs ys entries whole same all x here =
    all x (same_calls x (xs ++ ys) whole (Contains-append_right xs ys x here) same)

later_among : (x : Entry) (ys entries : List Entry) → AreAmong (x ∷ ys) entries → AreAmong ys entries
later_among x ys entries all = right_among (x ∷ []) ys entries (x ∷ ys) refl all

-- the one call of a part was made
pub only : (entries : List Entry) (x : Entry) (part : List Entry) → part ≡ x ∷ [] → AreAmong part entries → Contains entries x
only entries x part same all = all x (same_calls x (x ∷ []) part (first_of x []) same)
