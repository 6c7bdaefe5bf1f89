-- The first element of a list, with its place, at which a function gives something.
use Rattle.std.proofs.Common.{◌≡◌, ◌<◌, ◌+◌, ℕ, List, [], ◌∷◌, ◌++◌, Option, Some, None, true, false, length, drop, get_or, refl, ap, ◌∙◌}
use Rattle.std.specs.List.{filter_map, enumerate_from}
use Rattle.std.specs.Option.{option_or, is_some}
use Rattle.std.proofs.lemmas.List.{drop_more}
use Rattle.booth_conf.specs.Sections.{first}

-- what f gives first of the elements with their places
abbrev pub given : {X Y : Type 0} → (ℕ × X → Option Y) → ℕ → List X → Option Y
given f n xs = first (filter_map f (enumerate_from n xs))

pub given_cons : {X Y : Type 0} (f : ℕ × X → Option Y) (n : ℕ) (x : X) (xs : List X) (o : Option Y) →
    f (n, x) ≡ o → given f n (x ∷ xs) ≡ option_or o (given f (n + 1) xs)
given_cons f n x xs None e = rw e refl
given_cons f n x xs (Some y) e = rw e refl

-- what is given from place i on: of the element there, or else from the next place on
pub given_at : {X Y : Type 0} (f : ℕ × X → Option Y) (xs : List X) (i : ℕ) (d : X) (o : Option Y) →
    i < length xs → f (i, get_or xs i d) ≡ o →
    given f i (drop i xs) ≡ option_or o (given f (i + 1) (drop (i + 1) xs))
given_at f xs i d o lt e =
    ap (given f i) (drop_more xs i d lt) ∙ given_cons f i (get_or xs i d) (drop (i + 1) xs) o e

pub first_append : {Y : Type 0} (xs ys : List Y) →
    first (xs ++ ys) ≡ option_or (first xs) (first ys)
first_append [] ys = refl
first_append (x ∷ xs) ys = refl

pub or_some : {Y : Type 0} (o p : Option Y) → is_some o ≡ true → option_or o p ≡ o
or_some None p h = cc
or_some (Some y) p h = refl

pub or_none : {Y : Type 0} (o p : Option Y) → is_some o ≡ false → option_or o p ≡ p
or_none None p h = refl
or_none (Some y) p h = cc
