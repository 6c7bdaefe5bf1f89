-- Lists of entries that are cut at two places, and their times.
use Rattle.std.proofs.Common.{◌≡◌, ◌⊎◌, ℕ, ◌≤◌, List, [], ◌∷◌, ◌++◌, refl, sym, ap, ◌∙◌, inl, inr, arith}
use Rattle.booth_node.specs.Records.{Has}
use Rattle.booth_node.specs.World.{WorldEntry, World, HasForm, last_time}

pub heads : {A : Type 0} (x y : A) (xs ys : List A) → x ∷ xs ≡ y ∷ ys → (x ≡ y) × (xs ≡ ys)
heads x y xs ys e = (cc, cc)

pub joins : {A : Type 0} (xs ys zs : List A) → (xs ++ ys) ++ zs ≡ xs ++ (ys ++ zs)
joins [] ys zs = refl
joins (x ∷ xs) ys zs = ap (λ rest. x ∷ rest) (joins xs ys zs)

pub with_none : {A : Type 0} (xs : List A) → xs ++ [] ≡ xs
with_none [] = refl
with_none (x ∷ xs) = ap (λ rest. x ∷ rest) (with_none xs)

-- a list that has more behind itself has nothing there
grown : {A : Type 0} (xs ys : List A) → xs ≡ xs ++ ys → ys ≡ []
grown [] ys e = sym e
grown (x ∷ xs) ys e = grown xs ys (heads x x xs (xs ++ ys) e).1

pub some_there : {A : Type 0} (xs : List A) (y : A) (ys : List A) → xs ++ y ∷ ys ≡ [] → ⊥
some_there [] y ys e = absurd cc
some_there (x ∷ xs) y ys e = absurd cc

pub no_longer : {A : Type 0} (xs ys : List A) (z : A) (zs : List A) → xs ≡ (xs ++ ys) ++ z ∷ zs → ⊥
no_longer xs ys z zs e = some_there ys z zs (grown xs (ys ++ z ∷ zs) (e ∙ joins xs ys (z ∷ zs)))

pub has_at : {A : Type 0} (xs : List A) (y : A) (ys : List A) → Has (xs ++ y ∷ ys) y
has_at [] y ys = inl refl
has_at (x ∷ xs) y ys = inr (has_at xs y ys)

-- where a list has this
pub record Place {A : Type 0} (xs : List A) (x : A) : Type 0 where
  pub before : List A
  pub after : List A
  pub whole : xs ≡ before ++ x ∷ after

pub place_of : {A : Type 0} (xs : List A) (x : A) → Has xs x → Place xs x
place_of [] x h = absurd h
place_of (y ∷ ys) x (inl is) = record { before = []; after = ys; whole = ap (λ z. z ∷ ys) is }
place_of (y ∷ ys) x (inr h) =
    let p = place_of ys x h in record { before = y ∷ p.before; after = p.after; whole = ap (λ rest. y ∷ rest) p.whole }

-- one place is behind another: these lie between
pub record IsBehind {A : Type 0} (early : List A) (x : A) (xs late : List A) (y : A) (ys : List A) : Type 0 where
  pub more : List A
  pub late_is : late ≡ early ++ x ∷ more
  pub rest_is : xs ≡ more ++ y ∷ ys

pub two_places : {A : Type 0} (first second : List A) (x y : A) (xs ys : List A) → first ++ x ∷ xs ≡ second ++ y ∷ ys
    → (x ≡ y) ⊎ (IsBehind first x xs second y ys ⊎ IsBehind second y ys first x xs)
two_places [] [] x y xs ys e = inl (heads x y xs ys e).0
two_places [] (b ∷ second) x y xs ys e =
    let q = heads x b xs (second ++ y ∷ ys) e in
    inr (inl (record { more = second; late_is = ap (λ z. z ∷ second) (sym q.0); rest_is = q.1 }))
two_places (a ∷ first) [] x y xs ys e =
    let q = heads a y (first ++ x ∷ xs) ys e in
    inr (inr (record { more = first; late_is = ap (λ z. z ∷ first) q.0; rest_is = sym q.1 }))
two_places {A} (a ∷ first) (b ∷ second) x y xs ys e = by_rest (two_places first second x y xs ys both.1)
  where
    both : (a ≡ b) × (first ++ x ∷ xs ≡ second ++ y ∷ ys)
    both = heads a b (first ++ x ∷ xs) (second ++ y ∷ ys) e

    by_rest : (x ≡ y) ⊎ (IsBehind first x xs second y ys ⊎ IsBehind second y ys first x xs)
        → (x ≡ y) ⊎ (IsBehind (a ∷ first) x xs (b ∷ second) y ys ⊎ IsBehind (b ∷ second) y ys (a ∷ first) x xs)
    by_rest (inl same) = inl same
    by_rest (inr (inl q)) = inr (inl (record {
      more = q.more;
      late_is = ap (λ rest. b ∷ rest) q.late_is ∙ ap (λ z. z ∷ (first ++ x ∷ q.more)) (sym both.0);
      rest_is = q.rest_is;
    }))
    by_rest (inr (inr q)) = inr (inr (record {
      more = q.more;
      late_is = ap (λ rest. a ∷ rest) q.late_is ∙ ap (λ z. z ∷ (second ++ y ∷ q.more)) both.0;
      rest_is = q.rest_is;
    }))

-- ---- times

pub last_join : (time : ℕ) (xs ys : List WorldEntry) (y : WorldEntry) → last_time time (xs ++ y ∷ ys) ≡ last_time y.time ys
last_join time [] ys y = refl
last_join time (x ∷ xs) ys y = last_join x.time xs ys y

-- times rise behind an entry
pub rises : (w : World) → HasForm w → (before : List WorldEntry) (entry : WorldEntry) (more after : List WorldEntry)
    → w.entries ≡ before ++ entry ∷ (more ++ after) → entry.time ≤ last_time entry.time more
rises w form before entry [] after whole = omega arith
rises w form before entry (e ∷ more) after whole =
    let all : w.entries ≡ (before ++ entry ∷ []) ++ e ∷ (more ++ after) = whole ∙ sym (joins before (entry ∷ []) (e ∷ (more ++ after))) in
    let next : last_time 0 (before ++ entry ∷ []) ≤ e.time = form.in_order (before ++ entry ∷ []) (more ++ after) e all in
    let here : last_time 0 (before ++ entry ∷ []) ≡ entry.time = last_join 0 before [] entry in
    let rest : e.time ≤ last_time e.time more = rises w form (before ++ entry ∷ []) e more after all in
    omega (arith, next, here, rest)
