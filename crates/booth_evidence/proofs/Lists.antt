-- Lists that are cut at places, and the entries of one member in a list of entries.
use Rattle.std.specs.Prelude.{◌==◌, map, if◌then◌else◌}
use Rattle.std.specs.List.{All}
use Rattle.std.proofs.Common.{◌≡◌, ◌⊎◌, ℕ, ◌≤◌, Bool, true, false, List, [], ◌∷◌, ◌++◌, refl, sym, ap, ◌∙◌, subst, inl, inr, arith}
use Rattle.std.proofs.lemmas.Bool.Decides.{Decides-eqb}
use Rattle.std.proofs.lemmas.List.Elements.{All-head, All-tail}
use Rattle.booth_node.specs.Records.{Has}
use Rattle.booth_node.specs.Session.{SessionEntry}
use Rattle.booth_node.specs.World.{HasForm, World, WorldEntry, entries_of, last_time}
use Rattle.booth_world.proofs.WorldHosts.{entries_join, entry_other, entry_own}

-- ---- any lists

pub heads : {A : Type 0} (x y : A) (xs ys : List A) → x ∷ xs ≡ y ∷ ys → (x ≡ y) × (xs ≡ ys)
heads x y xs ys e = (cc, cc)

pub joins : {A : Type 0} (xs ys zs : List A) → (xs ++ ys) ++ zs ≡ xs ++ (ys ++ zs)
joins [] ys zs = refl
joins (x ∷ xs) ys zs = ap (λ rest. x ∷ rest) (joins xs ys zs)

pub none_there : {A : Type 0} (xs : List A) (y : A) (ys : List A) → [] ≡ xs ++ y ∷ ys → ⊥
none_there [] y ys e = absurd cc
none_there (x ∷ xs) y ys e = absurd cc

pub both_none : {A : Type 0} (xs ys : List A) → xs ++ ys ≡ [] → (xs ≡ []) × (ys ≡ [])
both_none [] ys e = (refl, e)
both_none (x ∷ xs) ys e = let no : x ∷ (xs ++ ys) ≡ [] = e in absurd cc

pub in_left : {A : Type 0} (xs ys : List A) (x : A) → Has xs x → Has (xs ++ ys) x
in_left [] ys x h = absurd h
in_left (y ∷ xs) ys x (inl e) = inl e
in_left (y ∷ xs) ys x (inr h) = inr (in_left xs ys x h)

pub in_one_of : {A : Type 0} (xs ys : List A) (x : A) → Has (xs ++ ys) x → Has xs x ⊎ Has ys x
in_one_of [] ys x h = inr h
in_one_of (y ∷ xs) ys x (inl e) = inl (inl e)
in_one_of {A} (y ∷ xs) ys x (inr h) = by (in_one_of xs ys x h)
  where
    by : Has xs x ⊎ Has ys x → ((y ≡ x) ⊎ Has xs x) ⊎ Has ys x
    by (inl l) = inl (inr l)
    by (inr r) = inr r

pub mapped : {A B : Type 0} (f : A → B) (xs : List A) (x : A) → Has xs x → Has (map f xs) (f x)
mapped f [] x h = absurd h
mapped f (y ∷ xs) x (inl e) = inl (ap f e)
mapped f (y ∷ xs) x (inr h) = inr (mapped f xs x h)

-- of what an item of a mapped list is the image
pub record Image {A B : Type 0} (f : A → B) (xs : List A) (y : B) : Type 0 where
  pub of : A
  pub among : Has xs of
  pub is : f of ≡ y

pub image : {A B : Type 0} (f : A → B) (xs : List A) (y : B) → Has (map f xs) y → Image f xs y
image f [] y h = absurd h
image f (x ∷ xs) y (inl e) = record { of = x; among = inl refl; is = e }
image f (x ∷ xs) y (inr h) = let q = image f xs y h in record { of = q.of; among = inr q.among; is = q.is }

pub all_has : {A : Type 0} (P : A → Type 0) (xs : List A) → All P xs → (x : A) → Has xs x → P x
all_has P [] all x h = absurd h
all_has P (y ∷ xs) all x (inl e) = subst P e (All-head P y xs all)
all_has P (y ∷ xs) all x (inr h) = all_has P xs (All-tail P y xs all) x h

-- where a list has this
pub record Place {A : Type 0} (xs : List A) (x : A) : Type 0 where
  pub before : List A
  pub after : List A
  pub whole : xs ≡ before ++ x ∷ after

pub place_of : {A : Type 0} (xs : List A) (x : A) → Has xs x → Place xs x
place_of [] x h = absurd h
place_of (y ∷ ys) x (inl is) = record { before = []; after = ys; whole = ap (λ z. z ∷ ys) is }
place_of (y ∷ ys) x (inr h) =
    let p = place_of ys x h in record { before = y ∷ p.before; after = p.after; whole = ap (λ rest. y ∷ rest) p.whole }

-- one place is behind another: these lie between
pub record IsBehind {A : Type 0} (early : List A) (x : A) (xs late : List A) (y : A) (ys : List A) : Type 0 where
  pub more : List A
  pub late_is : late ≡ early ++ x ∷ more
  pub rest_is : xs ≡ more ++ y ∷ ys

pub two_places : {A : Type 0} (first second : List A) (x y : A) (xs ys : List A) → first ++ x ∷ xs ≡ second ++ y ∷ ys
    → (x ≡ y) ⊎ (IsBehind first x xs second y ys ⊎ IsBehind second y ys first x xs)
two_places [] [] x y xs ys e = inl (heads x y xs ys e).0
two_places [] (b ∷ second) x y xs ys e =
    let q = heads x b xs (second ++ y ∷ ys) e in
    inr (inl (record { more = second; late_is = ap (λ z. z ∷ second) (sym q.0); rest_is = q.1 }))
two_places (a ∷ first) [] x y xs ys e =
    let q = heads a y (first ++ x ∷ xs) ys e in
    inr (inr (record { more = first; late_is = ap (λ z. z ∷ first) q.0; rest_is = sym q.1 }))
two_places {A} (a ∷ first) (b ∷ second) x y xs ys e = by_rest (two_places first second x y xs ys both.1)
  where
    both : (a ≡ b) × (first ++ x ∷ xs ≡ second ++ y ∷ ys)
    both = heads a b (first ++ x ∷ xs) (second ++ y ∷ ys) e

    by_rest : (x ≡ y) ⊎ (IsBehind first x xs second y ys ⊎ IsBehind second y ys first x xs)
        → (x ≡ y) ⊎ (IsBehind (a ∷ first) x xs (b ∷ second) y ys ⊎ IsBehind (b ∷ second) y ys (a ∷ first) x xs)
    by_rest (inl same) = inl same
    by_rest (inr (inl q)) = inr (inl (record {
      more = q.more;
      late_is = ap (λ rest. b ∷ rest) q.late_is ∙ ap (λ z. z ∷ (first ++ x ∷ q.more)) (sym both.0);
      rest_is = q.rest_is;
    }))
    by_rest (inr (inr q)) = inr (inr (record {
      more = q.more;
      late_is = ap (λ rest. a ∷ rest) q.late_is ∙ ap (λ z. z ∷ (second ++ y ∷ q.more)) both.0;
      rest_is = q.rest_is;
    }))

-- ---- the entries of a member

-- up to an entry of its own
pub up_to : (m : ℕ) (before : List WorldEntry) (e : WorldEntry) → e.member ≡ m
    → entries_of m (before ++ e ∷ []) ≡ entries_of m before ++ e.what ∷ []
up_to m before e own =
    entries_join m before (e ∷ []) ∙ ap (λ (xs : List SessionEntry). entries_of m before ++ xs) (entry_own m e [] own)

-- the entry of the world for an action of a member
pub record EntryAt (m : ℕ) (all : List WorldEntry) (early : List SessionEntry) (what : SessionEntry) : Type 0 where
  pub before : List WorldEntry
  pub entry : WorldEntry
  pub after : List WorldEntry
  pub whole : all ≡ before ++ entry ∷ after
  pub own : entry.member ≡ m
  pub is : entry.what ≡ what
  pub first : entries_of m before ≡ early

abbrev behind : (m : ℕ) (e : WorldEntry) (all : List WorldEntry) (early more : List SessionEntry) (what : SessionEntry)
    → ((before : List WorldEntry) → entries_of m before ≡ early → entries_of m (e ∷ before) ≡ more)
    → EntryAt m all early what → EntryAt m (e ∷ all) more what
behind m e all early more what adds q = record {
  before = e ∷ q.before;
  entry = q.entry;
  after = q.after;
  whole = ap (λ (rest : List WorldEntry). e ∷ rest) q.whole;
  own = q.own;
  is = q.is;
  first = adds q.before q.first;
}

true_not_false : true ≡ false → ⊥
true_not_false e = absurd cc

pub entry_at : (m : ℕ) (all : List WorldEntry) (early later : List SessionEntry) (what : SessionEntry)
    → entries_of m all ≡ early ++ what ∷ later → EntryAt m all early what
entry_at m [] early later what e = absurd (none_there early what later e)
entry_at m (e ∷ all) early later what whole =
    by_test (e.member == m) refl (λ others same. entry_at m all others later what same) whole
  where
    Rest : Type 0
    Rest = (others : List SessionEntry) → entries_of m all ≡ others ++ what ∷ later → EntryAt m all others what

    by_early : e.member ≡ m → Rest → (xs : List SessionEntry) → e.what ∷ entries_of m all ≡ xs ++ what ∷ later
        → EntryAt m (e ∷ all) xs what
    by_early own rest [] same = record {
      before = [];
      entry = e;
      after = all;
      whole = refl;
      own = own;
      is = (heads e.what what (entries_of m all) later same).0;
      first = refl;
    }
    by_early own rest (x ∷ xs) same =
        let q = heads e.what x (entries_of m all) (xs ++ what ∷ later) same in
        behind m e all xs (x ∷ xs) what
        (λ before is. entry_own m e before own ∙ ap (λ (ys : List SessionEntry). e.what ∷ ys) is ∙ ap (λ (y : SessionEntry). y ∷ xs) q.0)
        (rest xs q.1)

    by_test : (b : Bool) → (e.member == m) ≡ b → Rest
        → (if b then e.what ∷ entries_of m all else entries_of m all) ≡ early ++ what ∷ later → EntryAt m (e ∷ all) early what
    by_test true t rest same = by_early ((Decides-eqb e.member m).0 t) rest early same
    by_test false t rest same =
        behind m e all early early what
        (λ before is. entry_other m e before (λ own. true_not_false (sym ((Decides-eqb e.member m).1 own) ∙ t)) ∙ is) (rest early same)

-- an action of a member is in the world
pub record InWorld (m : ℕ) (all : List WorldEntry) (what : SessionEntry) : Type 0 where
  pub entry : WorldEntry
  pub among : Has all entry
  pub own : entry.member ≡ m
  pub is : entry.what ≡ what

pub has_at : {A : Type 0} (xs : List A) (y : A) (ys : List A) → Has (xs ++ y ∷ ys) y
has_at [] y ys = inl refl
has_at (x ∷ xs) y ys = inr (has_at xs y ys)

pub in_world : (m : ℕ) (all : List WorldEntry) (what : SessionEntry) → Has (entries_of m all) what → InWorld m all what
in_world m all what has =
    let p = place_of (entries_of m all) what has in
    let q = entry_at m all p.before p.after what p.whole in
    record {
      entry = q.entry;
      among = subst (λ (es : List WorldEntry). Has es q.entry) (sym q.whole) (has_at q.before q.entry q.after);
      own = q.own;
      is = q.is;
    }

-- ---- times

pub last_join : (time : ℕ) (xs ys : List WorldEntry) (y : WorldEntry) → last_time time (xs ++ y ∷ ys) ≡ last_time y.time ys
last_join time [] ys y = refl
last_join time (x ∷ xs) ys y = last_join x.time xs ys y

-- times rise behind an entry
pub rises : (w : World) → HasForm w → (before : List WorldEntry) (entry : WorldEntry) (more after : List WorldEntry)
    → w.entries ≡ before ++ entry ∷ (more ++ after) → entry.time ≤ last_time entry.time more
rises w form before entry [] after whole = omega arith
rises w form before entry (e ∷ more) after whole =
    let all : w.entries ≡ (before ++ entry ∷ []) ++ e ∷ (more ++ after) = whole ∙ sym (joins before (entry ∷ []) (e ∷ (more ++ after))) in
    let next : last_time 0 (before ++ entry ∷ []) ≤ e.time = form.in_order (before ++ entry ∷ []) (more ++ after) e all in
    let here : last_time 0 (before ++ entry ∷ []) ≡ entry.time = last_join 0 before [] entry in
    let rest : e.time ≤ last_time e.time more = rises w form (before ++ entry ∷ []) e more after all in
    omega (arith, next, here, rest)

-- each of these entries is no later than the last
pub no_later : (w : World) → HasForm w → (before after : List WorldEntry) → w.entries ≡ before ++ after → (e : WorldEntry) → Has before e
    → e.time ≤ last_time 0 before
no_later w form before after whole e has =
    let p = place_of before e has in
    let all : w.entries ≡ p.before ++ e ∷ (p.after ++ after) =
    whole ∙ ap (λ (xs : List WorldEntry). xs ++ after) p.whole ∙ joins p.before (e ∷ p.after) after in
    let up = rises w form p.before e p.after after all in
    let last = ap (λ (xs : List WorldEntry). last_time 0 xs) p.whole ∙ last_join 0 p.before p.after e in
    omega (arith, up, last)
