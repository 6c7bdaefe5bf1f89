-- The seats of configurations, by the ids of their members: each place belongs to another member, and majorities of
-- lists that are one step apart meet.
use Rattle.std.proofs.Common.{cond, ◌≡◌, ℕ, zero, suc, ◌+◌, ◌<◌, ◌≤◌, List, [], ◌∷◌, length, Bool, true, false, refl, ap, ◌∙◌, subst, arith}
use Rattle.std.specs.Prelude.{if◌then◌else◌, ◌==◌, ◌&&◌, ◌||◌, not, nat_lt, slice_index, count_by}
use Rattle.std.proofs.lemmas.Bool.Decides.{nat_tests}
use Rattle.std.proofs.lemmas.List.Recursion.{is_count_by}
use Rattle.booth_world.specs.Facts.{count_below, fewest, is_seated, MajoritiesMeet}
use Rattle.booth_world.specs.Lists.{index_of, has_id, seats_in, AreDistinct, AreAmong, is_added, added, is_list_step}
use Rattle.booth_world.proofs.Majority.{inject, all_count, first_of, second_of, both_of}

-- ---- places of ids

index_found : (xs : List ℕ) (id : ℕ) → index_of xs id < length xs → slice_index xs (index_of xs id) ≡ id
index_found [] id l = absurd (omega arith)
index_found (x ∷ xs) id l = by_test (x == id) refl l (λ (h : index_of xs id < length xs). index_found xs id h)
  where
    by_test : (b : Bool) → (x == id) ≡ b → (if b then 0 else suc (index_of xs id)) < suc (length xs)
        → (index_of xs id < length xs → slice_index xs (index_of xs id) ≡ id)
        → slice_index (x ∷ xs) (if b then 0 else suc (index_of xs id)) ≡ id
    by_test true e l rest = grind (arith, nat_tests)
    by_test false e l rest = rest (omega (arith, l))

index_most : (xs : List ℕ) (i : ℕ) → i < length xs → index_of xs (slice_index xs i) ≤ i
index_most [] i l = absurd (omega arith)
index_most (x ∷ xs) zero l = by_test (x == x) refl
  where
    by_test : (b : Bool) → (x == x) ≡ b → (if b then 0 else suc (index_of xs x)) ≤ 0
    by_test true e = omega arith
    by_test false e = absurd (grind (arith, nat_tests))
index_most (x ∷ xs) (suc i) l = by_test (x == slice_index xs i) (index_most xs i (omega (arith, l)))
  where
    by_test : (b : Bool) → index_of xs (slice_index xs i) ≤ i → (if b then 0 else suc (index_of xs (slice_index xs i))) ≤ suc i
    by_test true rest = omega arith
    by_test false rest = omega (arith, rest)

-- each place is that of its id
index_at : (xs : List ℕ) → AreDistinct xs → (i : ℕ) → i < length xs → index_of xs (slice_index xs i) ≡ i
index_at xs apart i l =
    let most = index_most xs i l in
    let within : index_of xs (slice_index xs i) < length xs = omega (arith, most, l) in
    apart (index_of xs (slice_index xs i)) i within l (index_found xs (slice_index xs i) within)

any_found : (xs : List ℕ) (id : ℕ) → has_id xs id ≡ true → index_of xs id < length xs
any_found [] id h = absurd (cc)
any_found (x ∷ xs) id h = by_test (x == id) h (λ (k : has_id xs id ≡ true). any_found xs id k)
  where
    by_test : (b : Bool) → (b || has_id xs id) ≡ true → (has_id xs id ≡ true → index_of xs id < length xs)
        → (if b then 0 else suc (index_of xs id)) < suc (length xs)
    by_test true h rest = omega arith
    by_test false h rest = let l = rest h in omega (arith, l)

-- ---- counting by places

count_first : (n : ℕ) (f : ℕ → Bool) → count_below (suc n) f ≡ (if f 0 then 1 else 0) + count_below n (λ p. f (suc p))
count_first zero f = refl
count_first (suc n) f = let e = count_first n f in omega (arith, e)

-- how many of a list pass
pass : (ℕ → Bool) → List ℕ → ℕ
pass f [] = 0
pass f (x ∷ xs) = cond (f x) (1 + pass f xs) (pass f xs)

pass_places : (xs : List ℕ) (f : ℕ → Bool) → count_below (length xs) (λ p. f (slice_index xs p)) ≡ pass f xs
unfolding pass
pass_places [] f = refl
pass_places (x ∷ xs) f =
    let one = count_first (length xs) (λ p. f (slice_index (x ∷ xs) p)) in
    let rest = pass_places xs f in
    one ∙ by_test (f x) rest
  where
    by_test : (b : Bool) → count_below (length xs) (λ p. f (slice_index xs p)) ≡ pass f xs
        → (if b then 1 else 0) + count_below (length xs) (λ p. f (slice_index xs p)) ≡ cond b (1 + pass f xs) (pass f xs)
    by_test true rest = omega (arith, rest)
    by_test false rest = omega (arith, rest)

count_places : (xs : List ℕ) (f : ℕ → Bool) → count_below (length xs) (λ p. f (slice_index xs p)) ≡ count_by f xs
unfolding pass
count_places xs f = pass_places xs f ∙ is_count_by (λ ys. pass f ys) f refl (λ y ys. refl) xs

module _ (all : List ℕ) (apart : AreDistinct all) where
  -- each place of a configuration is that of another member of the world
  pub named : (own : List ℕ) → AreDistinct own → AreAmong own all → (place : ℕ) → place < length own
      → ((seats_in all own).number place < length all) × ((seats_in all own).place ((seats_in all own).number place) ≡ place)
  named own own_apart among place l =
      let inside = among place l in
      let same : slice_index all (index_of all (slice_index own place)) ≡ slice_index own place = index_found all (slice_index own place) inside in
      (inside, ap (λ (id : ℕ). index_of own id) same ∙ index_at own own_apart place l)

  -- a member whose id is in the configuration has a place there
  pub is_in : (own : List ℕ) (m : ℕ) → m < length all → index_of own (slice_index all m) < length own
      → ((seats_in all own).place m < (seats_in all own).size) × ((seats_in all own).number ((seats_in all own).place m) ≡ m)
  is_in own m below inside =
      (inside, ap (λ (id : ℕ). index_of all id) (index_found own (slice_index all m) inside) ∙ index_at all apart m below)

  seated : (own : List ℕ) (m : ℕ) → m < length all → index_of own (slice_index all m) < length own → is_seated (seats_in all own) m ≡ true
  seated own m below inside =
      let is = is_in own m below inside in
      let same = is.1 in
      both_of (nat_lt ((seats_in all own).place m) (length own)) ((seats_in all own).number ((seats_in all own).place m) == m)
      (grind (arith, nat_tests)) (grind (arith, nat_tests))

  -- what a seat says
  seat_says : (own : List ℕ) (m : ℕ) → is_seated (seats_in all own) m ≡ true
      → ((seats_in all own).place m < length own) × ((seats_in all own).number ((seats_in all own).place m) ≡ m)
  seat_says own m h =
      let a = first_of (nat_lt ((seats_in all own).place m) (length own)) ((seats_in all own).number ((seats_in all own).place m) == m) h in
      let b = second_of (nat_lt ((seats_in all own).place m) (length own)) ((seats_in all own).number ((seats_in all own).place m) == m) h in
      (grind (arith, nat_tests), grind (arith, nat_tests))

  -- of two tests either passes: the first, or the second alone
  split : (n : ℕ) (f g : ℕ → Bool) → count_below n (λ m. f m || g m) ≤ count_below n f + count_below n (λ m. g m && not (f m))
  split zero f g = omega arith
  split (suc n) f g = by_test (f n) (g n) (split n f g)
    where
      by_test : (a b : Bool) → count_below n (λ m. f m || g m) ≤ count_below n f + count_below n (λ m. g m && not (f m))
          → (if a || b then 1 else 0) + count_below n (λ m. f m || g m)
          ≤ ((if a then 1 else 0) + count_below n f) + ((if b && not a then 1 else 0) + count_below n (λ m. g m && not (f m)))
      by_test true true rest = omega (arith, rest)
      by_test true false rest = omega (arith, rest)
      by_test false true rest = omega (arith, rest)
      by_test false false rest = omega (arith, rest)

  untrue : (b : Bool) → b ≡ true → not b ≡ true → ⊥
  untrue true e h = cc
  untrue false e h = cc

  -- the test of a step gives majorities that meet
  pub meets : (old new : List ℕ) → is_list_step old new ≡ true → MajoritiesMeet (length all) (seats_in all old) (seats_in all new)
  meets old new step =
      let n = length all in
      let f = is_seated (seats_in all old) in
      let g = is_seated (seats_in all new) in
      let h = λ (p : ℕ). is_added old (slice_index new p) in
      let less : length old + added old new < fewest (length old) + fewest (length new) = grind (arith, nat_tests) in
      let by_list = count_places new (is_added old) in
      let either = split n f g in
      let first = inject (length old) n f (λ k. true) (seats_in all old).place (seats_in all old).number
      (λ m below is. let s = seat_says old m is in (s.0, refl, s.1)) in
      let all_old = all_count (length old) in
      let second = inject (length new) n (λ m. g m && not (f m)) h (seats_in all new).place (seats_in all new).number
      (λ m below is.
      let in_new = seat_says new m (first_of (g m) (not (f m)) is) in
      let id : slice_index new ((seats_in all new).place m) ≡ slice_index all m = index_found new (slice_index all m) in_new.0 in
      (in_new.0, by_old m below (second_of (g m) (not (f m)) is) (slice_index new ((seats_in all new).place m)) id (has_id old (slice_index new ((seats_in all new).place m))) refl, in_new.1)) in
      omega (arith, less, either, first, second, all_old, by_list)
    where
      by_old : (m : ℕ) → m < length all → not (is_seated (seats_in all old) m) ≡ true → (id : ℕ) → id ≡ slice_index all m → (b : Bool) → has_id old id ≡ b → not b ≡ true
      by_old m below out id same false e = refl
      by_old m below out id same true e =
          let found : index_of old id < length old = any_found old id e in
          let here : index_of old (slice_index all m) < length old = subst (λ (x : ℕ). index_of old x < length old) same found in
          absurd (untrue (is_seated (seats_in all old) m) (seated old m below here) out)
