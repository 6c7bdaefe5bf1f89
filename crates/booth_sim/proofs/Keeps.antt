-- A keep that answered Ok changes the record of the one ticket of its name.
use Rattle.std.proofs.Common.{◌≡◌, ◌≢◌, ℕ, suc, ◌+◌, ◌<◌, ◌≤◌, Bool, true, false, List, [], ◌∷◌, ◌++◌, length, map, max, set, get_or, refl, sym, ap, ◌∙◌, arith, if◌then◌else◌}
use Rattle.std.specs.Prelude.{◌&&◌, Option, Some, None, Ok, is_some, bytes_eq, nat_lt, position, slice_get}
use Rattle.std.specs.List.{position_or_len}
use Rattle.std.proofs.lemmas.Bool.Decides.{nat_tests}
use Rattle.std.proofs.lemmas.Slice.Eq.{bytes_eq-Decides}
use Rattle.booth_conf.specs.Config.{ConfigSays}
use Rattle.booth_conf.specs.Lookups.{is_called}
use Rattle.booth_conf.specs.Sound.{IsSound}
use Rattle.booth_conf.specs.declared.tickets.TicketConf.{TicketConf}
use Rattle.booth_rec.specs.declared.record.Lease.{Lease}
use Rattle.booth_rec.specs.declared.record.Record.{Record}
use Rattle.booth_rec.specs.Record.{record_or_none}
use Rattle.booth_host.specs.declared.entry.Entry.TheVariants.{Keep}
use Rattle.booth_node.specs.Session.{Makes}
use Rattle.booth_node.specs.World.{WorldEntry}
use Rattle.booth_world.proofs.Configured.{names_apart}
use Rattle.booth_sim.specs.declared.summary.Summary.{Summary}
use Rattle.booth_sim.specs.Counts.{gains, one_if, releases}
use Rattle.booth_sim.specs.Kept.{all_kept, kept_by}
use Rattle.booth_sim.specs.Simulation.{entry_at}
use Rattle.booth_sim.specs.Standing.{IsCounted}
use Rattle.booth_sim.proofs.Deeds.{all_own, counted_more}

-- ---- places

place_on : {X : Type 0} (p : X → Bool) (x : X) (xs : List X) → p x ≡ false → position_or_len p (x ∷ xs) ≡ suc (position_or_len p xs)
place_on p x xs e = let one : 1 + position_or_len p xs ≡ suc (position_or_len p xs) = omega arith in rw e one

place_here : {X : Type 0} (p : X → Bool) (x : X) (xs : List X) → p x ≡ true → position_or_len p (x ∷ xs) ≡ 0
place_here p x xs e = rw e refl

pub place_is : {X : Type 0} (p : X → Bool) (xs : List X) (place : ℕ) → position p xs ≡ Some place
    → (place ≡ position_or_len p xs) × (position_or_len p xs < length xs)
place_is p xs place found = by_test (nat_lt (position_or_len p xs) (length xs)) refl found
  where
    by_test : (b : Bool) → nat_lt (position_or_len p xs) (length xs) ≡ b → (if b then Some (position_or_len p xs) else None) ≡ Some place
        → (place ≡ position_or_len p xs) × (position_or_len p xs < length xs)
    by_test true e same = (cc, grind (arith, nat_tests))
    by_test false e same = absurd cc

pub place_none : {X : Type 0} (p : X → Bool) (xs : List X) → position p xs ≡ None → length xs ≤ position_or_len p xs
place_none p xs none = by_test (nat_lt (position_or_len p xs) (length xs)) refl none
  where
    by_test : (b : Bool) → nat_lt (position_or_len p xs) (length xs) ≡ b → (if b then Some (position_or_len p xs) else None) ≡ None
        → length xs ≤ position_or_len p xs
    by_test true e same = absurd cc
    by_test false e same = grind (arith, nat_tests)

-- ---- the one of a name

if_true : {X : Type 0} (b : Bool) (x y : X) → b ≡ true → (if b then x else y) ≡ x
if_true true x y e = refl
if_true false x y e = absurd cc

if_false : {X : Type 0} (b : Bool) (x y : X) → b ≡ false → (if b then x else y) ≡ y
if_false true x y e = absurd cc
if_false false x y e = refl

-- no two of these tickets have one name
abbrev pub AreApart : List TicketConf → Type 0
AreApart ts = (i j : ℕ) (a b : TicketConf) → slice_get ts i ≡ Some a → slice_get ts j ≡ Some b → j ≢ i → b.name ≢ a.name

none_called : {X : Type 0} (name : List ℕ) (f : TicketConf → X) (x : X) (ts : List TicketConf)
    → ((j : ℕ) (b : TicketConf) → slice_get ts j ≡ Some b → bytes_eq name b.name ≡ false)
    → map (λ t. if bytes_eq name t.name then x else f t) ts ≡ map f ts
none_called name f x [] others = refl
none_called name f x (t ∷ ts) others =
    let here = if_false (bytes_eq name t.name) x (f t) (others 0 t refl) in
    let rest = none_called name f x ts (λ j b at. others (suc j) b at) in cc

-- a place behind all is none
pub past_all : {X : Type 0} (name : List ℕ) (f : TicketConf → X) (x : X) (ts : List TicketConf) → length ts ≤ position_or_len (is_called name) ts
    → map (λ t. if bytes_eq name t.name then x else f t) ts ≡ map f ts
past_all name f x [] past = refl
past_all {X} name f x (t ∷ ts) past = by_test (bytes_eq name t.name) refl (λ less. past_all name f x ts less)
  where
    by_test : (b : Bool) → bytes_eq name t.name ≡ b
        → (length ts ≤ position_or_len (is_called name) ts → map (λ t. if bytes_eq name t.name then x else f t) ts ≡ map f ts)
        → map (λ t. if bytes_eq name t.name then x else f t) (t ∷ ts) ≡ map f (t ∷ ts)
    by_test true e later = let here = place_here (is_called name) t ts e in absurd (omega (arith, here, past))
    by_test false e later =
        let on = place_on (is_called name) t ts e in
        let less : length ts ≤ position_or_len (is_called name) ts = omega (arith, on, past) in
        let here = if_false (bytes_eq name t.name) x (f t) e in
        let rest = later less in cc

pub one_called : {X : Type 0} (name : List ℕ) (f : TicketConf → X) (x : X) (ts : List TicketConf) → AreApart ts
    → map (λ t. if bytes_eq name t.name then x else f t) ts ≡ set (map f ts) (position_or_len (is_called name) ts) x
one_called name f x [] apart = refl
one_called {X} name f x (t ∷ ts) apart =
    by_test (bytes_eq name t.name) refl
    (one_called name f x ts (λ i j a b is js ne. apart (suc i) (suc j) a b is js (λ z. ne (let same : j ≡ i = omega (arith, z) in same))))
  where
    other : (same : bytes_eq name t.name ≡ true) (j : ℕ) (b : TicketConf) → slice_get ts j ≡ Some b → (c : Bool) → bytes_eq name b.name ≡ c
        → bytes_eq name b.name ≡ false
    other same j b at false e = e
    other same j b at true e =
        absurd (apart 0 (suc j) t b refl at (λ z. absurd cc) (sym ((bytes_eq-Decides name b.name).0 e) ∙ (bytes_eq-Decides name t.name).0 same))

    by_test : (b : Bool) → bytes_eq name t.name ≡ b
        → map (λ t. if bytes_eq name t.name then x else f t) ts ≡ set (map f ts) (position_or_len (is_called name) ts) x
        → map (λ t. if bytes_eq name t.name then x else f t) (t ∷ ts) ≡ set (map f (t ∷ ts)) (position_or_len (is_called name) (t ∷ ts)) x
    by_test true e later =
        let here = if_true (bytes_eq name t.name) x (f t) e in
        let place = place_here (is_called name) t ts e in
        let rest = none_called name f x ts (λ j b at. other e j b at (bytes_eq name b.name) refl) in
        let whole : set (f t ∷ map f ts) 0 x ≡ x ∷ map f ts = refl in cc
    by_test false e later =
        let here = if_false (bytes_eq name t.name) x (f t) e in
        let place = place_on (is_called name) t ts e in
        let whole : set (f t ∷ map f ts) (suc (position_or_len (is_called name) ts)) x ≡ f t ∷ set (map f ts) (position_or_len (is_called name) ts) x = refl in cc

-- the record at the place of a name
pub at_called : {X : Type 0} (name : List ℕ) (f : List ℕ → X) (d : X) (ts : List TicketConf) → position_or_len (is_called name) ts < length ts
    → get_or (map (λ t. f t.name) ts) (position_or_len (is_called name) ts) d ≡ f name
at_called name f d [] within = absurd (omega (arith, within))
at_called name f d (t ∷ ts) within = by_test (bytes_eq name t.name) refl (λ less. at_called name f d ts less)
  where
    by_test : (b : Bool) → bytes_eq name t.name ≡ b
        → (position_or_len (is_called name) ts < length ts → get_or (map (λ t. f t.name) ts) (position_or_len (is_called name) ts) d ≡ f name)
        → get_or (map (λ t. f t.name) (t ∷ ts)) (position_or_len (is_called name) (t ∷ ts)) d ≡ f name
    by_test true e later =
        let place = place_here (is_called name) t ts e in
        let same = (bytes_eq-Decides name t.name).0 e in
        let whole : get_or (f t.name ∷ map (λ t. f t.name) ts) 0 d ≡ f t.name = refl in cc
    by_test false e later =
        let place = place_on (is_called name) t ts e in
        let less : position_or_len (is_called name) ts < length ts = omega (arith, place, within) in
        let rest = later less in
        let whole : get_or (f t.name ∷ map (λ t. f t.name) ts) (suc (position_or_len (is_called name) ts)) d
        ≡ get_or (map (λ t. f t.name) ts) (position_or_len (is_called name) ts) d = refl in cc

-- ---- a keep

abbrev pub keep_at : ℕ → ℕ → List ℕ → Record → WorldEntry
keep_at from time name rec = entry_at from time (Makes (Keep name rec (Ok tt)))

module _ (config : ConfigSays) (name : List ℕ) (rec : Record) (before : List WorldEntry) (from time : ℕ) (kept : List (Option Record))
    (was : kept ≡ all_kept config.tickets from before) where
  pub kept_found : IsSound config → (place : ℕ) → position (is_called name) config.tickets ≡ Some place
      → set kept place (Some rec) ≡ all_kept config.tickets from (before ++ keep_at from time name rec ∷ [])
  kept_found sound place found =
      let is = place_is (is_called name) config.tickets place found in
      let now = all_own from before time (Makes (Keep name rec (Ok tt))) config.tickets in
      let one = one_called name (λ (t : TicketConf). kept_by from t.name before) (Some rec) config.tickets (names_apart config sound) in
      ap (λ (ks : List (Option Record)). set ks place (Some rec)) was
      ∙ ap (λ (n : ℕ). set (all_kept config.tickets from before) n (Some rec)) is.0 ∙ sym one ∙ sym now

  pub kept_missing : position (is_called name) config.tickets ≡ None
      → kept ≡ all_kept config.tickets from (before ++ keep_at from time name rec ∷ [])
  kept_missing missing =
      let now = all_own from before time (Makes (Keep name rec (Ok tt))) config.tickets in
      was ∙ sym (past_all name (λ (t : TicketConf). kept_by from t.name before) (Some rec) config.tickets (place_none (is_called name) config.tickets missing))
      ∙ sym now

  pub counted_found : (place : ℕ) (d : Option Record) → position (is_called name) config.tickets ≡ Some place → (old new : Summary)
      → IsCounted config before old → new.delivered ≡ old.delivered → new.restarts ≡ old.restarts
      → new.gains ≡ old.gains + one_if (gains (record_or_none (get_or kept place d)).lease rec.lease)
      → new.releases ≡ old.releases + one_if (releases (record_or_none (get_or kept place d)).lease rec.lease)
      → new.greatest_term ≡ max old.greatest_term rec.term
      → IsCounted config (before ++ keep_at from time name rec ∷ []) new
  counted_found place d found old new counted delivered restarts gained released greatest =
      counted_more config before (keep_at from time name rec) old new counted (one_zero old.delivered new.delivered delivered)
      (one_zero old.restarts new.restarts restarts)
      (changed gains old.gains new.gains gained) (changed releases old.releases new.releases released) greatest
    where
      one_zero : (n m : ℕ) → m ≡ n → m ≡ n + 0
      one_zero n m e = omega (arith, e)

      kept_there : get_or kept place d ≡ kept_by from name before
      kept_there =
          let is = place_is (is_called name) config.tickets place found in
          ap (λ (ks : List (Option Record)). get_or ks place d) was
          ∙ ap (λ (n : ℕ). get_or (all_kept config.tickets from before) n d) is.0
          ∙ at_called name (λ (n : List ℕ). kept_by from n before) d config.tickets is.1

      changed : (changes : Option Lease → Option Lease → Bool) (n m : ℕ)
          → m ≡ n + one_if (changes (record_or_none (get_or kept place d)).lease rec.lease)
          → m ≡ n + one_if (is_some (position (is_called name) config.tickets) && changes (record_or_none (kept_by from name before)).lease rec.lease)
      changed changes n m e =
          e ∙ ap (λ (k : Option Record). n + one_if (changes (record_or_none k).lease rec.lease)) kept_there
          ∙ sym (ap (λ (o : Option ℕ). n + one_if (is_some o && changes (record_or_none (kept_by from name before)).lease rec.lease)) found)

  pub counted_missing : position (is_called name) config.tickets ≡ None → (old new : Summary)
      → IsCounted config before old → new.delivered ≡ old.delivered → new.restarts ≡ old.restarts
      → new.gains ≡ old.gains → new.releases ≡ old.releases → new.greatest_term ≡ max old.greatest_term rec.term
      → IsCounted config (before ++ keep_at from time name rec ∷ []) new
  counted_missing missing old new counted delivered restarts gained released greatest =
      counted_more config before (keep_at from time name rec) old new counted (one_zero old.delivered new.delivered delivered)
      (one_zero old.restarts new.restarts restarts)
      (unchanged gains old.gains new.gains gained) (unchanged releases old.releases new.releases released) greatest
    where
      one_zero : (n m : ℕ) → m ≡ n → m ≡ n + 0
      one_zero n m e = omega (arith, e)

      unchanged : (changes : Option Lease → Option Lease → Bool) (n m : ℕ) → m ≡ n
          → m ≡ n + one_if (is_some (position (is_called name) config.tickets) && changes (record_or_none (kept_by from name before)).lease rec.lease)
      unchanged changes n m e =
          one_zero n m e
          ∙ sym (ap (λ (o : Option ℕ). n + one_if (is_some o && changes (record_or_none (kept_by from name before)).lease rec.lease)) missing)
