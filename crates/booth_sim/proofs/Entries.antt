-- Lists of entries: what holds along them, and what they leave of one member.
use Rattle.std.proofs.Common.{◌≡◌, ◌≢◌, ℕ, zero, suc, Bool, true, false, List, [], ◌∷◌, ◌++◌, refl, sym, ap, ◌∙◌, subst, arith, if◌then◌else◌}
use Rattle.std.specs.Prelude.{◌==◌}
use Rattle.std.proofs.lemmas.Bool.Decides.{nat_tests}
use Rattle.std.proofs.lemmas.List.{append-nil, append_assoc}
use Rattle.booth_conf.specs.Config.{ConfigSays}
use Rattle.booth_node.specs.Session.{SessionEntry, Stand, Down, after_entry, AreSessions, after_entries}
use Rattle.booth_node.specs.World.{WorldEntry, entries_of, last_time, stand_after}
use Rattle.booth_sim.proofs.AlongWorlds.{Along}
use Rattle.booth_sim.specs.Drawing.{draw_of}
use Rattle.booth_sim.specs.Simulation.{IsEvent, IsSimulation, starts}

-- ---- along

pub along_join : (P : List WorldEntry → WorldEntry → Type 0) (done xs ys : List WorldEntry) → Along P done xs → Along P (done ++ xs) ys
    → Along P done (xs ++ ys)
along_join P done [] ys h g = subst (λ (d : List WorldEntry). Along P d ys) (append-nil done) g
along_join P done (x ∷ xs) ys h g =
    (h.0, along_join P (done ++ x ∷ []) xs ys h.1 (subst (λ (d : List WorldEntry). Along P d ys) (sym (append_assoc done (x ∷ []) xs)) g))

pub along_left : (P : List WorldEntry → WorldEntry → Type 0) (done xs ys : List WorldEntry) → Along P done (xs ++ ys) → Along P done xs
along_left P done [] ys h = tt
along_left P done (x ∷ xs) ys h = (h.0, along_left P (done ++ x ∷ []) xs ys h.1)

pub along_right : (P : List WorldEntry → WorldEntry → Type 0) (done xs ys : List WorldEntry) → Along P done (xs ++ ys) → Along P (done ++ xs) ys
along_right P done [] ys h = subst (λ (d : List WorldEntry). Along P d ys) (sym (append-nil done)) h
along_right P done (x ∷ xs) ys h =
    subst (λ (d : List WorldEntry). Along P d ys) (append_assoc done (x ∷ []) xs) (along_right P (done ++ x ∷ []) xs ys h.1)

pub along_weaker : (P Q : List WorldEntry → WorldEntry → Type 0) → ((done : List WorldEntry) (e : WorldEntry) → P done e → Q done e)
    → (done xs : List WorldEntry) → Along P done xs → Along Q done xs
along_weaker P Q from done [] h = tt
along_weaker P Q from done (x ∷ xs) h = (from done x h.0, along_weaker P Q from (done ++ x ∷ []) xs h.1)

-- what holds along the starts, and along each event, holds along a simulation
pub along_events : (config : ConfigSays) (number : ℕ) (P : List WorldEntry → WorldEntry → Type 0) → Along P [] (starts config)
    → ((event : ℕ) (before last : List WorldEntry) → IsSimulation config number event before → Along P [] before
    → IsEvent config before event (draw_of number event) last → Along P before last)
    → (events : ℕ) (entries : List WorldEntry) → IsSimulation config number events entries → Along P [] entries
along_events config number P first each zero entries is = subst (λ (es : List WorldEntry). Along P [] es) (sym is) first
along_events config number P first each (suc event) entries is =
    let earlier = along_events config number P first each event is.0 is.3 in
    subst (λ (es : List WorldEntry). Along P [] es) (sym is.2) (along_join P [] is.0 is.1 earlier (each event is.0 is.1 is.3 earlier is.4))

-- ---- one member's entries

pub entries_join : (m : ℕ) (xs ys : List WorldEntry) → entries_of m (xs ++ ys) ≡ entries_of m xs ++ entries_of m ys
entries_join m [] ys = refl
entries_join m (x ∷ xs) ys = by_test (x.member == m) (entries_join m xs ys)
  where
    by_test : (b : Bool) → entries_of m (xs ++ ys) ≡ entries_of m xs ++ entries_of m ys
        → (if b then x.what ∷ entries_of m (xs ++ ys) else entries_of m (xs ++ ys))
        ≡ (if b then x.what ∷ entries_of m xs else entries_of m xs) ++ entries_of m ys
    by_test true e = ap (λ (zs : List SessionEntry). x.what ∷ zs) e
    by_test false e = e

pub entry_own : (m : ℕ) (x : WorldEntry) (xs : List WorldEntry) → x.member ≡ m → entries_of m (x ∷ xs) ≡ x.what ∷ entries_of m xs
entry_own m x xs e = by_test (x.member == m) refl
  where
    by_test : (b : Bool) → (x.member == m) ≡ b → (if b then x.what ∷ entries_of m xs else entries_of m xs) ≡ x.what ∷ entries_of m xs
    by_test true t = refl
    by_test false t = absurd (grind (arith, nat_tests))

pub entry_other : (m : ℕ) (x : WorldEntry) (xs : List WorldEntry) → x.member ≢ m → entries_of m (x ∷ xs) ≡ entries_of m xs
entry_other m x xs ne = by_test (x.member == m) refl
  where
    by_test : (b : Bool) → (x.member == m) ≡ b → (if b then x.what ∷ entries_of m xs else entries_of m xs) ≡ entries_of m xs
    by_test true t = absurd (ne (grind (arith, nat_tests)))
    by_test false t = refl

pub stands_join : (stand : Stand) (xs ys : List SessionEntry) → after_entries stand (xs ++ ys) ≡ after_entries (after_entries stand xs) ys
stands_join stand [] ys = refl
stands_join stand (x ∷ xs) ys = stands_join (after_entry stand x) xs ys

pub stand_own : (m : ℕ) (before : List WorldEntry) (e : WorldEntry) → e.member ≡ m
    → stand_after m (before ++ e ∷ []) ≡ after_entry (stand_after m before) e.what
stand_own m before e is =
    ap (λ (xs : List SessionEntry). after_entries Down xs)
    (entries_join m before (e ∷ []) ∙ ap (λ (xs : List SessionEntry). entries_of m before ++ xs) (entry_own m e [] is))
    ∙ stands_join Down (entries_of m before) (e.what ∷ [])

pub sessions_join : (stand : Stand) (xs ys : List SessionEntry) → AreSessions stand xs → AreSessions (after_entries stand xs) ys
    → AreSessions stand (xs ++ ys)
sessions_join stand [] ys h g = g
sessions_join stand (x ∷ xs) ys h g = (h.0, sessions_join (after_entry stand x) xs ys h.1 g)

-- ---- times

pub time_of_last : (time : ℕ) (xs : List WorldEntry) (e : WorldEntry) → last_time time (xs ++ e ∷ []) ≡ e.time
time_of_last time [] e = refl
time_of_last time (x ∷ xs) e = time_of_last x.time xs e

pub times_join : (time : ℕ) (xs ys : List WorldEntry) → last_time time (xs ++ ys) ≡ last_time (last_time time xs) ys
times_join time [] ys = refl
times_join time (x ∷ xs) ys = times_join x.time xs ys
