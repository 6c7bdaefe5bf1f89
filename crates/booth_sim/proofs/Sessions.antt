-- What each member of a simulation does is its sessions, one after the other.
use Rattle.std.proofs.Common.{◌≡◌, ◌≢◌, ℕ, zero, suc, Bool, true, false, List, [], ◌∷◌, refl, sym, ap, ◌∙◌, subst, arith, if◌then◌else◌}
use Rattle.std.specs.Prelude.{◌==◌, ◌+◌, map, length}
use Rattle.std.specs.List.{range_with_len}
use Rattle.std.proofs.lemmas.Bool.Decides.{nat_tests}
use Rattle.std.proofs.lemmas.List.{append-nil, length-map}
use Rattle.booth_base.specs.Tree.{Ends}
use Rattle.booth_conf.specs.Config.{ConfigSays}
use Rattle.booth_host.specs.declared.entry.Entry.{Entry}
use Rattle.booth_node.specs.declared.node.Turn.TheVariants.{Went}
use Rattle.booth_node.specs.declared.node_config.NodeConfig.{NodeConfig}
use Rattle.booth_node.specs.Reaction.{IsTurn}
use Rattle.booth_node.specs.Session.{SessionEntry, Makes, Stand, Down, Doing, after_entry, AreSessions}
use Rattle.booth_node.specs.State.{State}
use Rattle.booth_node.specs.World.{WorldEntry, entries_of, last_time, stand_after}
use Rattle.booth_world.specs.Worlds.{made}
use Rattle.booth_world.proofs.LogSessions.{logs_are_sessions}
use Rattle.booth_sim.specs.Drawing.{draw_of, keeps_fail, rise_of}
use Rattle.booth_sim.specs.Happenings.{Happening, Turns, Restarts, happening, reading_at}
use Rattle.booth_sim.specs.Simulation.{IsHappening, IsSimulation, entry_at, made_at, node_in, start_at, turn_calls}
use Rattle.booth_sim.proofs.Entries.{entries_join, entry_own, entry_other, sessions_join}

pub own_calls : (place time : ℕ) (calls : List Entry) → entries_of place (made_at place time calls) ≡ made calls
own_calls place time [] = refl
own_calls place time (call ∷ calls) =
    entry_own place (entry_at place time (Makes call)) (made_at place time calls) refl
    ∙ ap (λ (xs : List SessionEntry). Makes call ∷ xs) (own_calls place time calls)

pub other_calls : (m place time : ℕ) (calls : List Entry) → place ≢ m → entries_of m (made_at place time calls) ≡ []
other_calls m place time [] ne = refl
other_calls m place time (call ∷ calls) ne =
    entry_other m (entry_at place time (Makes call)) (made_at place time calls) ne ∙ other_calls m place time calls ne

-- a start may follow on everything
starts_sessions : (config : ConfigSays) (m : ℕ) (places : List ℕ) (stand : Stand)
    → AreSessions stand (entries_of m (map (λ place. start_at config [] place 0) places))
starts_sessions config m [] stand = tt
starts_sessions config m (place ∷ places) stand = by_test (place == m) (λ s. starts_sessions config m places s)
  where
    by_test : (b : Bool) → ((s : Stand) → AreSessions s (entries_of m (map (λ p. start_at config [] p 0) places)))
        → AreSessions stand
        (if b then (start_at config [] place 0).what ∷ entries_of m (map (λ p. start_at config [] p 0) places)
        else entries_of m (map (λ p. start_at config [] p 0) places))
    by_test true rest = (length-map config.tickets _, rest (after_entry stand (start_at config [] place 0).what))
    by_test false rest = rest stand

turn_sessions : (node : NodeConfig) (old new : State) (calls : List Entry) → IsTurn node old Went calls new
    → AreSessions (Doing node (Ends old)) (made calls)
turn_sessions node old new calls turn =
    (logs_are_sessions node old new 1 calls
    (record { turns = calls ∷ []; number = refl; whole = sym (append-nil calls); each = (new, turn, refl) })).0

happening_sessions : (config : ConfigSays) (before : List WorldEntry) (time : ℕ) (fails : Bool) (what : Happening) (last : List WorldEntry) (m : ℕ)
    → IsHappening config before time fails what last → AreSessions (stand_after m before) (entries_of m last)
happening_sessions config before time fails (Turns place arrival bytes) last m is =
    subst (λ (es : List WorldEntry). AreSessions (stand_after m before) (entries_of m es)) (sym is.whole) (by_test (place == m) refl)
  where
    calls : List Entry
    calls = turn_calls arrival bytes (reading_at place time) is.deeds

    own : AreSessions (stand_after place before) (entries_of place (made_at place time calls))
    own =
        subst (λ (xs : List SessionEntry). AreSessions (stand_after place before) xs) (sym (own_calls place time calls))
        (subst (λ (s : Stand). AreSessions s (made calls)) (sym is.stands) (turn_sessions (node_in config place) is.old is.new calls is.turn))

    by_test : (b : Bool) → (place == m) ≡ b → AreSessions (stand_after m before) (entries_of m (made_at place time calls))
    by_test true t =
        let same : place ≡ m = grind (arith, nat_tests) in
        subst (λ (k : ℕ). AreSessions (stand_after k before) (entries_of k (made_at place time calls))) same own
    by_test false t =
        let ne : place ≢ m = grind (arith, nat_tests) in
        subst (λ (xs : List SessionEntry). AreSessions (stand_after m before) xs) (sym (other_calls m place time calls ne)) tt
happening_sessions config before time fails (Restarts place) last m is =
    subst (λ (es : List WorldEntry). AreSessions (stand_after m before) (entries_of m es)) (sym is) (by_test (place == m))
  where
    by_test : (b : Bool) → AreSessions (stand_after m before) (if b then (start_at config before place time).what ∷ [] else [])
    by_test true = (length-map config.tickets _, tt)
    by_test false = tt

pub are_sessions : (config : ConfigSays) (number events : ℕ) (entries : List WorldEntry) → IsSimulation config number events entries → (m : ℕ)
    → AreSessions Down (entries_of m entries)
are_sessions config number zero entries is m =
    subst (λ (es : List WorldEntry). AreSessions Down (entries_of m es)) (sym is)
    (starts_sessions config m (range_with_len 0 (length config.members)) Down)
are_sessions config number (suc event) entries is m =
    subst (λ (es : List WorldEntry). AreSessions Down (entries_of m es)) (sym is.2)
    (subst (λ (xs : List SessionEntry). AreSessions Down xs) (sym (entries_join m is.0 is.1))
    (sessions_join Down (entries_of m is.0) (entries_of m is.1) (are_sessions config number event is.0 is.3 m)
    (happening_sessions config is.0 (last_time 0 is.0 + rise_of (draw_of number event)) (keeps_fail (draw_of number event))
    (happening config is.0 event (draw_of number event)) is.1 m is.4)))
