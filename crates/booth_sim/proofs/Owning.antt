-- Each send of a simulation bears the id of its member.
use Rattle.std.proofs.Common.{◌≡◌, ◌≢◌, ◌⊎◌, ⊎_elim, ℕ, zero, suc, ◌+◌, ◌^◌, ◌<◌, Bool, true, false, List, [], ◌∷◌, ◌++◌, length, refl, sym, ap, ◌∙◌, subst, inl, inr, arith, if◌then◌else◌}
use Rattle.std.specs.Prelude.{◌==◌, map, Ok}
use Rattle.std.specs.List.{range_with_len}
use Rattle.std.proofs.lemmas.Bool.Decides.{nat_tests}
use Rattle.std.proofs.lemmas.List.{append-nil, length-map}
use Rattle.booth_base.specs.Tree.{Ends}
use Rattle.booth_conf.specs.Config.{ConfigSays}
use Rattle.booth_wire.specs.Layout.{word_at}
use Rattle.booth_host.specs.declared.entry.Entry.{Entry}
use Rattle.booth_node.specs.declared.node.Turn.TheVariants.{Went}
use Rattle.booth_node.specs.declared.node_config.NodeConfig.{NodeConfig}
use Rattle.booth_node.specs.Laws.{ClientsAreAnswered, KeepsItsTickets, OpensWithItsTickets, OthersAreNotAnswered}
use Rattle.booth_node.specs.Opening.{AreSetUp, opened}
use Rattle.booth_node.specs.Reaction.{IsTurn, used}
use Rattle.booth_node.specs.Records.{Has}
use Rattle.booth_node.specs.Session.{SessionEntry, Makes, Stand, Down, Doing, after_entry, after_entries}
use Rattle.booth_node.specs.State.{State}
use Rattle.booth_node.specs.World.{WorldEntry, IsSend, entries_of, last_time, stand_after}
use Rattle.booth_world.specs.Worlds.{made}
use Rattle.booth_world.proofs.LogSessions.{logs_are_sessions}
use Rattle.booth_sim.specs.Drawing.{draw_of, keeps_fail, rise_of}
use Rattle.booth_sim.specs.Happenings.{Happening, Turns, Restarts, happening, reading_at}
use Rattle.booth_sim.specs.Kept.{all_kept}
use Rattle.booth_sim.specs.Simulation.{IsHappening, IsSimulation, entry_at, made_at, node_in, start_at, turn_calls}
use Rattle.booth_sim.proofs.Entries.{entries_join, stands_join}
use Rattle.booth_sim.proofs.OwnSends.{turn_own}
use Rattle.booth_sim.proofs.Sessions.{other_calls, own_calls}

same_end : (node : NodeConfig) (a b : State) → Doing node (Ends a) ≡ Doing node (Ends b) → a ≡ b
same_end node a b e = cc

not_down : (node : NodeConfig) (s : State) → Down ≡ Doing node (Ends s) → ⊥
not_down node s e = cc

turn_end_is : (node : NodeConfig) (old new : State) (calls : List Entry) → IsTurn node old Went calls new
    → after_entries (Doing node (Ends old)) (made calls) ≡ Doing node (Ends new)
turn_end_is node old new calls turn =
    (logs_are_sessions node old new 1 calls
    (record { turns = calls ∷ []; number = refl; whole = sym (append-nil calls); each = (new, turn, refl) })).1

stand_more : (m : ℕ) (before last : List WorldEntry) → stand_after m (before ++ last) ≡ after_entries (stand_after m before) (entries_of m last)
stand_more m before last =
    ap (λ (xs : List SessionEntry). after_entries Down xs) (entries_join m before last) ∙ stands_join Down (entries_of m before) (entries_of m last)

has_made : (place time : ℕ) (calls : List Entry) (entry : WorldEntry) → Has (made_at place time calls) entry
    → (call : Entry) × Has calls call × (entry_at place time (Makes call) ≡ entry)
has_made place time [] entry h = absurd h
has_made place time (call ∷ calls) entry (inl e) = (call, inl refl, e)
has_made place time (call ∷ calls) entry (inr h) = let rest = has_made place time calls entry h in (rest.0, inr rest.1, rest.2)

in_either : (xs ys : List WorldEntry) (x : WorldEntry) → Has (xs ++ ys) x → Has xs x ⊎ Has ys x
in_either [] ys x h = inr h
in_either (z ∷ zs) ys x (inl e) = inl (inl e)
in_either (z ∷ zs) ys x (inr h) = ⊎_elim (λ (a : Has zs x). inl (inr a)) (λ (b : Has ys x). inr b) (in_either zs ys x h)

module _ (answered : ClientsAreAnswered) (others : OthersAreNotAnswered) (opens : OpensWithItsTickets) (keeps : KeepsItsTickets)
    (config : ConfigSays) (small : (m : ℕ) → (node_in config m).me.0 < 2 ^ 32) where
  -- a member that stands between two turns has the tickets of the configuration
  abbrev IsSetUp : ℕ → Stand → Type 0
  IsSetUp m stand = (s : State) → stand ≡ Doing (node_in config m) (Ends s) → AreSetUp (node_in config m) s

  abbrev Owns : List WorldEntry → Type 0
  Owns before = (entry : WorldEntry) → Has before entry → (sent : List ℕ) → IsSend entry.what sent
      → word_at 20 sent ≡ (node_in config entry.member).me.0

  start_is : (m place time : ℕ) (before : List WorldEntry) (stand : Stand) → place ≡ m → IsSetUp m (after_entry stand (start_at config before place time).what)
  start_is m place time before stand same s e =
      subst (λ (t : State). AreSetUp (node_in config m) t)
      (same_end (node_in config m) _ s (subst (λ (k : ℕ). Doing (node_in config k) (Ends (opened (node_in config k) (all_kept config.tickets k before) (reading_at k time)))
      ≡ Doing (node_in config m) (Ends s)) same e))
      (opens (node_in config m) (all_kept config.tickets m before) (reading_at m time) (length-map config.tickets _))

  starts_up : (m : ℕ) (places : List ℕ) (stand : Stand) → IsSetUp m stand
      → IsSetUp m (after_entries stand (entries_of m (map (λ place. start_at config [] place 0) places)))
  starts_up m [] stand up = up
  starts_up m (place ∷ places) stand up = by_test (place == m) refl (λ s u. starts_up m places s u)
    where
      by_test : (b : Bool) → (place == m) ≡ b
          → ((s : Stand) → IsSetUp m s → IsSetUp m (after_entries s (entries_of m (map (λ p. start_at config [] p 0) places))))
          → IsSetUp m (after_entries stand (if b then (start_at config [] place 0).what ∷ entries_of m (map (λ p. start_at config [] p 0) places)
          else entries_of m (map (λ p. start_at config [] p 0) places)))
      by_test true e rest =
          let same : place ≡ m = grind (arith, nat_tests) in
          rest (after_entry stand (start_at config [] place 0).what) (start_is m place 0 [] stand same)
      by_test false e rest = rest stand up

  starts_send_nothing : (places : List ℕ) → Owns (map (λ place. start_at config [] place 0) places)
  starts_send_nothing [] entry h sent s = absurd h
  starts_send_nothing (place ∷ places) entry (inl e) sent s = absurd (subst (λ (x : WorldEntry). IsSend x.what sent) (sym e) s)
  starts_send_nothing (place ∷ places) entry (inr h) sent s = starts_send_nothing places entry h sent s

  up_more : (before : List WorldEntry) (time : ℕ) (fails : Bool) (what : Happening) (last : List WorldEntry)
      → ((m : ℕ) → IsSetUp m (stand_after m before)) → IsHappening config before time fails what last
      → (m : ℕ) → IsSetUp m (stand_after m (before ++ last))
  up_more before time fails (Turns place arrival bytes) last up is m =
      subst (λ (x : Stand). IsSetUp m x) (sym (stand_more m before last ∙ ap (λ (es : List WorldEntry). after_entries (stand_after m before) (entries_of m es)) is.whole))
      (by_test (place == m) refl)
    where
      calls : List Entry
      calls = turn_calls arrival bytes (reading_at place time) is.deeds

      own : IsSetUp place (after_entries (stand_after place before) (entries_of place (made_at place time calls)))
      own s e =
          let ends : after_entries (stand_after place before) (entries_of place (made_at place time calls)) ≡ Doing (node_in config place) (Ends is.new) =
          ap (λ (xs : List SessionEntry). after_entries (stand_after place before) xs) (own_calls place time calls)
          ∙ ap (λ (x : Stand). after_entries x (made calls)) is.stands ∙ turn_end_is (node_in config place) is.old is.new calls is.turn in
          subst (λ (t : State). AreSetUp (node_in config place) t) (same_end (node_in config place) is.new s (sym ends ∙ e))
          (keeps (node_in config place) is.old is.new (used is.old.last_reading (reading_at place time)) (Ok arrival) bytes is.deeds
          (up place is.old is.stands) is.turn.2)

      by_test : (b : Bool) → (place == m) ≡ b → IsSetUp m (after_entries (stand_after m before) (entries_of m (made_at place time calls)))
      by_test true e =
          let same : place ≡ m = grind (arith, nat_tests) in
          subst (λ (k : ℕ). IsSetUp k (after_entries (stand_after k before) (entries_of k (made_at place time calls)))) same own
      by_test false e =
          let ne : place ≢ m = grind (arith, nat_tests) in
          subst (λ (xs : List SessionEntry). IsSetUp m (after_entries (stand_after m before) xs)) (sym (other_calls m place time calls ne)) (up m)
  up_more before time fails (Restarts place) last up is m =
      subst (λ (x : Stand). IsSetUp m x) (sym (stand_more m before last ∙ ap (λ (es : List WorldEntry). after_entries (stand_after m before) (entries_of m es)) is))
      (by_test (place == m) refl)
    where
      by_test : (b : Bool) → (place == m) ≡ b
          → IsSetUp m (after_entries (stand_after m before) (if b then (start_at config before place time).what ∷ [] else []))
      by_test true e =
          let same : place ≡ m = grind (arith, nat_tests) in start_is m place time before (stand_after m before) same
      by_test false e = up m

  owns_more : (before : List WorldEntry) (time : ℕ) (fails : Bool) (what : Happening) (last : List WorldEntry)
      → ((m : ℕ) → IsSetUp m (stand_after m before)) → IsHappening config before time fails what last → Owns last
  owns_more before time fails (Turns place arrival bytes) last up is entry h sent s =
      by_call (has_made place time (turn_calls arrival bytes (reading_at place time) is.deeds) entry
      (subst (λ (es : List WorldEntry). Has es entry) is.whole h))
    where
      by_call : ((call : Entry) × Has (turn_calls arrival bytes (reading_at place time) is.deeds) call × (entry_at place time (Makes call) ≡ entry))
          → word_at 20 sent ≡ (node_in config entry.member).me.0
      by_call (call, inl e, is_it) = absurd (subst (λ (c : Entry). IsSend (Makes c) sent) (sym e) (subst (λ (x : WorldEntry). IsSend x.what sent) (sym is_it) s))
      by_call (call, inr (inl e), is_it) = absurd (subst (λ (c : Entry). IsSend (Makes c) sent) (sym e) (subst (λ (x : WorldEntry). IsSend x.what sent) (sym is_it) s))
      by_call (call, inr (inr d), is_it) =
          turn_own config place (small place) answered others is.old is.new (used is.old.last_reading (reading_at place time)) is.deeds
          (up place is.old is.stands) arrival bytes is.turn.2 call d sent (subst (λ (x : WorldEntry). IsSend x.what sent) (sym is_it) s)
          ∙ ap (λ (x : WorldEntry). (node_in config x.member).me.0) is_it
  owns_more before time fails (Restarts place) last up is entry h sent s =
      by_part (subst (λ (es : List WorldEntry). Has es entry) is h)
    where
      by_part : Has (start_at config before place time ∷ []) entry → word_at 20 sent ≡ (node_in config entry.member).me.0
      by_part (inl e) = absurd (subst (λ (x : WorldEntry). IsSend x.what sent) (sym e) s)
      by_part (inr none) = absurd none

  pub owned : (number events : ℕ) (entries : List WorldEntry) → IsSimulation config number events entries
      → ((m : ℕ) → IsSetUp m (stand_after m entries)) × Owns entries
  owned number zero entries is =
      subst (λ (es : List WorldEntry). ((m : ℕ) → IsSetUp m (stand_after m es)) × Owns es) (sym is) (
        (λ m. starts_up m (range_with_len 0 (length config.members)) Down (λ s e. absurd (not_down (node_in config m) s e))),
        starts_send_nothing (range_with_len 0 (length config.members)),
      )
  owned number (suc event) entries is =
      let earlier = owned number event is.0 is.3 in
      let time : ℕ = last_time 0 is.0 + rise_of (draw_of number event) in
      subst (λ (es : List WorldEntry). ((m : ℕ) → IsSetUp m (stand_after m es)) × Owns es) (sym is.2) (
        up_more is.0 time (keeps_fail (draw_of number event)) (happening config is.0 event (draw_of number event)) is.1 earlier.0 is.4,
        (λ entry h sent s. ⊎_elim (λ (a : Has is.0 entry). earlier.1 entry a sent s)
            (λ (b : Has is.1 entry). owns_more is.0 time (keeps_fail (draw_of number event)) (happening config is.0 event (draw_of number event)) is.1
            earlier.0 is.4 entry b sent s) (in_either is.0 is.1 entry h)),
      )
