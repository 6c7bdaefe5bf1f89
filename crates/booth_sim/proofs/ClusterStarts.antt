-- What the first starts leave: nothing was kept, sent or counted.
use Rattle.std.proofs.Common.{◌≡◌, ◌≢◌, ℕ, zero, suc, ◌+◌, ◌<◌, ◌≤◌, Bool, true, false, ◌&&◌, List, [], ◌∷◌, ◌++◌, length, refl, sym, ap, ◌∙◌, subst, inl, inr, ◌⊎◌, arith, if◌then◌else◌}
use Rattle.std.specs.Prelude.{Option, None, map, count_by}
use Rattle.std.specs.List.{range_with_len}
use Rattle.std.proofs.lemmas.Bool.{cases_eq}
use Rattle.std.proofs.lemmas.List.{append-nil, append_assoc, length_push}
use Rattle.booth_base.specs.Tree.{Ends}
use Rattle.booth_conf.specs.Config.{ConfigSays}
use Rattle.booth_conf.specs.Sound.{IsSound}
use Rattle.booth_conf.specs.declared.tickets.TicketConf.{TicketConf}
use Rattle.booth_rec.specs.declared.record.Record.{Record}
use Rattle.booth_rec.specs.Record.{record_or_none}
use Rattle.booth_node.specs.Opening.{opened, is_site_at}
use Rattle.booth_node.specs.Session.{SessionEntry, Down, Doing, after_entries}
use Rattle.booth_node.specs.State.{State}
use Rattle.booth_node.specs.World.{WorldEntry, entries_of, last_time}
use Rattle.booth_sim.specs.declared.cluster.Cluster.{Cluster}
use Rattle.booth_sim.specs.declared.daemon.Daemon.{Daemon}
use Rattle.booth_sim.specs.declared.frames.SentFrame.{SentFrame}
use Rattle.booth_sim.specs.declared.frames.TheConstants.{KEPT_FRAMES}
use Rattle.booth_sim.specs.declared.summary.Summary.{Summary}
use Rattle.booth_sim.specs.Clusters.{AreStarted, HaveStarted, IsNothing, Stands}
use Rattle.booth_sim.specs.Counts.{holders, is_holder, is_in_force, is_some_entry, most_between, most_of}
use Rattle.booth_sim.specs.Frames.{frames_in, last_of}
use Rattle.booth_sim.specs.Happenings.{reading_at}
use Rattle.booth_sim.specs.Kept.{all_kept, kept_after, kept_by}
use Rattle.booth_sim.specs.Simulation.{node_in, start_at, starts}
use Rattle.booth_sim.specs.Standing.{AreDaemons, HasStarted, IsCounted, IsDaemon}
use Rattle.booth_sim.proofs.ClusterCounts.{start_counted}
use Rattle.booth_sim.proofs.Entries.{entries_join, entry_own, entry_other}
use Rattle.booth_sim.proofs.HoldersOnce.{count_none}
use Rattle.booth_sim.proofs.Worlds.{KeepsNothing, start_keeps_nothing, starts_time}

-- ---- the entries

-- the first starts of so many members, from a place on
abbrev pub starts_from : ConfigSays → ℕ → ℕ → List WorldEntry
starts_from config first n = map (λ place. start_at config [] place 0) (range_with_len first n)

none_start : (config : ConfigSays) (n first m : ℕ) → m < first → entries_of m (starts_from config first n) ≡ []
none_start config zero first m below = refl
none_start config (suc n) first m below =
    entry_other m (start_at config [] first 0) (starts_from config (first + 1) n) (λ (e : first ≡ m). omega (arith, e, below))
    ∙ none_start config n (first + 1) m (omega (arith, below))

one_start : (config : ConfigSays) (n first m : ℕ) → first ≤ m → m < first + n
    → entries_of m (starts_from config first n) ≡ (start_at config [] m 0).what ∷ []
one_start config zero first m from below = absurd (omega (arith, from, below))
one_start config (suc n) first m from below =
    by_place (dec first m) (λ ne. one_start config n (first + 1) m (later first m from ne) (omega (arith, below)))
  where
    dec : (a b : ℕ) → (a ≡ b) ⊎ (a ≢ b)
    dec a b = cases_eq a b

    by_place : (first ≡ m) ⊎ (first ≢ m)
        → (first ≢ m → entries_of m (starts_from config (first + 1) n) ≡ (start_at config [] m 0).what ∷ [])
        → entries_of m (starts_from config first (suc n)) ≡ (start_at config [] m 0).what ∷ []
    by_place (inl e) rest =
        entry_own m (start_at config [] first 0) (starts_from config (first + 1) n) e
        ∙ ap (λ (es : List SessionEntry). (start_at config [] first 0).what ∷ es) (none_start config n (first + 1) m (omega (arith, e)))
        ∙ ap (λ (k : ℕ). (start_at config [] k 0).what ∷ []) e
    by_place (inr ne) rest =
        entry_other m (start_at config [] first 0) (starts_from config (first + 1) n) ne ∙ rest ne

    later : (a b : ℕ) → a ≤ b → a ≢ b → a + 1 ≤ b
    later a b le ne = omega (arith, le, ne)

-- ---- the daemons

no_time : (place : ℕ) → 0 ≡ reading_at place 0
no_time place = omega arith

one_started : (config : ConfigSays) (m : ℕ) (daemon : Daemon) → m < length config.members
    → HasStarted config m (all_kept config.tickets m []) 0 daemon → IsDaemon config (starts config) m daemon
one_started config m daemon below is = record {
  node = is.node;
  stands =
      ap (λ (es : List SessionEntry). after_entries Down es) alone
      ∙ ap (λ (s : State). Doing (node_in config m) (Ends s))
      (sym (is.state ∙ ap (λ (r : ℕ). opened (node_in config m) (all_kept config.tickets m []) r) (no_time m)));
  records = is.records ∙ sym (nothing_kept config.tickets);
}
  where
    alone : entries_of m (starts config) ≡ (start_at config [] m 0).what ∷ []
    alone = one_start config (length config.members) 0 m (omega arith) (omega (arith, below))

    nothing_kept : (tickets : List TicketConf) → all_kept tickets m (starts config) ≡ all_kept tickets m []
    nothing_kept [] = refl
    nothing_kept (ticket ∷ tickets) =
        ap (λ (kept : Option Record). kept ∷ all_kept tickets m (starts config))
        (ap (λ (es : List SessionEntry). kept_after ticket.name None es) alone)
        ∙ ap (λ (rest : List (Option Record)). kept_by m ticket.name [] ∷ rest) (nothing_kept tickets)

all_started : (config : ConfigSays) (place : ℕ) (daemons : List Daemon) → place + length daemons ≤ length config.members
    → AreStarted config place daemons → AreDaemons config (starts config) place daemons
all_started config place [] few are = tt
all_started config place (daemon ∷ daemons) few are = (
  one_started config place daemon (omega (arith, few)) are.0,
  all_started config (place + 1) daemons (omega (arith, few)) are.1,
)

-- one more has started
pub more_started : (config : ConfigSays) (place : ℕ) (daemons : List Daemon) (daemon : Daemon) (last : ℕ) → place + length daemons ≡ last
    → AreStarted config place daemons → HasStarted config last (all_kept config.tickets last []) 0 daemon
    → AreStarted config place (daemons ++ daemon ∷ [])
more_started config place [] daemon last at are is =
    (subst (λ (m : ℕ). HasStarted config m (all_kept config.tickets m []) 0 daemon) (omega (arith, at)) is, tt)
more_started config place (d ∷ daemons) daemon last at are is =
    (are.0, more_started config (place + 1) daemons daemon last (omega (arith, at)) are.1 is)

-- ---- what is counted

counted_starts : (config : ConfigSays) (n first : ℕ) (done : List WorldEntry) (summary : Summary)
    → ((m : ℕ) → first ≤ m → entries_of m done ≡ []) → IsCounted config done summary
    → IsCounted config (done ++ starts_from config first n) summary
counted_starts config zero first done summary none is =
    subst (λ (es : List WorldEntry). IsCounted config es summary) (sym (append-nil done)) is
counted_starts config (suc n) first done summary none is =
    subst (λ (es : List WorldEntry). IsCounted config es summary)
    (append_assoc done (start_at config [] first 0 ∷ []) (starts_from config (first + 1) n))
    (counted_starts config n (first + 1) (done ++ start_at config [] first 0 ∷ []) summary still
    (start_counted config done first summary (ap is_some_entry (none first (omega arith))) is))
  where
    still : (m : ℕ) → first + 1 ≤ m → entries_of m (done ++ start_at config [] first 0 ∷ []) ≡ []
    still m from =
        entries_join m done (start_at config [] first 0 ∷ [])
        ∙ ap (λ (es : List SessionEntry). es ++ entries_of m (start_at config [] first 0 ∷ [])) (none m (omega (arith, from)))
        ∙ entry_other m (start_at config [] first 0) [] (λ (e : first ≡ m). omega (arith, e, from))

no_frames : (config : ConfigSays) (n first : ℕ) → frames_in config (starts_from config first n) ≡ []
no_frames config zero first = refl
no_frames config (suc n) first = no_frames config n (first + 1)

-- ---- the holders

and_false : (b : Bool) → b && false ≡ false
and_false true = refl
and_false false = refl

not_held : (config : ConfigSays) (done : List WorldEntry) (ticket : TicketConf) (place : ℕ) → KeepsNothing done
    → is_holder config done ticket place ≡ false
not_held config done ticket place nothing =
    ap (λ (kept : Option Record). is_site_at config.members place
    && is_in_force (record_or_none kept).lease (reading_at place (last_time 0 done))) (nothing place ticket.name)
    ∙ and_false (is_site_at config.members place)

none_holds : (config : ConfigSays) (done : List WorldEntry) (ticket : TicketConf) → KeepsNothing done → holders config done ticket ≡ 0
none_holds config done ticket nothing = by_kind ticket.manual
  where
    never : (a : Bool) → a ≡ false → a ≡ true → ⊥
    never a e f = cc

    by_kind : (b : Bool) → (if b then 0 else count_by (is_holder config done ticket) (range_with_len 0 (length config.members))) ≡ 0
    by_kind true = refl
    by_kind false =
        count_none (is_holder config done ticket) (length config.members) 0
        (λ k from below holds. never _ (not_held config done ticket k nothing) holds)

most_is_none : (config : ConfigSays) (done : List WorldEntry) (tickets : List TicketConf) → KeepsNothing done
    → most_of config done tickets ≡ 0
most_is_none config done [] nothing = refl
most_is_none config done (ticket ∷ tickets) nothing =
    let here = none_holds config done ticket nothing in let rest = most_is_none config done tickets nothing in omega (arith, here, rest)

most_of_starts : (config : ConfigSays) (n first : ℕ) (done : List WorldEntry) → KeepsNothing done
    → most_between config done (starts_from config first n) ≡ 0
most_of_starts config zero first done nothing = most_is_none config done config.tickets nothing
most_of_starts config (suc n) first done nothing =
    let here = most_is_none config done config.tickets nothing in
    let rest = most_of_starts config n (first + 1) (done ++ start_at config [] first 0 ∷ []) (start_keeps_nothing config first done nothing) in
    omega (arith, here, rest)

-- ---- the cluster

pub cluster_starts : (config : ConfigSays) (cluster : Cluster) → IsSound config → cluster.config ≡ config
    → HaveStarted config (length config.members) cluster.daemons.items → cluster.frames ≡ [] → cluster.time ≡ 0 → IsNothing cluster.summary
    → Stands config cluster.summary.events cluster.summary.number 0 cluster
cluster_starts config cluster sound same started frames at nothing = record {
  before = starts config;
  simulation = refl;
  sound = sound;
  same = same;
  all = started.all;
  holds = record {
    each = all_started config 0 cluster.daemons.items (let n = started.all in omega (arith, n)) started.each;
    sent = frames ∙ sym (ap (λ (fs : List SentFrame). last_of KEPT_FRAMES fs) (no_frames config (length config.members) 0));
    counted = counted_starts config (length config.members) 0 [] cluster.summary (λ m from. refl)
        (record {
          delivered = nothing.delivered;
          restarts = nothing.restarts;
          gains = nothing.gains;
          releases = nothing.releases;
          greatest = nothing.greatest;
        });
  };
  at = at ∙ sym (starts_time config (range_with_len 0 (length config.members)));
  asked = refl;
  drawn = refl;
  most = nothing.most ∙ sym (most_of_starts config (length config.members) 0 [] (λ m name. refl));
  few = record {
    delivered = let n = nothing.delivered in omega (arith, n);
    restarts = let n = nothing.restarts in omega (arith, n);
    gains = let n = nothing.gains in omega (arith, n);
    releases = let n = nothing.releases in omega (arith, n);
  };
}

-- one more of the first members has started
pub have_more : (config : ConfigSays) (n : ℕ) (old new : List Daemon) (daemon : Daemon) → HaveStarted config n old
    → HasStarted config n (all_kept config.tickets n []) 0 daemon → new ≡ old ++ daemon ∷ [] → HaveStarted config (n + 1) new
have_more config n old new daemon have is now =
    subst (λ (ds : List Daemon). HaveStarted config (n + 1) ds) (sym now)
    (record {
      all = length_push old daemon ∙ ap (λ (k : ℕ). k + 1) have.all;
      each = more_started config 0 old daemon n (let e = have.all in omega (arith, e)) have.each is;
    })

-- a cluster whose configuration is told otherwise
pub starts_with : (config said : ConfigSays) (cluster : Cluster) → said ≡ config
    → Stands config cluster.summary.events cluster.summary.number 0 cluster
    → Stands config cluster.summary.events cluster.summary.number 0 (record cluster { config = said })
starts_with config said cluster is stands =
    subst (λ (c : ConfigSays). Stands config cluster.summary.events cluster.summary.number 0 (record cluster { config = c }))
    (stands.same ∙ sym is) stands
