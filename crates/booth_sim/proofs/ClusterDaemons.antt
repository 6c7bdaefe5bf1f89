-- The daemons of a cluster, when entries of one member follow.
use Rattle.std.proofs.Common.{◌≡◌, ◌≢◌, ℕ, zero, suc, ◌+◌, ◌<◌, List, [], ◌∷◌, ◌++◌, set, refl, sym, ap, ◌∙◌, subst, arith}
use Rattle.std.specs.Prelude.{Option, Ok}
use Rattle.std.proofs.lemmas.List.{append-nil}
use Rattle.booth_base.specs.Tree.{Ends}
use Rattle.booth_conf.specs.Config.{ConfigSays}
use Rattle.booth_rec.specs.declared.record.Record.{Record}
use Rattle.booth_host.specs.declared.entry.Entry.{Entry}
use Rattle.booth_node.specs.declared.node.Turn.{Turn}
use Rattle.booth_node.specs.declared.node.Turn.TheVariants.{Went}
use Rattle.booth_node.specs.declared.node_config.NodeConfig.{NodeConfig}
use Rattle.booth_node.specs.Opening.{opened}
use Rattle.booth_node.specs.Reaction.{IsTurn, turn_end}
use Rattle.booth_node.specs.Session.{SessionEntry, Stand, Down, Doing, after_entries}
use Rattle.booth_node.specs.State.{State}
use Rattle.booth_node.specs.View.{node_config, state_of}
use Rattle.booth_node.specs.World.{WorldEntry, entries_of, stand_after}
use Rattle.booth_world.proofs.LogSessions.{logs_are_sessions}
use Rattle.booth_world.specs.Worlds.{made}
use Rattle.booth_sim.specs.declared.daemon.Coming.{Coming}
use Rattle.booth_sim.specs.declared.daemon.Daemon.{Daemon}
use Rattle.booth_sim.specs.Happenings.{reading_at}
use Rattle.booth_sim.specs.Kept.{all_kept}
use Rattle.booth_sim.specs.Simulation.{IsTurnAt, made_at, node_in, start_at, turn_calls}
use Rattle.booth_sim.specs.Standing.{AreDaemons, HasStarted, IsDaemon, TookTurn}
use Rattle.booth_sim.proofs.ClusterCounts.{kept_other, kept_stay}
use Rattle.booth_sim.proofs.Entries.{entries_join, stand_own, stands_join}
use Rattle.booth_sim.proofs.Sessions.{own_calls}

-- ---- entries of another member

other_stays : (config : ConfigSays) (before last : List WorldEntry) (m : ℕ) (daemon : Daemon) → entries_of m last ≡ []
    → IsDaemon config before m daemon → IsDaemon config (before ++ last) m daemon
other_stays config before last m daemon none is = record {
  node = is.node;
  stands =
      ap (λ (es : List SessionEntry). after_entries Down es)
      (entries_join m before last ∙ ap (λ (es : List SessionEntry). entries_of m before ++ es) none ∙ append-nil (entries_of m before))
      ∙ is.stands;
  records = is.records ∙ sym (kept_other config.tickets m before last none);
}

others_stay : (config : ConfigSays) (before last : List WorldEntry) (p first : ℕ) (daemons : List Daemon) → p < first
    → ((m : ℕ) → m ≢ p → entries_of m last ≡ []) → AreDaemons config before first daemons → AreDaemons config (before ++ last) first daemons
others_stay config before last p first [] later none are = tt
others_stay config before last p first (daemon ∷ daemons) later none are = (
  other_stays config before last first daemon (none first (λ (e : first ≡ p). omega (arith, e, later))) are.0,
  others_stay config before last p (first + 1) daemons (omega (arith, later)) none are.1,
)

-- ---- all of them, where one is another

pub daemons_after : (config : ConfigSays) (before last : List WorldEntry) (p : ℕ) (daemon : Daemon) (first : ℕ) (daemons : List Daemon) (k : ℕ)
    → first + k ≡ p → ((m : ℕ) → m ≢ p → entries_of m last ≡ []) → IsDaemon config (before ++ last) p daemon
    → AreDaemons config before first daemons → AreDaemons config (before ++ last) first (set daemons k daemon)
daemons_after config before last p daemon first [] k at none is are = tt
daemons_after config before last p daemon first (d ∷ daemons) zero at none is are = (
  subst (λ (m : ℕ). IsDaemon config (before ++ last) m daemon) (omega (arith, at)) is,
  others_stay config before last p (first + 1) daemons (omega (arith, at)) none are.1,
)
daemons_after config before last p daemon first (d ∷ daemons) (suc k) at none is are = (
  other_stays config before last first d (none first (λ (e : first ≡ p). omega (arith, e, at))) are.0,
  daemons_after config before last p daemon (first + 1) daemons k (omega (arith, at)) none is are.1,
)

-- ---- a turn

-- the entries of a daemon's turn are those of its member
pub turn_is : (config : ConfigSays) (before : List WorldEntry) (place time : ℕ) (coming : Coming) (old new : Daemon) (deeds : List Entry)
    → coming.reading ≡ reading_at place time → turn_end (Ok coming.arrival) ≡ Went → IsDaemon config before place old
    → TookTurn (node_config old.node) (state_of old.node) (state_of new.node) coming deeds
    → IsTurnAt config before place time coming.keeps_fail coming.arrival coming.bytes.now
    (made_at place time (turn_calls coming.arrival coming.bytes.now coming.reading deeds))
turn_is config before place time coming old new deeds read goes is took = record {
  old = state_of old.node;
  new = state_of new.node;
  deeds = deeds;
  stands = is.stands;
  turn =
      subst (λ (r : ℕ). IsTurn (node_in config place) (state_of old.node) Went (turn_calls coming.arrival coming.bytes.now r deeds) (state_of new.node)) read
      (subst (λ (t : Turn). IsTurn (node_in config place) (state_of old.node) t (turn_calls coming.arrival coming.bytes.now coming.reading deeds) (state_of new.node)) goes
      (subst (λ (n : NodeConfig). IsTurn n (state_of old.node) (turn_end (Ok coming.arrival)) (turn_calls coming.arrival coming.bytes.now coming.reading deeds) (state_of new.node))
      is.node took.turn));
  answered = took.answered;
  whole = ap (λ (r : ℕ). made_at place time (turn_calls coming.arrival coming.bytes.now r deeds)) read;
}

turn_leaves : (node : NodeConfig) (old new : State) (turn : List Entry) → IsTurn node old Went turn new
    → after_entries (Doing node (Ends old)) (made turn) ≡ Doing node (Ends new)
turn_leaves node old new turn is =
    (logs_are_sessions node old new 1 turn
    (record { turns = turn ∷ []; number = refl; whole = sym (append-nil turn); each = (new, is, refl) })).1

-- its daemon stands behind them
pub turned : (config : ConfigSays) (before : List WorldEntry) (place time : ℕ) (coming : Coming) (old new : Daemon) (deeds : List Entry)
    → turn_end (Ok coming.arrival) ≡ Went → IsDaemon config before place old → node_config new.node ≡ node_config old.node
    → TookTurn (node_config old.node) (state_of old.node) (state_of new.node) coming deeds
    → new.kept.items ≡ all_kept config.tickets place (before ++ made_at place time (turn_calls coming.arrival coming.bytes.now coming.reading deeds))
    → IsDaemon config (before ++ made_at place time (turn_calls coming.arrival coming.bytes.now coming.reading deeds)) place new
turned config before place time coming old new deeds goes is same took kept = record {
  node = same ∙ is.node;
  stands =
      ap (λ (es : List SessionEntry). after_entries Down es) (entries_join place before (made_at place time whole))
      ∙ stands_join Down (entries_of place before) (entries_of place (made_at place time whole))
      ∙ ap (λ (es : List SessionEntry). after_entries (stand_after place before) es) (own_calls place time whole)
      ∙ ap (λ (s : Stand). after_entries s (made whole)) is.stands
      ∙ turn_leaves (node_in config place) (state_of old.node) (state_of new.node) whole
      (subst (λ (t : Turn). IsTurn (node_in config place) (state_of old.node) t whole (state_of new.node)) goes
      (subst (λ (n : NodeConfig). IsTurn n (state_of old.node) (turn_end (Ok coming.arrival)) whole (state_of new.node)) is.node took.turn));
  records = kept;
}
  where
    whole : List Entry
    whole = turn_calls coming.arrival coming.bytes.now coming.reading deeds

-- ---- a start

-- a daemon that starts with the records of its member stands behind the start
pub started : (config : ConfigSays) (before : List WorldEntry) (place time : ℕ) (kept : List (Option Record)) (reading : ℕ) (daemon : Daemon)
    → kept ≡ all_kept config.tickets place before → reading ≡ reading_at place time → HasStarted config place kept reading daemon
    → IsDaemon config (before ++ start_at config before place time ∷ []) place daemon
started config before place time kept reading daemon are read is = record {
  node = is.node;
  stands =
      stand_own place before (start_at config before place time) refl
      ∙ ap (λ (s : State). Doing (node_in config place) (Ends s))
      (sym (is.state ∙ ap (λ (r : ℕ). opened (node_in config place) kept r) read
      ∙ ap (λ (ks : List (Option Record)). opened (node_in config place) ks (reading_at place time)) are));
  records = is.records ∙ are ∙ sym (kept_stay config.tickets before (start_at config before place time) (λ name kept. refl));
}
