-- What happens in a cluster is what the definitions say, and an event leads from one cluster to the next.
use Rattle.std.proofs.Common.{◌≡◌, ℕ, suc, ◌+◌, ◌*◌, ◌<◌, ◌≤◌, ◌^◌, Bool, true, List, [], ◌∷◌, ◌++◌, ◌%◌, length, set, refl, sym, ap, ◌∙◌, subst, arith}
use Rattle.std.specs.Prelude.{Option, Some, None, Ok, max, slice_get}
use Rattle.std.specs.List.{All}
use Rattle.std.proofs.lemmas.List.{length-set}
use Rattle.booth_base.specs.Tree.{Ends}
use Rattle.booth_conf.specs.Config.{ConfigSays}
use Rattle.booth_conf.specs.Sound.{IsSound}
use Rattle.booth_host.specs.declared.entry.Entry.{Entry}
use Rattle.booth_host.specs.declared.entry.Entry.TheVariants as calls
use Rattle.booth_node.specs.declared.node.Turn.TheVariants.{Went}
use Rattle.booth_node.specs.Reaction.{turn_end, used, react}
use Rattle.booth_node.specs.Session.{SessionEntry, Stand, Down, Doing, Makes, after_entries}
use Rattle.booth_node.specs.State.{State}
use Rattle.booth_node.specs.View.{state_of}
use Rattle.booth_node.specs.World.{WorldEntry, entries_of, last_time}
use Rattle.booth_sim.specs.declared.cluster.Cluster.{Cluster}
use Rattle.booth_sim.specs.declared.clock.TheConstants.{TIMES_END}
use Rattle.booth_sim.specs.declared.daemon.Coming.{Coming}
use Rattle.booth_sim.specs.declared.daemon.Daemon.{Daemon}
use Rattle.booth_sim.specs.declared.drawing.Draw.{Draw}
use Rattle.booth_sim.specs.declared.drawing.Kind.{Kind}
use Rattle.booth_sim.specs.declared.drawing.Kind.TheVariants as kinds
use Rattle.booth_sim.specs.declared.frames.SentFrame.{SentFrame}
use Rattle.booth_sim.specs.declared.happening.Happening.{Happening as HappeningOf}
use Rattle.booth_sim.specs.declared.summary.Summary.{Summary}
use Rattle.booth_sim.specs.Clusters.{CanHappen, Happened, Holds, IsFew, IsReady, IsWhatHappens, Leaves, Stands, says}
use Rattle.booth_sim.specs.Counts.{is_some_entry, most_between, most_of}
use Rattle.booth_sim.specs.Drawing.{draw_of, keeps_fail, kind_of, member_of, rise_of}
use Rattle.booth_sim.specs.Frames.{chosen, kept_frames}
use Rattle.booth_sim.specs.Happenings.{Happening, Turns, Restarts, arrives, happening, happens, reading_at}
use Rattle.booth_sim.specs.declared.summary.TheConstants.{MOST_EVENTS}
use Rattle.booth_sim.specs.Simulation.{IsEvent, IsHappening, IsSimulation, entry_at, made_at, node_in, start_at, turn_calls}
use Rattle.booth_sim.specs.Standing.{AreDaemons, HasStarted, IsCounted, IsDaemon, KeepsAll}
use Rattle.booth_sim.specs.Turning.{Grows, HasRoom, MadeTurn}
use Rattle.booth_sim.proofs.ClusterCounts.{deeds_begin_none, frames_stay, most_join, restart_counted}
use Rattle.booth_sim.proofs.ClusterDaemons.{daemons_after, started, turn_is, turned}
use Rattle.booth_sim.proofs.Daemons.{all_keep, daemon_at}
use Rattle.booth_sim.proofs.Entries.{entry_other, times_join}
use Rattle.booth_sim.proofs.Follows.{PlaceIs}
use Rattle.booth_sim.proofs.Places.{place_is}
use Rattle.booth_sim.proofs.Sessions.{other_calls}
use Rattle.booth_sim.proofs.Worlds.{happening_time, times_below}

-- ---- a turn of the cluster

pub turn_happened : (place : ℕ) (coming : Coming) (old new : Cluster) (one other : Daemon)
    → coming.reading ≡ reading_at place old.time → turn_end (Ok coming.arrival) ≡ Went
    → slice_get old.daemons.items place ≡ Some one → new.daemons.items ≡ set old.daemons.items place other
    → new.config ≡ old.config → new.time ≡ old.time
    → MadeTurn old.config place coming one other old.frames new.frames old.summary new.summary
    → Happened coming.keeps_fail (Turns place coming.arrival coming.bytes.now) old new
turn_happened place coming old new one other read goes was now same at made = record {
  same = same;
  at = at;
  all = ap (λ (ds : List Daemon). length ds) now ∙ length-set old.daemons.items place other;
  grows = record {
    arrived = made.grows.arrived;
    started = let n = made.grows.started in omega (arith, n);
    gained = made.grows.gained;
    released = made.grows.released;
    events = made.grows.events;
    number = made.grows.number;
    most = made.grows.most;
  };
  leaves = λ before holds.
      let stood : IsDaemon old.config before place one = subst (λ (m : ℕ). IsDaemon old.config before m one) (omega arith)
      (daemon_at old.config before 0 old.daemons.items holds.each place one was) in
      let seen = made.sees before old.time (record { records = stood.records; sent = holds.sent; counted = holds.counted }) in
      record {
        last = made_at place old.time whole;
        is = turn_is old.config before place old.time coming one other made.deeds read goes stood made.took;
        holds = record {
          each = subst (λ (ds : List Daemon). AreDaemons old.config (before ++ made_at place old.time whole) 0 ds) (sym now)
              (daemons_after old.config before (made_at place old.time whole) place other 0 old.daemons.items place (omega arith)
              (λ m ne. other_calls m place old.time whole (λ (e : place ≡ m). ne (sym e)))
              (turned old.config before place old.time coming one other made.deeds goes stood made.node made.took seen.records) holds.each);
          sent = seen.sent;
          counted = seen.counted;
        };
      };
}
  where
    whole : List Entry
    whole = turn_calls coming.arrival coming.bytes.now coming.reading made.deeds

-- ---- a restart of the cluster

-- who does something did something before
did_something : (entries : List SessionEntry) (stand : Stand) → after_entries Down entries ≡ stand → (stand ≡ Down → ⊥)
    → is_some_entry entries ≡ true
did_something [] stand is up = absurd (up (sym is))
did_something (entry ∷ entries) stand is up = refl

pub restart_happened : (place reading : ℕ) (fails : Bool) (old new : Cluster) (one other : Daemon)
    → reading ≡ reading_at place old.time
    → slice_get old.daemons.items place ≡ Some one → new.daemons.items ≡ set old.daemons.items place other
    → new.config ≡ old.config → new.time ≡ old.time → new.frames ≡ old.frames
    → new.summary ≡ record old.summary { restarts = old.summary.restarts + 1 }
    → HasStarted old.config place one.kept.items reading other
    → Happened fails (Restarts place) old new
restart_happened place reading fails old new one other read was now same at frames counted starts = record {
  same = same;
  at = at;
  all = ap (λ (ds : List Daemon). length ds) now ∙ length-set old.daemons.items place other;
  grows = record {
    arrived = let e = ap (λ (s : Summary). s.delivered) counted in omega (arith, e);
    started = let e = ap (λ (s : Summary). s.restarts) counted in omega (arith, e);
    gained = let e = ap (λ (s : Summary). s.gains) counted in omega (arith, e);
    released = let e = ap (λ (s : Summary). s.releases) counted in omega (arith, e);
    events = ap (λ (s : Summary). s.events) counted;
    number = ap (λ (s : Summary). s.number) counted;
    most = ap (λ (s : Summary). s.most_holders) counted;
  };
  leaves = λ before holds.
      let stood : IsDaemon old.config before place one = subst (λ (m : ℕ). IsDaemon old.config before m one) (omega arith)
      (daemon_at old.config before 0 old.daemons.items holds.each place one was) in
      record {
        last = start_at old.config before place old.time ∷ [];
        is = refl;
        holds = record {
          each = subst (λ (ds : List Daemon). AreDaemons old.config (before ++ start_at old.config before place old.time ∷ []) 0 ds) (sym now)
              (daemons_after old.config before (start_at old.config before place old.time ∷ []) place other 0 old.daemons.items place (omega arith)
              (λ m ne. entry_other m (start_at old.config before place old.time) [] (λ (e : place ≡ m). ne (sym e)))
              (started old.config before place old.time one.kept.items reading other stood.records read starts) holds.each);
          sent = frames ∙ holds.sent ∙ sym (frames_stay old.config before (start_at old.config before place old.time) refl);
          counted = subst (λ (s : Summary). IsCounted old.config (before ++ start_at old.config before place old.time ∷ []) s) (sym counted)
              (restart_counted old.config before place old.time old.summary
              (did_something (entries_of place before) _ stood.stands (is_up (node_in old.config place) (state_of one.node))) holds.counted);
        };
      };
}
  where
    is_up : (node : _) (state : State) → Doing node (Ends state) ≡ Down → ⊥
    is_up node state e = cc

-- ---- what may happen

-- what comes does not ask for the end
abbrev EndsNot : Happening → Type 0
EndsNot (Turns place arrival bytes) = turn_end (Ok arrival) ≡ Went
EndsNot (Restarts place) = Unit {0}

goes_on : (config : ConfigSays) (what : Happening) → PlaceIs config what → EndsNot what → CanHappen config what
goes_on config (Turns place arrival bytes) below goes = (below, goes)
goes_on config (Restarts place) below goes = below

pub can_happen : (config : ConfigSays) → IsSound config → (before : List WorldEntry) (event : ℕ) (draw : Draw) (what : Happening)
    → what ≡ happening config before event draw → CanHappen config what
can_happen config sound before event draw what is =
    subst (λ (h : Happening). CanHappen config h) (sym is)
    (goes_on config (happening config before event draw) (place_is config sound before event draw) (by_kind (kind_of draw)))
  where
    by_frame : (frame : Option SentFrame) → EndsNot (arrives config (member_of draw (length config.members)) frame)
    by_frame None = refl
    by_frame (Some frame) = refl

    by_kind : (kind : Kind) → EndsNot (happens config before event draw (member_of draw (length config.members)) kind)
    by_kind kinds.Frame = by_frame (chosen draw.first (kept_frames config before))
    by_kind kinds.Quiet = refl
    by_kind kinds.Grant = refl
    by_kind kinds.Revoke = refl
    by_kind kinds.Restart = tt

-- ---- a cluster is ready

pub is_ready : (config : ConfigSays) (before : List WorldEntry) (cluster : Cluster) → IsSound config → cluster.config ≡ config
    → length cluster.daemons.items ≡ length config.members → AreDaemons config before 0 cluster.daemons.items
    → cluster.time < TIMES_END → HasRoom cluster.summary → IsReady cluster
is_ready config before cluster sound same all are early room = record {
  sound = subst (λ (c : ConfigSays). IsSound c) (sym same) sound;
  all = all ∙ sym (ap (λ (c : ConfigSays). length c.members) same);
  records = subst (λ (c : ConfigSays). All (KeepsAll c) cluster.daemons.items) (sym same) (all_keep config before 0 cluster.daemons.items are);
  early = early;
  room = room;
}

-- the counts of fewer events than the most have room
few_have_room : (event : ℕ) (summary : Summary) → event ≤ MOST_EVENTS → IsFew event summary → HasRoom summary
few_have_room event summary below few = record {
  delivered = let n = few.delivered in omega (arith, n, below);
  restarts = let n = few.restarts in omega (arith, n, below);
  gains = let n = few.gains in omega (arith, n, below);
  releases = let n = few.releases in omega (arith, n, below);
}

pub time_below : (config : ConfigSays) (events number event : ℕ) (cluster : Cluster) → Stands config events number event cluster
    → cluster.time ≤ 2000 * event
time_below config events number event cluster stands =
    let t = times_below config number event stands.before stands.simulation in let a = stands.at in omega (arith, t, a)

rise_small : (word : ℕ) → word % 2000 < 2000
rise_small word = omega arith

early : (t a r e : ℕ) → t ≡ a + r → a ≤ 2000 * e → r < 2000 → e < 10000000 → t < TIMES_END
early t a r e p le small few = omega (arith, p, le, small, few)

-- a cluster that stands is ready once its time rose
pub ready_to_go : (config : ConfigSays) (events number event : ℕ) (draw : Draw) (old new : Cluster) → Stands config events number event old
    → event < MOST_EVENTS → new.config ≡ old.config → new.daemons ≡ old.daemons → new.summary ≡ old.summary
    → new.time ≡ old.time + rise_of draw → IsReady new
ready_to_go config events number event draw old new stands below same daemons counted at =
    is_ready config stands.before new stands.sound (same ∙ stands.same)
    (ap (λ ds. length ds.items) daemons ∙ stands.all)
    (subst (λ ds. AreDaemons config stands.before 0 ds.items) (sym daemons) stands.holds.each)
    (early new.time old.time (rise_of draw) event at (time_below config events number event old stands) (rise_small draw.first) below)
    (subst (λ (s : Summary). HasRoom s) (sym counted) (few_have_room event old.summary (omega (arith, below)) stands.few))

-- ---- an event

most_after : (config : ConfigSays) (before : List WorldEntry) (time : ℕ) (fails : Bool) (what : Happening) (last : List WorldEntry)
    → IsHappening config before time fails what last
    → most_between config [] (before ++ last) ≡ max (most_between config [] before) (most_of config (before ++ last) config.tickets)
most_after config before time fails (Turns place arrival bytes) last is =
    subst (λ (es : List WorldEntry). most_between config [] (before ++ es)
    ≡ max (most_between config [] before) (most_of config (before ++ es) config.tickets)) (sym is.whole)
    (most_join config [] before (entry_at place time (Makes (calls.Next 100 (Ok arrival) bytes)))
    (entry_at place time (Makes (calls.Now (reading_at place time))) ∷ made_at place time is.deeds) refl (
      refl,
      deeds_begin_none place time (node_in config place).ring
          (react (node_in config place) is.old (used is.old.last_reading (reading_at place time)) (Ok arrival) bytes) (Ends is.new) is.deeds is.turn.2,
    ))
most_after config before time fails (Restarts place) last is =
    subst (λ (es : List WorldEntry). most_between config [] (before ++ es)
    ≡ max (most_between config [] before) (most_of config (before ++ es) config.tickets)) (sym is)
    (most_join config [] before (start_at config before place time) [] refl tt)

more_few : (event : ℕ) (old new : Summary) → IsFew event old → Grows 1 1 (2 ^ 32) old new → IsFew (event + 1) new
more_few event old new few grows = record {
  delivered = let n = few.delivered in let g = grows.arrived in omega (arith, n, g);
  restarts = let n = few.restarts in let g = grows.started in omega (arith, n, g);
  gains = let n = few.gains in let g = grows.gained in omega (arith, n, g);
  releases = let n = few.releases in let g = grows.released in omega (arith, n, g);
}

-- the holders are counted
abbrev pub with_most : Cluster → ℕ → Cluster
with_most cluster most =
    record cluster { summary = record cluster.summary { most_holders = max cluster.summary.most_holders most } }

-- how an event leads from a cluster to the next
pub record WentOn (event : ℕ) (draw : Draw) (said : HappeningOf) (old risen new : Cluster) : Type 0 where
  pub same : risen.config ≡ old.config
  pub daemons : risen.daemons ≡ old.daemons
  pub frames : risen.frames ≡ old.frames
  pub counted : risen.summary ≡ old.summary
  pub rose : risen.time ≡ old.time + rise_of draw
  pub tells : (before : List WorldEntry) → old.frames ≡ kept_frames old.config before → says said ≡ happening old.config before event draw
  pub happened : Happened (keeps_fail draw) (says said) risen new

pub went_on : (event : ℕ) (draw : Draw) (said : HappeningOf) (old risen new : Cluster) (rise : ℕ) (fails : Bool)
    → risen ≡ record old { time = old.time + rise; request = risen.request } → rise ≡ rise_of draw → fails ≡ keeps_fail draw
    → IsWhatHappens old.config old.frames event draw said → Happened fails (says said) risen new → WentOn event draw said old risen new
went_on event draw said old risen new rise fails is rises failing tells happened = record {
  same = ap (λ (c : Cluster). c.config) is;
  daemons = ap (λ (c : Cluster). c.daemons) is;
  frames = ap (λ (c : Cluster). c.frames) is;
  counted = ap (λ (c : Cluster). c.summary) is;
  rose = ap (λ (c : Cluster). c.time) is ∙ ap (λ (r : ℕ). old.time + r) rises;
  tells = tells.is;
  happened = subst (λ (b : Bool). Happened b (says said) risen new) failing happened;
}

module _ (events number event : ℕ) (draw : Draw) (said : HappeningOf) (old risen new : Cluster)
    (stands : Stands old.config events number event old) (went : WentOn event draw said old risen new) where
  abbrev new_same : new.config ≡ old.config
  new_same = went.happened.same ∙ went.same

  abbrev risen_at : risen.time ≡ last_time 0 stands.before + rise_of draw
  risen_at = went.rose ∙ ap (λ (t : ℕ). t + rise_of draw) stands.at

  risen_holds : Holds risen.config stands.before risen.daemons.items risen.frames risen.summary
  risen_holds =
      subst (λ (c : ConfigSays). Holds c stands.before risen.daemons.items risen.frames risen.summary) (sym went.same)
      (subst (λ ds. Holds old.config stands.before ds.items risen.frames risen.summary) (sym went.daemons)
      (subst (λ (fs : List SentFrame). Holds old.config stands.before old.daemons.items fs risen.summary) (sym went.frames)
      (subst (λ (s : Summary). Holds old.config stands.before old.daemons.items old.frames s) (sym went.counted) stands.holds)))

  leaves : Leaves old.config stands.before (last_time 0 stands.before + rise_of draw) (keeps_fail draw)
      (happening old.config stands.before event draw) new.daemons.items new.frames new.summary
  leaves =
      subst (λ (h : Happening). Leaves old.config stands.before (last_time 0 stands.before + rise_of draw) (keeps_fail draw) h new.daemons.items new.frames new.summary)
      (went.tells stands.before stands.holds.sent)
      (subst (λ (t : ℕ). Leaves old.config stands.before t (keeps_fail draw) (says said) new.daemons.items new.frames new.summary) risen_at
      (subst (λ (c : ConfigSays). Leaves c stands.before risen.time (keeps_fail draw) (says said) new.daemons.items new.frames new.summary) went.same
      (went.happened.leaves stands.before risen_holds)))

  few_more : IsFew (event + 1) new.summary
  few_more = more_few event risen.summary new.summary (subst (λ (s : Summary). IsFew event s) (sym went.counted) stands.few) went.happened.grows

  all_there : length new.daemons.items ≡ length old.config.members
  all_there = went.happened.all ∙ ap (λ ds. length ds.items) went.daemons ∙ stands.all

  time_is : new.time ≡ last_time 0 (stands.before ++ leaves.last)
  time_is =
      went.happened.at ∙ risen_at
      ∙ sym (times_join 0 stands.before leaves.last
      ∙ happening_time old.config stands.before (last_time 0 stands.before + rise_of draw) (keeps_fail draw)
      (happening old.config stands.before event draw) leaves.last (last_time 0 stands.before) leaves.is)

  -- what happened leaves a cluster that is ready
  pub ready_again : event < MOST_EVENTS → IsReady new
  ready_again below =
      is_ready old.config (stands.before ++ leaves.last) new stands.sound new_same all_there leaves.holds.each
      (early new.time old.time (rise_of draw) event (went.happened.at ∙ went.rose) (time_below old.config events number event old stands)
      (rise_small draw.first) below)
      (few_have_room (event + 1) new.summary (omega (arith, below)) few_more)

  one_more : suc event ≡ event + 1
  one_more = omega arith

  -- once the holders are counted it stands behind the event
  pub event_stands : (last : Cluster) → draw ≡ draw_of number event
      → ((before : List WorldEntry) → AreDaemons new.config before 0 new.daemons.items → new.time ≡ last_time 0 before
      → last ≡ with_most new (most_of new.config before new.config.tickets))
      → Stands old.config events number (event + 1) last
  event_stands last drawn held =
      subst (λ (c : Cluster). Stands old.config events number (event + 1) c)
      (sym (held (stands.before ++ leaves.last)
      (subst (λ (c : ConfigSays). AreDaemons c (stands.before ++ leaves.last) 0 new.daemons.items) (sym new_same) leaves.holds.each) time_is))
      (record {
        before = stands.before ++ leaves.last;
        simulation = subst (λ (n : ℕ). IsSimulation old.config number n (stands.before ++ leaves.last)) one_more (
          stands.before,
          leaves.last,
          refl,
          stands.simulation,
          subst (λ (d : Draw). IsEvent old.config stands.before event d leaves.last) drawn leaves.is,
        );
        sound = stands.sound;
        same = new_same;
        all = all_there;
        holds = record {
          each = leaves.holds.each;
          sent = leaves.holds.sent;
          counted = record {
            delivered = leaves.holds.counted.delivered;
            restarts = leaves.holds.counted.restarts;
            gains = leaves.holds.counted.gains;
            releases = leaves.holds.counted.releases;
            greatest = leaves.holds.counted.greatest;
          };
        };
        at = time_is;
        asked = went.happened.grows.events ∙ ap (λ (s : Summary). s.events) went.counted ∙ stands.asked;
        drawn = went.happened.grows.number ∙ ap (λ (s : Summary). s.number) went.counted ∙ stands.drawn;
        most =
            ap (λ (c : ConfigSays). max new.summary.most_holders (most_of c (stands.before ++ leaves.last) c.tickets)) new_same
            ∙ ap (λ (n : ℕ). max n (most_of old.config (stands.before ++ leaves.last) old.config.tickets))
            (went.happened.grows.most ∙ ap (λ (s : Summary). s.most_holders) went.counted ∙ stands.most)
            ∙ sym (most_after old.config stands.before (last_time 0 stands.before + rise_of draw) (keeps_fail draw)
            (happening old.config stands.before event draw) leaves.last leaves.is);
        few = record { delivered = few_more.delivered; restarts = few_more.restarts; gains = few_more.gains; releases = few_more.releases };
      })
