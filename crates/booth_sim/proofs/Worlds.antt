-- The entries of a simulation are a world.
use Rattle.std.proofs.Common.{◌≡◌, ℕ, zero, suc, ◌+◌, ◌*◌, ◌<◌, ◌≤◌, List, [], ◌∷◌, ◌++◌, length, refl, sym, ap, ◌∙◌, subst, inl, arith}
use Rattle.std.specs.Prelude.{map, slice_get, Option, Some, None, Bool, true, false, ◌==◌, if◌then◌else◌}
use Rattle.std.specs.List.{range_with_len}
use Rattle.std.proofs.lemmas.List.FromFn.{length-map-range_with_len}
use Rattle.booth_base.specs.Crc.{CrcIsRemainder}
use Rattle.booth_conf.specs.Config.{ConfigSays}
use Rattle.booth_conf.specs.Sound.{IsSound}
use Rattle.booth_conf.specs.declared.tickets.TicketConf.{TicketConf}
use Rattle.booth_host.specs.declared.entry.Entry.{Entry}
use Rattle.booth_host.specs.declared.entry.Entry.TheVariants as calls
use Rattle.booth_rec.specs.declared.record.Record.{Record}
use Rattle.booth_rec.specs.Record.{no_record}
use Rattle.booth_node.specs.Laws.{ClientsAreAnswered, KeepsItsTickets, OpensWithItsTickets, OthersAreNotAnswered}
use Rattle.booth_node.specs.declared.node_config.NodeConfig.{NodeConfig}
use Rattle.booth_node.specs.Records.{Has, record_at, may_after_all}
use Rattle.booth_node.specs.Session.{SessionEntry, Starts, Makes, IsCut}
use Rattle.booth_node.specs.World.{WorldEntry, World, last_time, entries_of, AtEach, HasConfiguration, HasForm, HasTrueClocks, HearsSent, IsNodeOf, IsSecondStart, IsWorld, StartsIn, ReadsClock, ReadsKept, StaysSecond, clock_at, stand_after}
use Rattle.booth_sim.proofs.AlongWorlds.{Along, at_each}
use Rattle.booth_world.proofs.Configured.{found_at}
use Rattle.booth_sim.specs.declared.drawing.Draw.{Draw}
use Rattle.booth_sim.specs.Drawing.{draw_of, keeps_fail, rise_of}
use Rattle.booth_sim.specs.Happenings.{Happening, Turns, Restarts, happening, reading_at}
use Rattle.booth_sim.specs.Kept.{all_kept, kept_after, kept_by}
use Rattle.booth_sim.specs.Laws.{SimulationsAreWorlds}
use Rattle.booth_sim.specs.declared.summary.TheConstants.{MOST_EVENTS}
use Rattle.booth_sim.specs.Simulation.{IsHappening, IsSimulation, entry_at, made_at, start_at, world_of}
use Rattle.booth_sim.proofs.Clocks.{clock_drifts, reads_value}
use Rattle.booth_sim.proofs.Entries.{along_events, along_left, along_right, along_weaker, entries_join, times_join, time_of_last}
use Rattle.booth_sim.proofs.Follows.{Follows, HasNode, ReadsAt, StartsKept, happening_follows}
use Rattle.booth_sim.proofs.Hearing.{Hears, happening_hears, spoke, starts_hear}
use Rattle.booth_sim.proofs.Ids.{ids_small}
use Rattle.booth_sim.proofs.KeptRecords.{kept_join, may_keep, record_of_all}
use Rattle.booth_sim.proofs.Owning.{owned}
use Rattle.booth_sim.proofs.Places.{place_is}
use Rattle.booth_sim.proofs.Sessions.{are_sessions}
use Rattle.booth_sim.proofs.Beginnings.{none_holds}

-- ---- times

pub starts_time : (config : ConfigSays) (places : List ℕ) → last_time 0 (map (λ place. start_at config [] place 0) places) ≡ 0
starts_time config [] = refl
starts_time config (place ∷ places) = starts_time config places

made_time : (place time : ℕ) (calls : List Entry) → last_time time (made_at place time calls) ≡ time
made_time place time [] = refl
made_time place time (call ∷ calls) = made_time place time calls

pub happening_time : (config : ConfigSays) (before : List WorldEntry) (time : ℕ) (fails : Bool) (what : Happening) (last : List WorldEntry) (from : ℕ)
    → IsHappening config before time fails what last → last_time from last ≡ time
happening_time config before time fails (Turns place arrival bytes) last from is =
    ap (λ (es : List WorldEntry). last_time from es) is.whole ∙ made_time place time (calls.Now (reading_at place time) ∷ is.deeds)
happening_time config before time fails (Restarts place) last from is = ap (λ (es : List WorldEntry). last_time from es) is

rise_small : (draw : Draw) → rise_of draw < 2000
rise_small draw = omega arith

more_time : (a r n t : ℕ) → t ≡ a + r → r < 2000 → a ≤ 2000 * n → t ≤ 2000 * suc n
more_time a r n t e small below = omega (arith, e, small, below)

pub times_below : (config : ConfigSays) (number events : ℕ) (entries : List WorldEntry) → IsSimulation config number events entries
    → last_time 0 entries ≤ 2000 * events
times_below config number zero entries is =
    let e : last_time 0 entries ≡ 0 =
    ap (λ (es : List WorldEntry). last_time 0 es) is ∙ starts_time config (range_with_len 0 (length config.members)) in
    omega (arith, e)
times_below config number (suc event) entries is =
    more_time (last_time 0 is.0) (rise_of (draw_of number event)) event (last_time 0 entries)
    (ap (λ (es : List WorldEntry). last_time 0 es) is.2 ∙ times_join 0 is.0 is.1
    ∙ happening_time config is.0 (last_time 0 is.0 + rise_of (draw_of number event)) (keeps_fail (draw_of number event))
    (happening config is.0 event (draw_of number event)) is.1 (last_time 0 is.0) is.4)
    (rise_small (draw_of number event)) (times_below config number event is.0 is.3)

-- ---- each entry follows

-- nothing was kept by these entries
abbrev pub KeepsNothing : List WorldEntry → Type 0
KeepsNothing done = (m : ℕ) (name : List ℕ) → kept_by m name done ≡ None

all_the_same : (tickets : List TicketConf) (m : ℕ) (done : List WorldEntry) → KeepsNothing done → all_kept tickets m [] ≡ all_kept tickets m done
all_the_same [] m done nothing = refl
all_the_same (ticket ∷ tickets) m done nothing =
    ap (λ (kept : Option Record). kept ∷ all_kept tickets m []) (sym (nothing m ticket.name))
    ∙ ap (λ (rest : List (Option Record)). kept_by m ticket.name done ∷ rest) (all_the_same tickets m done nothing)

pub start_keeps_nothing : (config : ConfigSays) (place : ℕ) (done : List WorldEntry) → KeepsNothing done
    → KeepsNothing (done ++ start_at config [] place 0 ∷ [])
start_keeps_nothing config place done nothing m name =
    ap (λ (xs : List SessionEntry). kept_after name None xs) (entries_join m done (start_at config [] place 0 ∷ []))
    ∙ kept_join name None (entries_of m done) (entries_of m (start_at config [] place 0 ∷ []))
    ∙ by_test (place == m)
  where
    by_test : (b : Bool) → kept_after name (kept_by m name done) (if b then (start_at config [] place 0).what ∷ [] else []) ≡ None
    by_test true = nothing m name
    by_test false = nothing m name

starts_follow : (config : ConfigSays) (n first : ℕ) (done : List WorldEntry) → first + n ≤ length config.members → last_time 0 done ≡ 0
    → KeepsNothing done → Along (Follows config) done (map (λ place. start_at config [] place 0) (range_with_len first n))
starts_follow config zero first done below at nothing = tt
starts_follow config (suc n) first done below at nothing = (
  record {
    member = omega (arith, below);
    order = omega (arith, at);
    configured = refl;
    second = refl;
    reads = refl;
    starts = all_the_same config.tickets first done nothing;
  },
  starts_follow config n (first + 1) (done ++ start_at config [] first 0 ∷ []) (omega (arith, below))
      (time_of_last 0 done (start_at config [] first 0)) (start_keeps_nothing config first done nothing),
)

pub all_follow : (config : ConfigSays) → IsSound config → (number events : ℕ) (entries : List WorldEntry) → IsSimulation config number events entries
    → Along (Follows config) [] entries
all_follow config sound number events entries is =
    along_events config number (Follows config)
    (starts_follow config (length config.members) 0 [] (omega arith) refl (λ m name. refl))
    (λ event before last earlier along it.
    happening_follows config before (last_time 0 before + rise_of (draw_of number event)) (keeps_fail (draw_of number event))
    (happening config before event (draw_of number event)) last (place_is config sound before event (draw_of number event))
    (no_less (last_time 0 before) (rise_of (draw_of number event))) it)
    events entries is
  where
    no_less : (a r : ℕ) → a ≤ a + r
    no_less a r = omega arith

-- ---- the world

abbrev IsLater : List WorldEntry → WorldEntry → Type 0
IsLater done entry = last_time 0 done ≤ entry.time

-- time goes on behind a moment
goes_on : (done xs : List WorldEntry) (t : ℕ) → last_time 0 done ≡ t → Along IsLater done xs → t ≤ last_time t xs
goes_on done [] t e h = omega arith
goes_on done (x ∷ xs) t e h =
    let rest = goes_on (done ++ x ∷ []) xs x.time (time_of_last 0 done x) h.1 in
    let here = h.0 in
    omega (arith, e, rest, here)

within : (before after entries : List WorldEntry) (entry : WorldEntry) → Along IsLater [] entries → entries ≡ before ++ entry ∷ after
    → entry.time ≤ last_time 0 entries
within before after entries entry along e =
    let there : Along IsLater [] (before ++ entry ∷ after) = subst (λ (es : List WorldEntry). Along IsLater [] es) e along in
    let behind = along_right IsLater [] before (entry ∷ after) there in
    let rest = goes_on (before ++ entry ∷ []) after entry.time (time_of_last 0 before entry) behind.1 in
    let at : last_time 0 entries ≡ last_time entry.time after =
    ap (λ (es : List WorldEntry). last_time 0 es) e ∙ times_join 0 before (entry ∷ after) in
    omega (arith, rest, at)

-- a moment is within the clocks
pub before_within : (config : ConfigSays) (number events : ℕ) (entries before after : List WorldEntry) → entries ≡ before ++ after
    → Along (Follows config) [] entries → last_time 0 before < (world_of config entries).span
before_within config number events entries before after e along =
    let there : Along IsLater [] (before ++ after) =
    subst (λ (es : List WorldEntry). Along IsLater [] es) e (along_weaker (Follows config) IsLater (λ d x f. f.order) [] entries along) in
    let behind = goes_on before after (last_time 0 before) refl (along_right IsLater [] before after there) in
    let at : last_time 0 entries ≡ last_time (last_time 0 before) after =
    ap (λ (es : List WorldEntry). last_time 0 es) e ∙ times_join 0 before after in
    omega (arith, behind, at)

module _ (config : ConfigSays) (sound : IsSound config) (number events : ℕ) (few : events ≤ MOST_EVENTS) (entries : List WorldEntry)
    (is : IsSimulation config number events entries) where
  abbrev pub TheWorld : World
  TheWorld = world_of config entries

  along : Along (Follows config) [] entries
  along = all_follow config sound number events entries is

  each : (Q : List WorldEntry → WorldEntry → Type 0) → ((done : List WorldEntry) (e : WorldEntry) → Follows config done e → Q done e) → AtEach TheWorld Q
  each Q from = at_each TheWorld Q (along_weaker (Follows config) Q from [] entries along)

  form : HasForm TheWorld
  form = record {
    said = (config, sound, refl);
    members = each (λ done e. e.member < length config.members) (λ done e f. f.member);
    in_order = each IsLater (λ done e f. f.order);
    within = λ before after entry e.
        let at = within before after entries entry (along_weaker (Follows config) IsLater (λ d x f. f.order) [] entries along) e in
        omega (arith, at);
  }

  configured : (done : List WorldEntry) (e : WorldEntry) → Follows config done e → HasConfiguration TheWorld e e.what
  configured done e f = by_what e.what f.configured
    where
      by_what : (what : SessionEntry) → HasNode config e.member what → HasConfiguration TheWorld e what
      by_what (Starts node reading records) h =
          subst (λ (n : NodeConfig). IsNodeOf TheWorld e.member n) (sym h) (record { sound = sound; members = refl; me = refl })
      by_what (Makes call) h = tt
      by_what (IsCut call) h = tt

  pub clock_value : (m time : ℕ) → time < TheWorld.span → clock_at TheWorld m time ≡ reading_at m time
  clock_value m time below =
      let long = length-map-range_with_len (reading_at m) 0 TheWorld.span in
      reads_value (reading_at m) TheWorld.span time (omega (arith, below, long))

  -- what a member reads is what its clock reads
  reads_clock : (m time : ℕ) (what : SessionEntry) → time < TheWorld.span → ReadsAt m time what → ReadsClock TheWorld (entry_at m time what) what
  reads_clock m time (Starts node reading records) below r = r ∙ sym (clock_value m time below)
  reads_clock m time (Makes (calls.Now reading)) below r = r ∙ sym (clock_value m time below)
  reads_clock m time what below r = tt

  clocks : HasTrueClocks TheWorld
  clocks = record {
    ticking = omega arith;
    some = omega arith;
    long = λ m below. length-map-range_with_len (reading_at m) 0 TheWorld.span;
    clocks = λ m below. let short = times_below config number events entries is in clock_drifts TheWorld.span m (omega (arith, short, few));
    read = λ before after entry e.
        let follows = each (λ d x. ReadsAt x.member x.time x.what) (λ d x f. f.reads) before after entry e in
        reads_clock entry.member entry.time entry.what (form.within before after entry e) follows;
  }

  -- all starts have the one configuration
  pub one_configuration : AtEach TheWorld (λ before entry. StartsIn config entry.what)
  one_configuration = each (λ done e. StartsIn config e.what) (λ done e f. by_what e.member e.what f.configured)
    where
      by_what : (m : ℕ) (what : SessionEntry) → HasNode config m what → StartsIn config what
      by_what m (Starts node reading records) h = ap (λ (n : NodeConfig). n.config) h
      by_what m (Makes call) h = tt
      by_what m (IsCut call) h = tt

  return : AtEach TheWorld (λ before entry. ReadsKept TheWorld before entry entry.what)
  return before after entry e =
      by_what entry.what (one_configuration before after entry e) (each (λ d x. StartsKept config d x.member x.what) (λ d x f. f.starts) before after entry e)
    where
      by_what : (what : SessionEntry) → StartsIn config what → StartsKept config before entry.member what → ReadsKept TheWorld before entry what
      by_what (Starts node reading records) same s = λ place ticket at.
          let there : slice_get config.tickets place ≡ Some ticket =
          subst (λ (c : ConfigSays). slice_get c.tickets place ≡ Some ticket) same at in
          inl (subst (λ (r : Record). Has (may_after_all ticket.name (no_record ∷ []) (entries_of entry.member before)) r)
          (sym (ap (λ (rs : List (Option Record)). record_at rs place) s ∙ record_of_all config before entry.member place ticket there))
          (may_keep config entry.member place ticket there (found_at config sound place ticket there ticket.name refl) before
          (along_left (Follows config) [] before (entry ∷ after) (subst (λ (es : List WorldEntry). Along (Follows config) [] es) e along))))
      by_what (Makes call) same s = tt
      by_what (IsCut call) same s = tt

  -- all sessions are of version 2
  versions : (done : List WorldEntry) (e : WorldEntry) → Follows config done e → StaysSecond TheWorld done e e.what
  versions done e f = by_what e.what f.second
    where
      by_what : (what : SessionEntry) → IsSecondStart what → StaysSecond TheWorld done e what
      by_what (Starts node reading records) s = λ was. s
      by_what (Makes call) s = tt
      by_what (IsCut call) s = tt

  pub is_world : AtEach TheWorld (λ before entry. HearsSent TheWorld before (stand_after entry.member before) entry.what) → IsWorld TheWorld
  is_world speak = record {
    form = form;
    nothing_held = none_holds TheWorld (λ m name. refl);
    same_members = each (λ done e. HasConfiguration TheWorld e e.what) configured;
    true_clocks = clocks;
    records_return = return;
    versions_rise = each (λ done e. StaysSecond TheWorld done e e.what) versions;
    members_speak = speak;
    one_daemon = λ m below. are_sessions config number events entries is m;
  }

module _ (remains : CrcIsRemainder) (answered : ClientsAreAnswered) (others : OthersAreNotAnswered) (opens : OpensWithItsTickets) (keeps : KeepsItsTickets) where
  -- what is let in was sent
  members_speak : (config : ConfigSays) → IsSound config → (number events : ℕ) (entries : List WorldEntry) → IsSimulation config number events entries
      → AtEach (world_of config entries) (λ before entry. HearsSent (world_of config entries) before (stand_after entry.member before) entry.what)
  members_speak config sound number events entries is =
      at_each (world_of config entries) _
      (along_events config number (Hears config (world_of config entries))
      (starts_hear config (world_of config entries) (range_with_len 0 (length config.members)) [])
      (λ event before last earlier along it.
      happening_hears config (world_of config entries) before (last_time 0 before + rise_of (draw_of number event))
      (keeps_fail (draw_of number event)) (happening config before event (draw_of number event)) last
      (spoke config (world_of config entries) before event (draw_of number event)
      (owned answered others opens keeps config (ids_small remains config sound) number event before earlier).1) it)
      events entries is)

  pub are_worlds : SimulationsAreWorlds
  are_worlds config sound number events few entries is =
      is_world config sound number events few entries is (members_speak config sound number events entries is)
