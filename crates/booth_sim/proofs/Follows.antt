-- What each entry of a simulation is, beside those before it.
use Rattle.std.proofs.Common.{◌≡◌, ℕ, ◌<◌, ◌≤◌, Bool, List, [], ◌∷◌, ◌++◌, length, refl, sym, subst, arith}
use Rattle.std.specs.Prelude.{Option, Ok}
use Rattle.booth_keys.specs.declared.ring.Ring.{Ring}
use Rattle.booth_base.specs.Tree.{Deeds, Ends, Does, Leads}
use Rattle.booth_conf.specs.Config.{ConfigSays}
use Rattle.booth_host.specs.declared.entry.Entry.{Entry}
use Rattle.booth_host.specs.declared.entry.Entry.TheVariants as calls
use Rattle.booth_node.specs.Reaction.{Ask, Send, Keep, Start, IsDone, react, used}
use Rattle.booth_node.specs.Session.{SessionEntry, Starts, Makes}
use Rattle.booth_node.specs.State.{State}
use Rattle.booth_node.specs.World.{WorldEntry, last_time, IsSecondStart}
use Rattle.booth_sim.proofs.AlongWorlds.{Along}
use Rattle.booth_sim.specs.Happenings.{Happening, Turns, Restarts, reading_at}
use Rattle.booth_sim.specs.Kept.{all_kept}
use Rattle.booth_sim.specs.Simulation.{IsHappening, entry_at, made_at, node_in}
use Rattle.booth_sim.proofs.Entries.{time_of_last}

abbrev pub ReadsAt : ℕ → ℕ → SessionEntry → Type 0
ReadsAt place time (Starts node reading records) = reading ≡ reading_at place time
ReadsAt place time (Makes (calls.Now reading)) = reading ≡ reading_at place time
ReadsAt place time what = Unit {0}

abbrev pub StartsKept : ConfigSays → List WorldEntry → ℕ → SessionEntry → Type 0
StartsKept config before place (Starts node reading records) = records ≡ all_kept config.tickets place before
StartsKept config before place what = Unit {0}

-- a start is of the node of its place
abbrev pub HasNode : ConfigSays → ℕ → SessionEntry → Type 0
HasNode config place (Starts node reading records) = node ≡ node_in config place
HasNode config place what = Unit {0}

pub record Follows (config : ConfigSays) (before : List WorldEntry) (entry : WorldEntry) : Type 0 where
  pub member : entry.member < length config.members
  pub order : last_time 0 before ≤ entry.time
  pub configured : HasNode config entry.member entry.what
  pub second : IsSecondStart entry.what
  pub reads : ReadsAt entry.member entry.time entry.what
  pub starts : StartsKept config before entry.member entry.what

-- a call that is no reading follows
calls_follow : (config : ConfigSays) (before : List WorldEntry) (place time : ℕ) (call : Entry) → place < length config.members
    → last_time 0 before ≤ time → ReadsAt place time (Makes call) → Follows config before (entry_at place time (Makes call))
calls_follow config before place time call below order reads =
    record { member = below; order = order; configured = tt; second = tt; reads = reads; starts = tt }

no_reading : (place time : ℕ) (ring : Option Ring) (ask : Ask) (ok : Bool) (call : Entry) → IsDone ring ask ok call
    → ReadsAt place time (Makes call)
no_reading place time ring (Send peer message) ok (calls.Send to bytes answer) d = tt
no_reading place time ring (Keep name tried) ok (calls.Keep ticket rec answer) d = tt
no_reading place time ring (Start job) ok (calls.Start number ticket handler local expires answer) d = tt
no_reading place time ring (Send peer message) ok call d = absurd d
no_reading place time ring (Keep name tried) ok call d = absurd d
no_reading place time ring (Start job) ok call d = absurd d

deeds_follow : (config : ConfigSays) (place time : ℕ) (ring : Option Ring) (deeds left : Deeds Ask State) (entries : List Entry)
    (before : List WorldEntry) → place < length config.members → last_time 0 before ≤ time → Leads (IsDone ring) deeds entries left
    → Along (Follows config) before (made_at place time entries)
deeds_follow config place time ring deeds left [] before below order leads = tt
deeds_follow config place time ring (Ends state) left (call ∷ entries) before below order leads = absurd leads
deeds_follow config place time ring (Does ask go) left (call ∷ entries) before below order leads =
    let e : WorldEntry = entry_at place time (Makes call) in
    let at : last_time 0 (before ++ e ∷ []) ≡ time = time_of_last 0 before e in (
      calls_follow config before place time call below order (no_reading place time ring ask leads.0 call leads.1),
      deeds_follow config place time ring (go leads.0) left entries (before ++ e ∷ []) below (omega (arith, at)) leads.2,
    )

-- it happens at a member
abbrev pub PlaceIs : ConfigSays → Happening → Type 0
PlaceIs config (Turns place arrival bytes) = place < length config.members
PlaceIs config (Restarts place) = place < length config.members

-- the entries of what happens follow
pub happening_follows : (config : ConfigSays) (before : List WorldEntry) (time : ℕ) (fails : Bool) (what : Happening) (last : List WorldEntry)
    → PlaceIs config what → last_time 0 before ≤ time → IsHappening config before time fails what last → Along (Follows config) before last
happening_follows config before time fails (Turns place arrival bytes) last below order is =
    let next : WorldEntry = entry_at place time (Makes (calls.Next 100 (Ok arrival) bytes)) in
    let at : last_time 0 (before ++ next ∷ []) ≡ time = time_of_last 0 before next in
    let now : WorldEntry = entry_at place time (Makes (calls.Now (reading_at place time))) in
    let later : last_time 0 ((before ++ next ∷ []) ++ now ∷ []) ≡ time = time_of_last 0 (before ++ next ∷ []) now in
    subst (λ (es : List WorldEntry). Along (Follows config) before es) (sym is.whole) (
      calls_follow config before place time _ below order tt,
      (
        calls_follow config (before ++ next ∷ []) place time _ below (omega (arith, at)) refl,
        deeds_follow config place time (node_in config place).ring
            (react (node_in config place) is.old (used is.old.last_reading (reading_at place time)) (Ok arrival) bytes) (Ends is.new) is.deeds ((before ++ next ∷ []) ++ now ∷ []) below (omega (arith, later)) is.turn.2,
      ),
    )
happening_follows config before time fails (Restarts place) last below order is =
    subst (λ (es : List WorldEntry). Along (Follows config) before es) (sym is)
    (record { member = below; order = order; configured = refl; second = refl; reads = refl; starts = refl }, tt)
