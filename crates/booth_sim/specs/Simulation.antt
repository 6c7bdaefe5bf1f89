-- A simulation: the entries that follow from a configuration and a generator's words, and the world that they form.
use Rattle.std.specs.Prelude.{◌≡◌, ℕ, zero, suc, ◌+◌, ◌++◌, true, false, Bool, List, [], ◌∷◌, length, map, None, Ok, is_err}
use Rattle.std.specs.List.{range_with_len}
use Rattle.booth_base.specs.Tree.{Ends}
use Rattle.booth_conf.specs.Config.{ConfigSays}
use Rattle.booth_host.specs.declared.host.Arrival.{Arrival}
use Rattle.booth_host.specs.declared.entry.Entry.{Entry}
use Rattle.booth_host.specs.declared.entry.Entry.TheVariants as calls
use Rattle.booth_node.specs.declared.node.Turn.TheVariants.{Went}
use Rattle.booth_node.specs.declared.node_config.NodeConfig.{NodeConfig}
use Rattle.booth_node.specs.Reaction.{IsTurn}
use Rattle.booth_node.specs.Session.{SessionEntry, Starts, Makes, Doing}
use Rattle.booth_node.specs.State.{State}
use Rattle.booth_node.specs.World.{WorldEntry, World, id_at, last_time, stand_after, from_nothing}
use Rattle.booth_sim.specs.declared.drawing.Draw.{Draw}
use Rattle.booth_sim.specs.Drawing.{draw_of, keeps_fail, rise_of}
use Rattle.booth_sim.specs.Happenings.{Happening, Turns, Restarts, happening, reading_at}
use Rattle.booth_sim.specs.Kept.{all_kept}

-- ---- the world of entries

-- The readings of the clock of the member with this index, one for each true time of the span.
abbrev pub clock_of : ℕ → ℕ → List ℕ
clock_of span place = map (reading_at place) (range_with_len 0 span)

-- The world of these entries, with clocks up to the last entry.
abbrev pub world_of : ConfigSays → List WorldEntry → World
world_of config entries = record {
  members = config.members;
  ticks = 1;
  span = last_time 0 entries + 1;
  clock = clock_of (last_time 0 entries + 1);
  begins = λ m. from_nothing;
  entries = entries;
}

-- The node of the member with this index, without keys, by the rules of version 2.
abbrev pub node_in : ConfigSays → ℕ → NodeConfig
node_in config place = record { config = config; ring = None; me = id_at (world_of config []) place; second = true }

abbrev pub entry_at : ℕ → ℕ → SessionEntry → WorldEntry
entry_at place time what = record { member = place; time = time; what = what }

-- ---- starts

-- The member with this index starts at a true time, with the records that it wrote before.
abbrev pub start_at : ConfigSays → List WorldEntry → ℕ → ℕ → WorldEntry
start_at config before place time =
    entry_at place time (Starts (node_in config place) (reading_at place time) (all_kept config.tickets place before))

-- All members start at true time 0, one after the other, and have written nothing.
abbrev pub starts : ConfigSays → List WorldEntry
starts config = map (λ place. start_at config [] place 0) (range_with_len 0 (length config.members))

-- ---- events

-- Each write has the given result. Sends and starts of handlers do not fail.
abbrev pub IsAnswered : Bool → Entry → Type 0
IsAnswered fails (calls.Keep ticket rec answer) = is_err answer ≡ fails
IsAnswered fails (calls.Send to bytes answer) = is_err answer ≡ false
IsAnswered fails (calls.Start number ticket handler local expires answer) = is_err answer ≡ false
IsAnswered fails call = Unit {0}

abbrev pub AreAnswered : Bool → List Entry → Type 0
AreAnswered fails [] = Unit {0}
AreAnswered fails (call ∷ calls) = IsAnswered fails call × AreAnswered fails calls

-- The calls of a turn: the arrival, the reading, and the actions.
abbrev pub turn_calls : Arrival → List ℕ → ℕ → List Entry → List Entry
turn_calls arrival bytes reading deeds = calls.Next 100 (Ok arrival) bytes ∷ calls.Now reading ∷ deeds

-- The entries of a member that makes these calls at a true time.
abbrev pub made_at : ℕ → ℕ → List Entry → List WorldEntry
made_at place time calls = map (λ call. entry_at place time (Makes call)) calls

-- These are the entries of a turn of the member with this index, from its current state.
pub record IsTurnAt (config : ConfigSays) (before : List WorldEntry) (place time : ℕ) (fails : Bool)
    (arrival : Arrival) (bytes : List ℕ) (entries : List WorldEntry) : Type 0 where
  pub old : State
  pub new : State
  pub deeds : List Entry
  pub stands : stand_after place before ≡ Doing (node_in config place) (Ends old)
  pub turn : IsTurn (node_in config place) old Went (turn_calls arrival bytes (reading_at place time) deeds) new
  pub answered : AreAnswered fails deeds
  pub whole : entries ≡ made_at place time (turn_calls arrival bytes (reading_at place time) deeds)

-- These are the entries of an event at a true time.
abbrev pub IsHappening : ConfigSays → List WorldEntry → ℕ → Bool → Happening → List WorldEntry → Type 0
IsHappening config before time fails (Turns place arrival bytes) entries =
    IsTurnAt config before place time fails arrival bytes entries
IsHappening config before time fails (Restarts place) entries = entries ≡ start_at config before place time ∷ []

-- These are the entries of the event with this number and these draws.
abbrev pub IsEvent : ConfigSays → List WorldEntry → ℕ → Draw → List WorldEntry → Type 0
IsEvent config before event draw entries =
    IsHappening config before (last_time 0 before + rise_of draw) (keeps_fail draw)
    (happening config before event draw) entries

-- The entries of this many events of a seed. Each event follows the events before it.
abbrev pub IsSimulation : ConfigSays → ℕ → ℕ → List WorldEntry → Type 0
IsSimulation config number zero entries = entries ≡ starts config
IsSimulation config number (suc event) entries =
    (before : List WorldEntry) × (last : List WorldEntry) × (entries ≡ before ++ last)
    × IsSimulation config number event before
    × IsEvent config before event (draw_of number event) last
