-- The messages that a member received from others: the datagrams with messages between members that its turns
-- accepted.
use Rattle.std.specs.Prelude.{◌≡◌, ◌↔◌, ◌≤◌, ◌-◌, ◌++◌, ℕ, Bool, true, false, List, [], ◌∷◌}
use Rattle.std.specs.Prelude.{Option, None, Some, Result, Ok, Err, IfOk, if◌then◌else◌}
use Rattle.std.specs.List.{All}
use Rattle.booth_auth.specs.declared.admission.DropFault.{DropFault}
use Rattle.booth_auth.specs.Verdict.{verdict}
use Rattle.booth_host.specs.declared.host.Arrival.{Arrival}
use Rattle.booth_host.specs.declared.host.Arrival.TheVariants as arrivals
use Rattle.booth_host.specs.declared.host.Failed.{Failed}
use Rattle.booth_host.specs.declared.entry.Entry.TheVariants as entries
use Rattle.booth_journal.specs.Says.{Said}
use Rattle.booth_node.specs.declared.node_config.NodeConfig.{NodeConfig}
use Rattle.booth_node.specs.Reaction.{used}
use Rattle.booth_node.specs.Session.{AreSessions, CutCall, Down, IsCut, Makes, SessionEntry, Starts}
use Rattle.booth_rec.specs.declared.record.Record.{Record}
use Rattle.booth_wire.specs.declared.command.Direction.{Direction}
use Rattle.booth_wire.specs.declared.command.Direction.TheVariants.{BetweenMembers}
use Rattle.booth_wire.specs.Command.{direction_of}
use Rattle.booth_wire.specs.PlainMessage.{PlainMessage}
use Rattle.booth_wire.specs.Reading.{decoded}
use Rattle.booth_audit.specs.declared.hearings.Hears.{Hears}
use Rattle.booth_audit.specs.Faults.{AllHearSent, FirstUnsent, Heard, WasSent}
use Rattle.booth_audit.specs.Holdings.{used_after}
use Rattle.booth_audit.specs.Noted.{MemberSays}
use Rattle.booth_audit.specs.Own.{AllOwn}
use Rattle.booth_audit.specs.Replay.{Event, deeds_of, replay}

-- The bytes of a datagram that arrived with the last call and is not judged yet, and the accepted messages in the
-- order of the lines.
pub record Hearings : Type 0 where
  pub waiting : Option (List ℕ)
  pub all : List Hears

abbrev pub nothing_heard : Hearings
nothing_heard = record { waiting = None; all = [] }

-- ---- one event

abbrev pub is_between : Direction → Bool
is_between BetweenMembers = true
is_between direction = false

abbrev pub is_members : Result PlainMessage DropFault → Bool
is_members (Ok message) = is_between (direction_of message.head.cmd)
is_members (Err fault) = false

-- The gate accepts a message between members at this reading.
abbrev pub lets_in : NodeConfig → ℕ → List ℕ → Bool
lets_in node now bytes = is_members (verdict node.config node.ring node.me now bytes)

-- The message that is accepted when the clock is read, at this line, if a datagram waits. The datagram arrived with
-- the answer one line before.
abbrev pub let_in : NodeConfig → ℕ → ℕ → Option (List ℕ) → List Hears
let_in node now line None = []
let_in node now line (Some bytes) =
    if lets_in node now bytes then record { bytes = bytes; line = line - 1 } ∷ [] else []

-- The bytes of a datagram that arrived.
abbrev pub brought : Result Arrival Failed → List ℕ → Option (List ℕ)
brought (Ok (arrivals.Datagram from)) bytes = Some bytes
brought answer bytes = None

-- The datagram that waits after an event. It waits for the very next event only.
abbrev pub waits_after : SessionEntry → Option (List ℕ)
waits_after (Makes (entries.Next wait answer bytes)) = brought answer bytes
waits_after what = None

-- The message that an event at this line accepts, if this reading is in use before it.
abbrev pub heard_by : NodeConfig → ℕ → ℕ → SessionEntry → Option (List ℕ) → List Hears
heard_by node last line (Makes (entries.Now reading)) waiting = let_in node (used last reading) line waiting
heard_by node last line what waiting = []

abbrev pub hearings_noted : MemberSays → ℕ → Hearings → Event → Hearings
hearings_noted member last hearings event = record {
  waiting = waits_after event.what;
  all = hearings.all ++ heard_by member.node last event.line event.what hearings.waiting;
}

-- After a start, and after a call without an answer, no datagram waits.
abbrev pub IsPassed : Hearings → Hearings → Type 0
IsPassed old new =
    ((member : MemberSays) (last line : ℕ) (node : NodeConfig) (reading : ℕ) (records : List (Option Record))
    → new ≡ hearings_noted member last old (record { what = Starts node reading records; line = line }))
    × ((member : MemberSays) (last line : ℕ) (call : CutCall)
    → new ≡ hearings_noted member last old (record { what = IsCut call; line = line }))

-- ---- all events

-- The received messages after all events, if this reading is in use before them.
abbrev pub hearings_all : MemberSays → ℕ → Hearings → List Event → Hearings
hearings_all member last hearings [] = hearings
hearings_all member last hearings (event ∷ events) =
    hearings_all member (used_after last event.what) (hearings_noted member last hearings event) events

-- The messages that a member received, from all that it did.
abbrev pub heard_in : MemberSays → List Event → List Hears
heard_in member events = (hearings_all member 0 nothing_heard events).all

-- ---- noted messages, compared with sent messages

-- The message was sent by the member whose id it has.
abbrev pub IsSent : List Heard → Hears → Type 0
IsSent all hears = IfOk (decoded hears.bytes) (WasSent all)

-- Two properties of the sessions of one member. Each turn receives only sent messages exactly if each noted message
-- was sent. The first noted message that was not sent is the first unsent message that a turn receives.
pub record TellsUnsent (member : MemberSays) (events : List Event) (all : List Heard) : Type 0 where
  pub sent : AllHearSent all [] (deeds_of events) ↔ All (IsSent all) (heard_in member events)
  pub first : (before after : List Hears) (one : Hears) → heard_in member events ≡ before ++ one ∷ after
      → All (IsSent all) before → (IsSent all one → ⊥) → FirstUnsent all events one.line

-- The lines of a journal are counted from 1 on.
abbrev pub AreCounted : List Event → Type 0
AreCounted events = All (λ (event : Event). 1 ≤ event.line) events

abbrev pub HearingsAreDeeds : Type 0
HearingsAreDeeds =
    (member : MemberSays) (events : List Event) (all : List Heard) → AreSessions Down (deeds_of events)
    → AllOwn member.node (deeds_of events) → AreCounted events → TellsUnsent member events all

abbrev pub ReplaysAreCounted : Type 0
ReplaysAreCounted = (node : NodeConfig) (all : List Said) → AreCounted (replay node all).events
