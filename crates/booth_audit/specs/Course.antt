-- The replay of a journal, start by start and session by session.
use Rattle.std.specs.Prelude.{◌≡◌, ◌<◌, ◌≤◌, ◌+◌, ◌-◌, ◌/◌, ◌++◌, ℕ, Bool, true, false, List, [], ◌∷◌}
use Rattle.std.specs.Prelude.{length, map, Option, None, Some}
use Rattle.booth_base.specs.Tree.{Ends}
use Rattle.booth_conf.specs.declared.tickets.TicketConf.{TicketConf}
use Rattle.booth_host.specs.declared.entry.Entry.{Entry}
use Rattle.booth_rec.specs.declared.record.Record.{Record}
use Rattle.booth_journal.specs.declared.said.Call.{Call}
use Rattle.booth_journal.specs.declared.said.Call.TheVariants as calls
use Rattle.booth_journal.specs.Says.{Said, Says}
use Rattle.booth_node.specs.declared.node_config.NodeConfig.{NodeConfig}
use Rattle.booth_node.specs.Opening.{opened}
use Rattle.booth_node.specs.Session.{AreSessions, Doing, Down, IsCut, Stand, Starts, after_entries}
use Rattle.booth_node.specs.State.{State}
use Rattle.booth_audit.specs.declared.end.End.{End}
use Rattle.booth_audit.specs.declared.end.End.TheVariants.{Over, Cut, Differs}
use Rattle.booth_audit.specs.Left.{LinesLeft}
use Rattle.booth_audit.specs.Noted.{MemberSays}
use Rattle.booth_audit.specs.Replay.{Event, Going, Idle, Replayed, Starting}
use Rattle.booth_audit.specs.Replay.{deeds_of, replayed, start_calls, with_event}
use Rattle.booth_audit.specs.Tally.{Tally, nothing_tallied, tallied, tallied_all}
use Rattle.booth_audit.specs.Turns.{cut_of, events_from, with_events}

-- ---- the rest of the text

-- These calls are left in a text: these bytes, from this line on, spell them.
pub record AreLeft (text : List ℕ) (line : ℕ) (rest : List ℕ) (at : ℕ) (left : List Said) : Type 0 where
  pub says : Says rest left
  pub within : at + length rest ≤ line + length text
  pub no_longer : length rest ≤ length text

-- The replay after a session: the next call was not demanded, or no session is under way.
abbrev pub after_session : NodeConfig → Bool → ℕ → List Said → Replayed
after_session node true at left = record { events = []; strays = Some at }
after_session node false at left = replayed node Idle at left

-- The replay of a text from some place on has these events, and then its session is over.
pub record IsOver (node : NodeConfig) (whole : Replayed) (events : List Event) (text : List ℕ) (line : ℕ)
    (strays : Bool) (rest : List ℕ) (at : ℕ) : Type 0 where
  pub then_left : List Said
  pub left : AreLeft text line rest at then_left
  pub is : whole ≡ with_events events (after_session node strays at then_left)

-- ---- starts

abbrev pub kept_calls : List TicketConf → List Call
kept_calls tickets = map (λ (ticket : TicketConf). calls.Kept ticket.name) tickets

-- The replay of a start that has read these records and must still make these calls. Its next call is at this line.
-- If no call is left to make, the session begins there.
abbrev pub start_on : NodeConfig → ℕ → List (Option Record) → List Call → ℕ → List Said → Replayed
start_on node reading records [] line left =
    with_event (record { what = Starts node reading records; line = line - 2 })
    (replayed node (Going (Doing node (Ends (opened node records reading)))) line left)
start_on node reading records (call ∷ more) line left =
    replayed node (Starting reading records (call ∷ more)) line left

-- The replay of a start without a session: its lines ended in this way, or one of its calls failed.
abbrev pub IsNone : NodeConfig → Option End → ℕ → List Said → Replayed → Type 0
IsNone node None line left whole = whole ≡ replayed node Idle line left
IsNone node (Some Over) line left whole = whole ≡ replayed node Idle line left
IsNone node (Some Cut) line left whole =
    (said : Said) × (rest : List Said) × (left ≡ said ∷ rest) × (whole ≡ replayed node Idle (line + 1) rest)
IsNone node (Some Differs) line left whole = whole ≡ record { events = []; strays = Some line }

-- A start has read all records, or it has no session.
abbrev pub IsStarted : NodeConfig → ℕ → Option (List (Option Record)) → LinesLeft → List Said → Replayed
    → Type 0
IsStarted node reading None place left whole = IsNone node place.end place.line left whole
IsStarted node reading (Some records) place left whole =
    (length records ≡ length node.config.tickets)
    × (whole ≡ start_on node reading records [] place.line left)

-- The state of a start that was read up to this place.
pub record HasStarted (node : NodeConfig) (reading : ℕ) (whole : Replayed) (records : Option (List (Option Record)))
    (old new : LinesLeft) : Type 0 where
  pub then_left : List Said
  pub left : AreLeft old.rest old.line new.rest new.line then_left
  pub started : IsStarted node reading records new then_left whole

-- ---- after a session

-- The text that is still to be read after the lines of a session ended in this way at this line. A call without an
-- answer is skipped.
abbrev pub IsBehind : Option End → List ℕ → ℕ → Bool → List ℕ → ℕ → Type 0
IsBehind (Some Cut) rest line strays behind at =
    (strays ≡ false) × (at ≡ line + 1)
    × ((said : Said) (more : List Said) → Says rest (said ∷ more)
    → Says behind more × (length behind + 1 ≤ length rest))
IsBehind (Some Differs) rest line strays behind at = (strays ≡ true) × (at ≡ line) × (behind ≡ rest)
IsBehind end rest line strays behind at = (strays ≡ false) × (at ≡ line) × (behind ≡ rest)

-- ---- turns

-- The calls that a turn records, in two parts. The first part has this many entries.
abbrev pub ArePartsOf : Option (List Entry) → ℕ → List Entry → List Entry → Type 0
ArePartsOf past count read unread = (past ≡ Some (read ++ unread)) × (length read ≡ count)

-- The tally with the interrupted call, which is at this line.
abbrev pub cut_tallied : MemberSays → Option End → ℕ → List Entry → Tally → Tally
cut_tallied member (Some Cut) line (first ∷ later) tally =
    tallied member tally (record { what = IsCut (cut_of first); line = line })
cut_tallied member end line unread tally = tally

-- The tally of the calls of a turn that begins at one line and ends at another.
pub record IsTurnTallied (member : MemberSays) (end : Option End) (line at : ℕ) (past : Option (List Entry))
    (old new : Tally) : Type 0 where
  pub read : List Entry
  pub unread : List Entry
  pub parts : ArePartsOf past ((at - line) / 2) read unread
  pub tallied : new ≡ cut_tallied member end at unread (tallied_all member old (events_from line read))

-- ---- sessions

-- The turns of a member from this state on, up to the end of its session, and the tally at that point.
pub record IsSession (member : MemberSays) (state : State) (text : List ℕ) (line : ℕ) (left : List Said)
    (old new : Tally) (strays : Bool) (rest : List ℕ) (at : ℕ) : Type 0 where
  pub events : List Event
  pub over : IsOver member.node (replayed member.node (Going (Doing member.node (Ends state))) line left) events
      text line strays rest at
  pub sessions : AreSessions (Doing member.node (Ends state)) (deeds_of events)
  pub tallied : new ≡ tallied_all member old events

-- The turns so far, which left the member in another state.
pub record IsGoing (member : MemberSays) (first state : State) (text : List ℕ) (line : ℕ) (left : List Said)
    (old new : Tally) (rest : List ℕ) (at : ℕ) : Type 0 where
  pub events : List Event
  pub then_left : List Said
  pub still : AreLeft text line rest at then_left
  pub is : replayed member.node (Going (Doing member.node (Ends first))) line left
      ≡ with_events events (replayed member.node (Going (Doing member.node (Ends state))) at then_left)
  pub sessions : AreSessions (Doing member.node (Ends first)) (deeds_of events)
  pub stands : after_entries (Doing member.node (Ends first)) (deeds_of events) ≡ Doing member.node (Ends state)
  pub tallied : new ≡ tallied_all member old events

-- The calls of a member. At their first place the member is down or starts, and at their last place no session is
-- under way.
pub record IsRun (member : MemberSays) (whole : Replayed) (text : List ℕ) (line : ℕ) (old new : Tally)
    (strays : Bool) (rest : List ℕ) (at : ℕ) : Type 0 where
  pub events : List Event
  pub over : IsOver member.node whole events text line strays rest at
  pub sessions : (stand : Stand) → AreSessions stand (deeds_of events)
  pub tallied : new ≡ tallied_all member old events

-- The replay of a start that read its clock with this result.
abbrev pub started_at : NodeConfig → ℕ → ℕ → List Said → Replayed
started_at node reading line left = replayed node (Starting reading [] (start_calls node)) line left

-- The next start with its session, when no session is under way. The start reads a line, or its call was not
-- demanded.
pub record IsNext (member : MemberSays) (text : List ℕ) (line : ℕ) (left : List Said) (old new : Tally)
    (strays : Bool) (rest : List ℕ) (at : ℕ) : Type 0 where
  pub run : IsRun member (replayed member.node Idle line left) text line old new strays rest at
  pub shorter : strays ≡ false → length rest < length text

-- ---- journals

-- The sessions of a journal so far. No session is under way after them.
pub record IsIdle (member : MemberSays) (text : List ℕ) (all : List Said) (tally : Tally) (rest : List ℕ) (at : ℕ)
    : Type 0 where
  pub events : List Event
  pub then_left : List Said
  pub still : AreLeft text 1 rest at then_left
  pub is : replayed member.node Idle 1 all ≡ with_events events (replayed member.node Idle at then_left)
  pub sessions : AreSessions Down (deeds_of events)
  pub tallied : tally ≡ tallied_all member (nothing_tallied member.node.config.tickets) events

-- The content of a whole journal about its member, up to the first call that was not demanded, and its tally.
pub record IsReplayed (member : MemberSays) (all : List Said) (strays : Option ℕ) (tally : Tally) : Type 0 where
  pub events : List Event
  pub is : replayed member.node Idle 1 all ≡ record { events = events; strays = strays }
  pub sessions : AreSessions Down (deeds_of events)
  pub tallied : tally ≡ tallied_all member (nothing_tallied member.node.config.tickets) events
