-- A replayed turn in the replay of its journal.
use Rattle.std.specs.Prelude.{◌≡◌, ◌+◌, ◌*◌, ℕ, List, [], ◌∷◌, ◌++◌, length, map}
use Rattle.std.specs.Prelude.{Option, None, Some}
use Rattle.booth_base.specs.Tree.{Ends}
use Rattle.booth_host.specs.declared.entry.Entry.{Entry}
use Rattle.booth_host.specs.declared.entry.Entry.TheVariants as entries
use Rattle.booth_journal.specs.Says.{Said}
use Rattle.booth_node.specs.declared.node.Turn.{Turn}
use Rattle.booth_node.specs.declared.node_config.NodeConfig.{NodeConfig}
use Rattle.booth_node.specs.Reaction.{IsTurn}
use Rattle.booth_node.specs.Session.{AreSessions, CutCall, CutKeep, CutNext, CutNow, CutSend, CutStart, Doing, IsCut}
use Rattle.booth_node.specs.Session.{Makes, MayBeCut, SessionEntry, Stand, after_entries}
use Rattle.booth_node.specs.State.{State}
use Rattle.booth_audit.specs.declared.end.End.{End}
use Rattle.booth_audit.specs.declared.end.End.TheVariants.{Over, Cut, Differs}
use Rattle.booth_audit.specs.Reads.{Reads}
use Rattle.booth_audit.specs.Replay.{Event, Going, Idle, Replayed, replayed, with_event}

-- ---- events

-- Entries as events, the first of which is at this line. Each has two lines.
abbrev pub events_from : ℕ → List Entry → List Event
events_from line [] = []
events_from line (entry ∷ entries) = record { what = Makes entry; line = line } ∷ events_from (line + 2) entries

-- The replay with these events, and then the others.
abbrev pub with_events : List Event → Replayed → Replayed
with_events [] rest = rest
with_events (event ∷ events) rest = with_event event (with_events events rest)

abbrev pub made_by : List Entry → List SessionEntry
made_by entries = map (λ (entry : Entry). Makes entry) entries

-- The call of an entry of a turn, as an interrupted call.
abbrev pub cut_of : Entry → CutCall
cut_of (entries.Now reading) = CutNow
cut_of (entries.Send to bytes answer) = CutSend to bytes
cut_of (entries.Keep ticket kept answer) = CutKeep ticket kept
cut_of (entries.Start number ticket handler local expires answer) =
    CutStart (record { number = number; ticket = ticket; handler = handler; local = local; expires = expires })
cut_of entry = CutNext

-- ---- the continuation of a replay

-- The next call has no answer, and is the last of its session. It is the call of the first of these entries.
pub record IsCutHere (node : NodeConfig) (stand : Stand) (at : ℕ) (left : List Said) (unread : List Entry)
    (rest : Replayed) : Type 0 where
  pub said : Said
  pub more : List Said
  pub first : Entry
  pub later : List Entry
  pub is : left ≡ said ∷ more
  pub asked : unread ≡ first ∷ later
  pub may : MayBeCut stand (cut_of first)
  pub on : rest ≡ with_event (record { what = IsCut (cut_of first); line = at }) (replayed node Idle (at + 1) more)

-- The replay from a member's state, after the lines of its session ended in this way, or before they ended. These
-- entries were not read.
abbrev pub GoesOn : NodeConfig → Stand → Option End → ℕ → List Said → List Entry → Replayed → Type 0
GoesOn node stand None at left unread rest = (unread ≡ []) × (rest ≡ replayed node (Going stand) at left)
GoesOn node stand (Some Over) at left unread rest = rest ≡ replayed node Idle at left
GoesOn node stand (Some Cut) at left unread rest = IsCutHere node stand at left unread rest
GoesOn node stand (Some Differs) at left unread rest = rest ≡ record { events = []; strays = Some at }

-- Entries, the first of which were read. The replay has these as events, and continues in the way in which the lines
-- ended.
pub record IsReplayOf (node : NodeConfig) (old new : Stand) (entries : List Entry) (line : ℕ) (left : List Said)
    (end : Option End) (at : ℕ) (then_left : List Said) : Type 0 where
  pub read : List Entry
  pub unread : List Entry
  pub rest : Replayed
  pub whole : entries ≡ read ++ unread
  pub is : replayed node (Going old) line left ≡ with_events (events_from line read) rest
  pub count : at ≡ line + 2 * length read
  pub on : GoesOn node (after_entries old (made_by read)) end at then_left unread rest
  pub sessions : AreSessions old (made_by read)
  pub all : end ≡ None → after_entries old (made_by read) ≡ new

-- ---- turns

-- A turn of a member with a host that replays lines equals the replay of these lines.
abbrev pub TurnsAreReplayed : Type 0
TurnsAreReplayed =
    (node : NodeConfig) (old new : State) (turn : Turn) (entries : List Entry) (line : ℕ) (left : List Said)
    (end : Option End) (at : ℕ) (then_left : List Said) → IsTurn node old turn entries new
    → Reads entries line left end at then_left
    → IsReplayOf node (Doing node (Ends old)) (Doing node (Ends new)) entries line left end at then_left
