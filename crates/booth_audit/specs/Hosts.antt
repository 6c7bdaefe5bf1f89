-- A host that replays a journal, and a turn with it.
use Rattle.std.specs.Prelude.{◌≡◌, ◌≤◌, ◌+◌, ◌^◌, ℕ, List, length, Option, Some}
use Rattle.booth_base.specs.Tree.{Ends}
use Rattle.booth_host.specs.declared.entry.Entry.{Entry}
use Rattle.booth_journal.specs.Says.{Said, Says}
use Rattle.booth_node.specs.declared.node.Turn.{Turn}
use Rattle.booth_node.specs.declared.node_config.NodeConfig.{NodeConfig}
use Rattle.booth_node.specs.Reaction.{IsTurn}
use Rattle.booth_node.specs.Session.{Doing}
use Rattle.booth_node.specs.State.{State}
use Rattle.booth_audit.specs.declared.end.End.{End}
use Rattle.booth_audit.specs.Left.{LinesLeft}
use Rattle.booth_audit.specs.Reads.{Reads}
use Rattle.booth_audit.specs.Turns.{IsReplayOf}

-- The part of the host that contracts see.
pub record Seen : Type 0 where
  pub place : LinesLeft
  pub past : Option (List Entry)

-- The lines that the host has read so far, for these entries.
pub record HasRead (text : List ℕ) (line : ℕ) (left : List Said) (place : LinesLeft) (entries : List Entry)
    : Type 0 where
  pub then_left : List Said
  pub says : Says place.rest then_left
  pub within : place.line + length place.rest ≤ line + length text
  pub bound : line + length text ≤ 2 ^ 63
  pub reads : Reads entries line left place.end place.line then_left

-- The host has read the lines for its recorded calls, as long as it records its calls.
abbrev pub IsReplay : List ℕ → ℕ → Seen → Type 0
IsReplay text line seen =
    (entries : List Entry) → seen.past ≡ Some entries → (left : List Said) → Says text left
    → HasRead text line left seen.place entries

-- ---- a turn

-- A turn from one state to another, replayed over a text with these calls, the first of which is at this line. After
-- the turn these bytes are left, from this line on. The lines ended in this way, or have not ended, and the host has
-- recorded all calls.
pub record IsTurned (node : NodeConfig) (old new : State) (text : List ℕ) (line : ℕ) (left : List Said)
    (rest : List ℕ) (at : ℕ) (end : Option End) (past : Option (List Entry)) : Type 0 where
  pub entries : List Entry
  pub then_left : List Said
  pub turn : Turn
  pub is : IsTurn node old turn entries new
  pub told : past ≡ Some entries
  pub says : Says rest then_left
  pub within : at + length rest ≤ line + length text
  pub replays : IsReplayOf node (Doing node (Ends old)) (Doing node (Ends new)) entries line left end at then_left
