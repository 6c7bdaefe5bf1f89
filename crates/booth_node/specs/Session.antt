-- The actions of a member over time: its sessions. Each session is a start and then calls of turns, and may be cut
-- off after any call.
use Rattle.std.specs.Prelude.{◌≡◌, ℕ, Bool, true, List, [], ◌∷◌, length, Option, Result, is_ok}
use Rattle.booth_base.specs.declared.address.Peer.{Peer}
use Rattle.booth_base.specs.Tree.{Deeds, Ends, Does}
use Rattle.booth_rec.specs.declared.record.Record.{Record}
use Rattle.booth_wire.specs.Spelling.{Fits}
use Rattle.booth_auth.specs.Sealed.{sealed}
use Rattle.booth_host.specs.declared.host.Failed.{Failed}
use Rattle.booth_host.specs.declared.host.Arrival.{Arrival}
use Rattle.booth_host.specs.declared.host.Job.{Job}
use Rattle.booth_host.specs.declared.entry.Entry.{Entry}
use Rattle.booth_host.specs.declared.entry.Entry.TheVariants as calls
use Rattle.booth_node.specs.declared.node_config.NodeConfig.{NodeConfig}
use Rattle.booth_node.specs.Opening.{opened}
use Rattle.booth_node.specs.Reaction.{Ask, Send, Keep, Start, IsDone, used, react}
use Rattle.booth_node.specs.State.{State}

-- ---- entries

-- A call of a turn that was interrupted before its answer.
pub data CutCall : Type 0 where
  CutNext : CutCall
  CutNow : CutCall
  CutSend : (to : Peer) (bytes : List ℕ) → CutCall
  CutKeep : (ticket : List ℕ) (tried : Record) → CutCall
  CutStart : (job : Job) → CutCall

-- An action of a member. It starts, in its node's version, with one clock reading and the record of each ticket, as
-- it read them, in file order. Or it makes a call, with its answer. Or it makes an interrupted call, which is the
-- last of its session.
pub data SessionEntry : Type 0 where
  Starts : (node : NodeConfig) (reading : ℕ) (records : List (Option Record)) → SessionEntry
  Makes : (call : Entry) → SessionEntry
  IsCut : (call : CutCall) → SessionEntry

-- ---- the state of the member afterwards

-- The state of a member. `Down`: it does not run. `Doing`: these actions of its turn remain, or none between two turns.
-- `Hearing`: it has the answer of a `next`, and must read its clock.
pub data Stand : Type 0 where
  Down : Stand
  Doing : (node : NodeConfig) (deeds : Deeds Ask State) → Stand
  Hearing : (node : NodeConfig) (old : State) (answer : Result Arrival Failed) (bytes : List ℕ) → Stand

-- Whether a call succeeded. Only sends, writes and starts can fail.
abbrev pub did : Entry → Bool
did (calls.Send to bytes answer) = is_ok answer
did (calls.Keep ticket rec answer) = is_ok answer
did (calls.Start number ticket handler local expires answer) = is_ok answer
did call = true

-- The condition of a call. A `next` with a wait of 100 ms begins a turn, then the clock is read, and then each action
-- of the turn is done.
abbrev pub MayMake : Stand → Entry → Type 0
MayMake (Doing node (Ends old)) (calls.Next wait answer bytes) = wait ≡ 100
MayMake (Doing node (Does ask go)) call = IsDone node.ring ask (did call) call
MayMake (Hearing node old answer bytes) (calls.Now reading) = Unit {0}
MayMake stand call = ⊥

abbrev pub after_call : Stand → Entry → Stand
after_call (Doing node (Ends old)) (calls.Next wait answer bytes) = Hearing node old answer bytes
after_call (Doing node (Does ask go)) call = Doing node (go (did call))
after_call (Hearing node old answer bytes) (calls.Now reading) =
    Doing node (react node old (used old.last_reading reading) answer bytes)
after_call stand call = stand

-- The interrupted call is the next call.
abbrev pub IsNextDeed : NodeConfig → Ask → CutCall → Type 0
IsNextDeed node (Send peer message) (CutSend to bytes) = (to ≡ peer) × (bytes ≡ sealed node.ring message) × Fits message
IsNextDeed node (Keep name tried) (CutKeep ticket rec) = (ticket ≡ name) × (rec ≡ tried)
IsNextDeed node (Start asked) (CutStart job) = job ≡ asked
IsNextDeed node ask call = ⊥

abbrev pub MayBeCut : Stand → CutCall → Type 0
MayBeCut (Doing node (Ends old)) CutNext = Unit {0}
MayBeCut (Doing node (Does ask go)) call = IsNextDeed node ask call
MayBeCut (Hearing node old answer bytes) CutNow = Unit {0}
MayBeCut stand call = ⊥

-- The condition of an entry. A session may end anywhere, and then the next session may start. An interrupted call is
-- the last of its session.
abbrev pub MayDo : Stand → SessionEntry → Type 0
MayDo stand (Starts node reading records) = length records ≡ length node.config.tickets
MayDo stand (Makes call) = MayMake stand call
MayDo stand (IsCut call) = MayBeCut stand call

-- The state after an entry. A start leaves the node in its opening state, between two turns.
abbrev pub after_entry : Stand → SessionEntry → Stand
after_entry stand (Starts node reading records) = Doing node (Ends (opened node records reading))
after_entry stand (Makes call) = after_call stand call
after_entry stand (IsCut call) = Down

-- From the member's current state, these entries are the rest of a session and then whole sessions, one after the
-- other.
abbrev pub AreSessions : Stand → List SessionEntry → Type 0
AreSessions stand [] = Unit {0}
AreSessions stand (entry ∷ entries) = MayDo stand entry × AreSessions (after_entry stand entry) entries

abbrev pub after_entries : Stand → List SessionEntry → Stand
after_entries stand [] = stand
after_entries stand (entry ∷ entries) = after_entries (after_entry stand entry) entries
