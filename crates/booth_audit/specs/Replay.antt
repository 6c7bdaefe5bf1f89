-- The events of a member according to its journal, up to the first call that was not demanded.
use Rattle.std.specs.Prelude.{◌+◌, ◌&&◌, not, ℕ, Bool, false, List, [], ◌∷◌, ◌++◌, length, map, if◌then◌else◌}
use Rattle.std.specs.Prelude.{Option, None, Some}
use Rattle.booth_base.specs.Tree.{Ends}
use Rattle.booth_conf.specs.declared.tickets.TicketConf.{TicketConf}
use Rattle.booth_host.specs.declared.entry.Entry.{Entry}
use Rattle.booth_journal.specs.declared.said.Answer.{Answer}
use Rattle.booth_journal.specs.declared.said.Answer.TheVariants as answers
use Rattle.booth_journal.specs.declared.said.Call.{Call}
use Rattle.booth_journal.specs.declared.said.Call.TheVariants as calls
use Rattle.booth_node.specs.declared.node_config.NodeConfig.{NodeConfig}
use Rattle.booth_node.specs.Jobs.{own_address}
use Rattle.booth_node.specs.Opening.{opened}
use Rattle.booth_node.specs.Session.{CutCall, Doing, Hearing, IsCut, Makes, SessionEntry, Stand, Starts, after_call}
use Rattle.booth_rec.specs.declared.record.Record.{Record}
use Rattle.booth_journal.specs.Looking.{begins_with_open}
use Rattle.booth_journal.specs.Says.{Said, lines_saying}
use Rattle.booth_audit.specs.Demand.{cut, is_call, is_demanded, made}

-- ---- the place in a journal

-- The place in a journal. No session is under way; or a start is under way, which has read its clock and these
-- records and must still make these calls; or a session is under way.
pub data Place : Type 0 where
  Idle : Place
  Starting : (reading : ℕ) (records : List (Option Record)) (calls : List Call) → Place
  Going : Stand → Place

-- The meaning of one call at a place: nothing that counts, an action of the member, or another call than the demanded
-- one.
pub data Step : Type 0 where
  Passes : Place → Step
  Did : SessionEntry → Place → Step
  Strays : Step

-- ---- starts

-- The calls of a start after it has read its clock: it opens its socket, and reads the record of each ticket in file
-- order.
abbrev pub start_calls : NodeConfig → List Call
start_calls node =
    calls.Open (Some (own_address node)) ∷ map (λ (ticket : TicketConf). calls.Kept ticket.name) node.config.tickets

-- A start begins with a reading of the clock. If the reading failed, the start has no session.
abbrev pub begun : NodeConfig → Option Answer → Step
begun node (Some (answers.Reading reading)) = Passes (Starting reading [] (start_calls node))
begun node answer = Passes Idle

-- A start that has made all its calls has a session.
abbrev pub goes_on : NodeConfig → ℕ → List (Option Record) → List Call → Step
goes_on node reading records [] =
    Did (Starts node reading records) (Going (Doing node (Ends (opened node records reading))))
goes_on node reading records (call ∷ more) = Passes (Starting reading records (call ∷ more))

-- After a call that failed or has no answer, the start has no session.
abbrev pub answered : NodeConfig → ℕ → List (Option Record) → List Call → Option Answer → Step
answered node reading records more (Some answers.Done) = goes_on node reading records more
answered node reading records more (Some answers.Absent) = goes_on node reading (records ++ None ∷ []) more
answered node reading records more (Some (answers.Found kept)) = goes_on node reading (records ++ Some kept ∷ []) more
answered node reading records more answer = Passes Idle

abbrev pub starts_with : NodeConfig → ℕ → List (Option Record) → List Call → Said → Step
starts_with node reading records [] said = Strays
starts_with node reading records (call ∷ more) said =
    if is_call call said.call then answered node reading records more said.answer else Strays

-- ---- turns

abbrev pub makes : Stand → Option Entry → Step
makes stand None = Strays
makes stand (Some entry) = Did (Makes entry) (Going (after_call stand entry))

abbrev pub is_cut_short : Option CutCall → Step
is_cut_short None = Strays
is_cut_short (Some call) = Did (IsCut call) Idle

-- A call without its answer is the last of its session.
abbrev pub makes_with : Stand → Option Answer → Step
makes_with stand None = is_cut_short (cut stand)
makes_with stand (Some answer) = makes stand (made stand answer)

-- ---- any call

abbrev pub is_now : Call → Bool
is_now call = is_call calls.Now call

abbrev pub is_read_by : Place → List Said → Bool
is_read_by (Going (Hearing node old answer bytes)) more = not (begins_with_open more)
is_read_by place more = false

-- Whether a reading of the clock begins a start. It belongs to a turn instead exactly if a reading is demanded there
-- and the next call opens no socket.
abbrev pub begins_start : Place → Said → List Said → Bool
begins_start place said more = is_now said.call && not (is_read_by place more)

-- The meaning of any call except the first of a start.
abbrev pub follows : NodeConfig → Place → Said → Step
follows node Idle said = Strays
follows node (Starting reading records demands) said = starts_with node reading records demands said
follows node (Going stand) said = if is_demanded stand said.call then makes_with stand said.answer else Strays

-- The meaning of this call, if these others follow.
abbrev pub stepped : NodeConfig → Place → Said → List Said → Step
stepped node place said more =
    if begins_start place said more then begun node said.answer else follows node place said

-- ---- a journal

-- An event: what a member did, and the line of the call. For a start, it is the line of its last call.
pub record Event : Type 0 where
  pub what : SessionEntry
  pub line : ℕ

-- The events before the first call that was not demanded, and the line of that call.
pub record Replayed : Type 0 where
  pub events : List Event
  pub strays : Option ℕ

abbrev pub with_event : Event → Replayed → Replayed
with_event event rest = record { events = event ∷ rest.events; strays = rest.strays }

abbrev pub by_step : Step → ℕ → (Place → Replayed) → Replayed
by_step (Passes place) line rest = rest place
by_step (Did what place) line rest = with_event (record { what = what; line = line }) (rest place)
by_step Strays line rest = record { events = []; strays = Some line }

-- The number of the line after a call that begins at this line.
abbrev pub line_behind : ℕ → Said → ℕ
line_behind line said = line + length (lines_saying said)

-- The replay of these calls, the first of which is at this line.
abbrev pub replayed : NodeConfig → Place → ℕ → List Said → Replayed
replayed node place line [] = record { events = []; strays = None }
replayed node place line (said ∷ more) =
    by_step (stepped node place said more) line (λ after. replayed node after (line_behind line said) more)

-- The replay of a whole journal of this member.
abbrev pub replay : NodeConfig → List Said → Replayed
replay node all = replayed node Idle 1 all

abbrev pub deeds_of : List Event → List SessionEntry
deeds_of events = map (λ (event : Event). event.what) events
