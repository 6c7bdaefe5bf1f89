-- The call that the rules demand of a member, and the effect of its answer.
use Rattle.std.specs.Prelude.{ℕ, Bool, false, List, [], bytes_eq, Option, None, Some, Result, Ok, Err}
use Rattle.booth_base.specs.Tree.{Ends, Does}
use Rattle.booth_auth.specs.Sealed.{sealed}
use Rattle.booth_host.specs.declared.entry.Entry.{Entry}
use Rattle.booth_host.specs.declared.entry.Entry.TheVariants as entries
use Rattle.booth_host.specs.declared.host.Arrival.{Arrival}
use Rattle.booth_host.specs.declared.host.Arrival.TheVariants as arrivals
use Rattle.booth_host.specs.declared.host.Failed.{Failed}
use Rattle.booth_journal.specs.declared.said.Answer.{Answer}
use Rattle.booth_journal.specs.declared.said.Answer.TheVariants as answers
use Rattle.booth_journal.specs.declared.said.Call.{Call}
use Rattle.booth_journal.specs.declared.said.Call.TheVariants as calls
use Rattle.booth_journal.specs.Lines.{call_text, written}
use Rattle.booth_node.specs.declared.node_config.NodeConfig.{NodeConfig}
use Rattle.booth_node.specs.Reaction.{Ask, Send, Keep, Start}
use Rattle.booth_node.specs.Session.{CutCall, CutKeep, CutNext, CutNow, CutSend, CutStart, Doing, Down, Hearing, Stand}

-- ---- the demanded call

abbrev pub call_of : NodeConfig → Ask → Call
call_of node (Send peer message) = calls.Send peer (sealed node.ring message)
call_of node (Keep name tried) = calls.Keep name (written tried)
call_of node (Start job) = calls.Job job.number job.ticket job.expires

-- The demanded call. A turn begins with a wait; then the member reads its clock; then it does each action. The rules
-- demand no call of a member that is down.
abbrev pub demanded : Stand → Option Call
demanded Down = None
demanded (Doing node (Ends old)) = Some calls.Next
demanded (Doing node (Does ask go)) = Some (call_of node ask)
demanded (Hearing node old answer bytes) = Some calls.Now

-- Two calls are equal if their journal lines are equal.
abbrev pub is_call : Call → Call → Bool
is_call one other = bytes_eq (call_text one) (call_text other)

abbrev pub is_demanded_by : Option Call → Call → Bool
is_demanded_by None call = false
is_demanded_by (Some one) call = is_call one call

abbrev pub is_demanded : Stand → Call → Bool
is_demanded stand call = is_demanded_by (demanded stand) call

-- ---- its answer

abbrev pub done_by : Answer → Result (Unit {0}) Failed
done_by answers.Done = Ok tt
done_by answer = Err (record {})

-- The input in an answer. An arrival without a datagram has no bytes.
abbrev pub arrival_by : Answer → Result Arrival Failed
arrival_by answers.Quiet = Ok arrivals.Quiet
arrival_by answers.Stop = Ok arrivals.Stop
arrival_by (answers.Ended job status) = Ok (arrivals.Handler job status)
arrival_by (answers.Data from bytes) = Ok (arrivals.Datagram from)
arrival_by answer = Err (record {})

abbrev pub bytes_by : Answer → List ℕ
bytes_by (answers.Data from bytes) = bytes
bytes_by answer = []

abbrev pub reading_by : Answer → ℕ
reading_by (answers.Reading reading) = reading
reading_by answer = 0

-- A call with its answer. The journal does not contain the handler of a job and its address: these are as the rules
-- demanded them.
abbrev pub entry_by : NodeConfig → Ask → Answer → Entry
entry_by node (Send peer message) answer = entries.Send peer (sealed node.ring message) (done_by answer)
entry_by node (Keep name tried) answer = entries.Keep name tried (done_by answer)
entry_by node (Start job) answer =
    entries.Start job.number job.ticket job.handler job.local job.expires (done_by answer)

-- The demanded call, with an answer.
abbrev pub made : Stand → Answer → Option Entry
made Down answer = None
made (Doing node (Ends old)) answer = Some (entries.Next 100 (arrival_by answer) (bytes_by answer))
made (Doing node (Does ask go)) answer = Some (entry_by node ask answer)
made (Hearing node old heard bytes) answer = Some (entries.Now (reading_by answer))

abbrev pub cut_by : NodeConfig → Ask → CutCall
cut_by node (Send peer message) = CutSend peer (sealed node.ring message)
cut_by node (Keep name tried) = CutKeep name tried
cut_by node (Start job) = CutStart job

-- The demanded call, without its answer.
abbrev pub cut : Stand → Option CutCall
cut Down = None
cut (Doing node (Ends old)) = Some CutNext
cut (Doing node (Does ask go)) = Some (cut_by node ask)
cut (Hearing node old heard bytes) = Some CutNow
