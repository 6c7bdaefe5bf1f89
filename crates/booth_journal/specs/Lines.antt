-- The lines of a journal: the spelling of calls and answers, and the lines for a call of a host.
use Rattle.std.specs.Prelude.{ℕ, List, [], ◌∷◌, ◌++◌, codes, decimal, Option, None, Some, Result, Ok, Err, if◌then◌else◌}
use Rattle.std.specs.Fmt.{signed_decimal}
use Rattle.hex.specs.Hex.{encode_lower}
use Rattle.booth_base.specs.Address.{printed}
use Rattle.booth_base.specs.declared.address.Address.{Address}
use Rattle.booth_base.specs.declared.address.Peer.{Peer}
use Rattle.booth_rec.specs.declared.record.Lease.{Lease}
use Rattle.booth_rec.specs.declared.record.Record.{Record}
use Rattle.booth_rec.specs.Record.{first_plain, is_second}
use Rattle.booth_rec.specs.Spelling.{spelling}
use Rattle.booth_host.specs.declared.entry.Entry.{Entry}
use Rattle.booth_host.specs.declared.entry.Entry.TheVariants as entries
use Rattle.booth_host.specs.declared.host.Arrival.{Arrival}
use Rattle.booth_host.specs.declared.host.Arrival.TheVariants as arrivals
use Rattle.booth_host.specs.declared.host.Failed.{Failed}
use Rattle.booth_journal.specs.declared.said.Call.{Call}
use Rattle.booth_journal.specs.declared.said.Call.TheVariants as calls
use Rattle.booth_journal.specs.declared.said.Answer.{Answer}
use Rattle.booth_journal.specs.declared.said.Answer.TheVariants as answers

-- ---- words

-- bytes in hexadecimal digits of lower case; `-` stands for no bytes
abbrev pub hex_text : List ℕ → List ℕ
hex_text [] = codes "-"
hex_text (byte ∷ bytes) = encode_lower (byte ∷ bytes)

-- an address to listen at; `-` stands for any
abbrev pub local_text : Option Address → List ℕ
local_text None = codes "-"
local_text (Some address) = printed address

abbrev pub peer_text : Peer → List ℕ
peer_text peer = printed peer.address ++ codes " " ++ decimal peer.port

abbrev pub record_text : Record → List ℕ
record_text kept = encode_lower (spelling kept)

-- the fields of a lease, which are 0 without one
abbrev pub fields_of : Option Lease → Lease
fields_of None = record { term = 0; until = 0 }
fields_of (Some lease) = lease

-- ---- calls and answers

abbrev pub call_text : Call → List ℕ
call_text calls.Now = codes "now"
call_text (calls.Open local) = codes "open " ++ local_text local
call_text calls.Next = codes "next"
call_text (calls.Send to bytes) = codes "send " ++ peer_text to ++ codes " " ++ hex_text bytes
call_text (calls.Kept ticket) = codes "kept " ++ ticket
call_text (calls.Keep ticket kept) = codes "keep " ++ ticket ++ codes " " ++ record_text kept
call_text (calls.Job number ticket expires) =
    codes "job " ++ decimal number ++ codes " " ++ ticket ++ codes " " ++ decimal expires

abbrev pub answer_text : Answer → List ℕ
answer_text (answers.Reading reading) = decimal reading
answer_text answers.Done = codes "ok"
answer_text answers.Fails = codes "fail"
answer_text answers.Quiet = codes "quiet"
answer_text answers.Stop = codes "stop"
answer_text (answers.Ended job status) = codes "handler " ++ decimal job ++ codes " " ++ signed_decimal status
answer_text (answers.Data from bytes) = codes "data " ++ peer_text from ++ codes " " ++ hex_text bytes
answer_text answers.Absent = codes "none"
answer_text (answers.Found kept) = record_text kept

-- a line ends with a line feed
abbrev pub line : List ℕ → List ℕ
line text = text ++ codes "\n"

-- ---- entries

-- A record as it is written: a record of another version than 2 as one of version 1, with its term and its lease.
abbrev pub written : Record → Record
written kept = if is_second kept then kept else first_plain kept.term kept.lease

abbrev pub done_answer : Result (Unit {0}) Failed → Answer
done_answer (Ok done) = answers.Done
done_answer (Err fault) = answers.Fails

abbrev pub arrival_answer : Result Arrival Failed → List ℕ → Answer
arrival_answer (Ok (arrivals.Datagram from)) bytes = answers.Data from bytes
arrival_answer (Ok (arrivals.Handler job status)) bytes = answers.Ended job status
arrival_answer (Ok arrivals.Quiet) bytes = answers.Quiet
arrival_answer (Ok arrivals.Stop) bytes = answers.Stop
arrival_answer (Err fault) bytes = answers.Fails

abbrev pub kept_answer : Result (Option Record) Failed → Answer
kept_answer (Ok None) = answers.Absent
kept_answer (Ok (Some kept)) = answers.Found (written kept)
kept_answer (Err fault) = answers.Fails

-- the call and the answer that a journal has for an entry, or none if it has none
abbrev pub said : Entry → Option (Call × Answer)
said (entries.Now reading) = Some (calls.Now, answers.Reading reading)
said (entries.Open local port records conf_path answer) = Some (calls.Open local, done_answer answer)
said (entries.Next wait answer bytes) = Some (calls.Next, arrival_answer answer bytes)
said (entries.Send to bytes answer) = Some (calls.Send to bytes, done_answer answer)
said (entries.Kept ticket answer) = Some (calls.Kept ticket, kept_answer answer)
said (entries.Keep ticket kept answer) = Some (calls.Keep ticket (written kept), done_answer answer)
said (entries.Start number ticket handler local expires answer) =
    Some (calls.Job number ticket expires, done_answer answer)
said entry = None

-- a line for the call, and one for the answer
abbrev pub lines_said : Option (Call × Answer) → List ℕ
lines_said None = []
lines_said (Some both) = line (call_text both.0) ++ line (answer_text both.1)

-- the lines of a journal for an entry
abbrev pub lines_of : Entry → List ℕ
lines_of entry = lines_said (said entry)

-- the line of its call, and the line of its answer
abbrev pub call_line : Option (Call × Answer) → List ℕ
call_line None = []
call_line (Some both) = line (call_text both.0)

abbrev pub answer_line : Option (Call × Answer) → List ℕ
answer_line None = []
answer_line (Some both) = line (answer_text both.1)
