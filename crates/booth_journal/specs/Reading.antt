-- The content of a line of a journal, and when a text is not one.
use Rattle.std.specs.Prelude.{◌≡◌, ◌<◌, ◌≤◌, ◌^◌, ℕ, ℤ, List, ◌++◌, codes, decimal, slice_index, length, true, FitsSigned, Option, None, Some, Result, Err, IfOk}
use Rattle.std.specs.Prelude.{Bool, false, T}
use Rattle.std.specs.Int.{w32}
use Rattle.std.specs.Fmt.{signed_decimal}
use Rattle.booth_base.specs.Address.{IsAddress, printed}
use Rattle.booth_base.specs.Name.{is_name}
use Rattle.booth_base.specs.declared.address.Address.{Address}
use Rattle.booth_base.specs.declared.address.Peer.{Peer}
use Rattle.booth_rec.specs.declared.record.Record.{Record}
use Rattle.booth_rec.specs.Spelling.{HasVersion, FitsTypes}
use Rattle.booth_host.specs.declared.datagram.TheConstants.{DATAGRAM_BYTES}
use Rattle.booth_journal.specs.declared.said.Answer.{Answer}
use Rattle.booth_journal.specs.declared.said.Answer.TheVariants as answers
use Rattle.booth_journal.specs.declared.said.Call.{Call}
use Rattle.booth_journal.specs.declared.said.Call.TheVariants as calls
use Rattle.booth_journal.specs.declared.fields.Carried.{Carried}
use Rattle.booth_journal.specs.declared.fields.LineFault.{LineFault}
use Rattle.booth_journal.specs.declared.fields.LineFault.TheVariants.{NoLine}
use Rattle.booth_journal.specs.Lines.{answer_text, call_text, hex_text, local_text, peer_text, record_text}

-- ---- the values that a line may have, which are those of the types

abbrev pub AreOctets : List ℕ → Type 0
AreOctets bytes = (k : ℕ) → slice_index bytes k < 2 ^ 8

abbrev pub IsLocal : Option Address → Type 0
IsLocal None = Unit {0}
IsLocal (Some address) = IsAddress address

abbrev pub IsPeer : Peer → Type 0
IsPeer peer = IsAddress peer.address × (peer.port < 2 ^ 16)

-- a record of one of the two versions
abbrev pub IsWritten : Record → Type 0
IsWritten kept = HasVersion kept × FitsTypes kept

abbrev pub IsCall : Call → Type 0
IsCall calls.Now = Unit {0}
IsCall (calls.Open local) = IsLocal local
IsCall calls.Next = Unit {0}
IsCall (calls.Send to bytes) = IsPeer to × AreOctets bytes
IsCall (calls.Kept ticket) = is_name ticket ≡ true
IsCall (calls.Keep ticket kept) = (is_name ticket ≡ true) × IsWritten kept
IsCall (calls.Job number ticket expires) = (number < 2 ^ 64) × (is_name ticket ≡ true) × (expires < 2 ^ 64)

abbrev pub IsAnswer : Answer → Type 0
IsAnswer (answers.Reading reading) = reading < 2 ^ 64
IsAnswer (answers.Ended job status) = (job < 2 ^ 64) × FitsSigned w32 status
IsAnswer (answers.Data from bytes) = IsPeer from × AreOctets bytes × (length bytes ≤ DATAGRAM_BYTES)
IsAnswer (answers.Found kept) = IsWritten kept
IsAnswer answer = Unit {0}

-- ---- the answers that a call may have

abbrev pub is_reading : Answer → Bool
is_reading (answers.Reading reading) = true
is_reading answer = false

abbrev pub IsReading : Answer → Type 0
IsReading answer = T (is_reading answer)

-- whether a call was done
abbrev pub is_done : Answer → Bool
is_done answers.Done = true
is_done answers.Fails = true
is_done answer = false

abbrev pub IsDone : Answer → Type 0
IsDone answer = T (is_done answer)

-- the result of a wait
abbrev pub is_arrival : Answer → Bool
is_arrival answers.Fails = true
is_arrival answers.Quiet = true
is_arrival answers.Stop = true
is_arrival (answers.Ended job status) = true
is_arrival (answers.Data from bytes) = true
is_arrival answer = false

abbrev pub IsArrival : Answer → Type 0
IsArrival answer = T (is_arrival answer)

-- the record of a ticket
abbrev pub is_found : Answer → Bool
is_found answers.Fails = true
is_found answers.Absent = true
is_found (answers.Found kept) = true
is_found answer = false

abbrev pub IsFound : Answer → Type 0
IsFound answer = T (is_found answer)

abbrev pub IsAnswerTo : Call → Answer → Type 0
IsAnswerTo calls.Now answer = IsReading answer
IsAnswerTo (calls.Open local) answer = IsDone answer
IsAnswerTo calls.Next answer = IsArrival answer
IsAnswerTo (calls.Send to bytes) answer = IsDone answer
IsAnswerTo (calls.Kept ticket) answer = IsFound answer
IsAnswerTo (calls.Keep ticket kept) answer = IsDone answer
IsAnswerTo (calls.Job number ticket expires) answer = IsDone answer

-- ---- reading

-- The result of reading a text: what it spells, and NoLine only if it spells nothing. If the memory has run out,
-- a read may always fail.
pub record ReadsAs {A : Type 0} (Spells : A → Type 0) (result : Result A LineFault) : Type 0 where
  pub found : IfOk result Spells
  pub none : result ≡ Err NoLine → (value : A) → Spells value → ⊥

abbrev pub SpellsNumber : List ℕ → ℕ → Type 0
SpellsNumber text number = (number < 2 ^ 64) × (text ≡ decimal number)

abbrev pub SpellsStatus : List ℕ → ℤ → Type 0
SpellsStatus text status = FitsSigned w32 status × (text ≡ signed_decimal status)

abbrev pub SpellsPort : List ℕ → ℕ → Type 0
SpellsPort text port = (port < 2 ^ 16) × (text ≡ decimal port)

abbrev pub SpellsName : List ℕ → List ℕ → Type 0
SpellsName text name = (is_name name ≡ true) × (text ≡ name)

abbrev pub SpellsAddress : List ℕ → Address → Type 0
SpellsAddress text address = IsAddress address × (text ≡ printed address)

abbrev pub SpellsLocal : List ℕ → Option Address → Type 0
SpellsLocal text local = IsLocal local × (text ≡ local_text local)

abbrev pub SpellsBytes : List ℕ → List ℕ → Type 0
SpellsBytes text bytes = AreOctets bytes × (text ≡ hex_text bytes)

abbrev pub SpellsRecord : List ℕ → Record → Type 0
SpellsRecord text kept = IsWritten kept × (text ≡ record_text kept)

abbrev pub SpellsDatagram : List ℕ → Carried → Type 0
SpellsDatagram text carried =
    IsPeer carried.peer × AreOctets carried.bytes
    × (text ≡ peer_text carried.peer ++ codes " " ++ hex_text carried.bytes)

-- the text spells this call
abbrev pub SpellsCall : List ℕ → Call → Type 0
SpellsCall text call = IsCall call × (text ≡ call_text call)

-- the text spells this answer
abbrev pub SpellsAnswer : List ℕ → Answer → Type 0
SpellsAnswer text answer = IsAnswer answer × (text ≡ answer_text answer)

abbrev pub SpellsReading : List ℕ → Answer → Type 0
SpellsReading text answer = IsReading answer × SpellsAnswer text answer

abbrev pub SpellsDone : List ℕ → Answer → Type 0
SpellsDone text answer = IsDone answer × SpellsAnswer text answer

abbrev pub SpellsArrival : List ℕ → Answer → Type 0
SpellsArrival text answer = IsArrival answer × SpellsAnswer text answer

abbrev pub SpellsFound : List ℕ → Answer → Type 0
SpellsFound text answer = IsFound answer × SpellsAnswer text answer

-- an answer that this call may have
abbrev pub SpellsAnswerTo : Call → List ℕ → Answer → Type 0
SpellsAnswerTo call text answer = IsAnswerTo call answer × SpellsAnswer text answer
