-- A host in memory: the calls that it records, and the answers that its script determines.
use Rattle.std.specs.Prelude.{◌≡◌, ◌+◌, ◌-◌, ◌==◌, ℕ, List, [], nat_eq, option_map, unwrap_or, Option, None, Some, MatchOption, Result, Ok, Err, IfOk, IfErr, IsErrOf, ◌↔◌, Bool, false, if◌then◌else◌, slice_get, length, drop, take, min}
use Rattle.std.specs.Cmp.Lexicographic.{pointwise}
use Rattle.std.specs.List.{find}
use Rattle.booth_rec.specs.declared.record.Record.{Record}
use Rattle.booth_host.specs.declared.datagram.TheConstants.{DATAGRAM_BYTES}
use Rattle.booth_host.specs.declared.entry.Entry.{Entry}
use Rattle.booth_host.specs.declared.host.Arrival.{Arrival}
use Rattle.booth_host.specs.declared.host.Arrival.TheVariants.{Stop, Quiet}
use Rattle.booth_host.specs.declared.host.Failed.{Failed}
use Rattle.booth_host.specs.declared.host.ReadFault.{ReadFault}
use Rattle.booth_host.specs.declared.host.ReadFault.TheVariants.{NoMemory, Failed as ReadFailed}
use Rattle.booth_host.specs.declared.memory.Step.{Step}
use Rattle.booth_host.specs.declared.memory.Script.{Script}
use Rattle.booth_host.specs.declared.memory.MemoryHost.{MemoryHost}
use Rattle.booth_host.specs.declared.quiet.QuietHost.{QuietHost}
use Rattle.booth_host.specs.Told.{told_past}

abbrev pub memory_past : MemoryHost → Option (List Entry)
memory_past host = told_past host.told

abbrev pub quiet_past : QuietHost → Option (List Entry)
quiet_past host = memory_past host.host

-- ---- the script

-- the step that runs, once one has begun
abbrev pub running : MemoryHost → Option Step
running host = if host.begun == 0 then None else slice_get host.script.steps.items (host.begun - 1)

abbrev pub reading_in : ℕ → Option Step → ℕ
reading_in first None = first
reading_in first (Some step) = step.reading

-- what the clock reads now
abbrev pub reading_of : MemoryHost → ℕ
reading_of host = reading_in host.script.first (running host)

abbrev pub send_flag : Bool → Option Step → Bool
send_flag first None = first
send_flag first (Some step) = step.fail_send

abbrev pub out_flag : Bool → Option Step → Bool
out_flag first None = first
out_flag first (Some step) = step.fail_out

-- whether a send fails now
abbrev pub sends_fail : MemoryHost → Bool
sends_fail host = send_flag host.script.fail_send (running host)

-- whether a write to standard output fails now
abbrev pub outs_fail : MemoryHost → Bool
outs_fail host = out_flag host.script.fail_out (running host)

-- the result of the next step: its arrival with its bytes, or Stop after the last
abbrev pub IsBrought : Option Step → Result Arrival Failed → List ℕ → Type 0
IsBrought None answer bytes = (answer ≡ Ok Stop) × (bytes ≡ [])
IsBrought (Some step) answer bytes = (answer ≡ step.arrival)
    × (bytes ≡ take (min (length step.bytes) DATAGRAM_BYTES) step.bytes)

-- an answer without failures: a failing step gives Quiet
abbrev pub quietly : Result Arrival Failed → Result Arrival Failed
quietly (Ok arrival) = Ok arrival
quietly (Err fault) = Ok Quiet

-- the result of the next step at a quiet host: the same, without failures
abbrev pub IsQuietlyBrought : Option Step → Result Arrival Failed → List ℕ → Type 0
IsQuietlyBrought None answer bytes = (answer ≡ Ok Stop) × (bytes ≡ [])
IsQuietlyBrought (Some step) answer bytes = (answer ≡ quietly step.arrival)
    × (bytes ≡ take (min (length step.bytes) DATAGRAM_BYTES) step.bytes)

-- the step that a next begins
abbrev pub coming : MemoryHost → Option Step
coming host = slice_get host.script.steps.items host.begun

-- the steps that have not begun
abbrev pub to_come : MemoryHost → List Step
to_come host = drop host.begun host.script.steps.items

-- everything in a script except its steps
pub record SaysTheSame (old new : Script) : Type 0 where
  pub first : new.first ≡ old.first
  pub taken : new.taken ≡ old.taken
  pub opens : new.fail_open ≡ old.fail_open
  pub locks : new.fail_lock ≡ old.fail_lock
  pub reads : new.fail_kept ≡ old.fail_kept
  pub errs : new.fail_err ≡ old.fail_err
  pub sends : new.fail_send ≡ old.fail_send
  pub outs : new.fail_out ≡ old.fail_out

-- ---- the host as it was made, and what of it is unchanged

-- a host made of these parts, before its first step
pub record IsNew (host : MemoryHost) (script : Script) (files : List (List ℕ × List ℕ))
    (records : List (List ℕ × Record)) (most : ℕ) : Type 0 where
  pub runs : host.script ≡ script
  pub begun : host.begun ≡ 0
  pub reads : host.files.items ≡ files
  pub keeps : host.records.items ≡ records
  pub room : host.told.room ≡ most
  pub tells : memory_past host ≡ Some []
  pub faults : host.faults ≡ 0

-- the script, the files, the records and the room are unchanged, and no step begins
pub record Stays (old new : MemoryHost) : Type 0 where
  pub script : new.script ≡ old.script
  pub begun : new.begun ≡ old.begun
  pub files : new.files ≡ old.files
  pub records : new.records ≡ old.records
  pub room : new.told.room ≡ old.told.room

-- the same, except the records
pub record StaysButRecords (old new : MemoryHost) : Type 0 where
  pub script : new.script ≡ old.script
  pub begun : new.begun ≡ old.begun
  pub files : new.files ≡ old.files
  pub room : new.told.room ≡ old.told.room

-- the next step begins, if one is left, and everything else is unchanged
pub record Begins (old new : MemoryHost) : Type 0 where
  pub script : new.script ≡ old.script
  pub begun : MatchOption (coming old) (new.begun ≡ old.begun) (λ step. new.begun ≡ old.begun + 1)
  pub files : new.files ≡ old.files
  pub records : new.records ≡ old.records
  pub room : new.told.room ≡ old.told.room

-- ---- files

-- the text of the file at this path
abbrev pub file_of : MemoryHost → List ℕ → Option (List ℕ)
file_of host path =
    option_map (λ file. file.1) (find (λ file. pointwise nat_eq file.0 path) host.files.items)

-- a read of the file at this path, or a failure if there is none; if the memory has run out it may always fail
pub record ReadsFile (found : Option (List ℕ)) (result : Result (List ℕ) ReadFault) : Type 0 where
  pub text : IfOk result (λ text. found ≡ Some text)
  pub missing : IsErrOf result ReadFailed ↔ (found ≡ None)

-- the same without failures: a missing file is empty
pub record ReadsQuietly (found : Option (List ℕ)) (result : Result (List ℕ) ReadFault) : Type 0 where
  pub text : IfOk result (λ text. text ≡ unwrap_or found [])
  pub memory : IfErr result (λ fault. fault ≡ NoMemory)

-- ---- locks, writes and starts

-- whether another holds each lock
abbrev pub taken_in : MemoryHost → Bool
taken_in host = host.script.taken

abbrev pub keep_flag : Option Step → Bool
keep_flag None = false
keep_flag (Some step) = step.fail_keep

abbrev pub start_flag : Option Step → Bool
start_flag None = false
start_flag (Some step) = step.fail_start

-- whether the start of a handler fails now
abbrev pub starts_fail : MemoryHost → Bool
starts_fail host = start_flag (running host)

-- whether a write of a record fails now
abbrev pub keeps_fail : MemoryHost → Bool
keeps_fail host = keep_flag (running host)
