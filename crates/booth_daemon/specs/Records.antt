-- The records from which a daemon starts: it reads one for each ticket, in the order of the file.
use Rattle.std.specs.Prelude.{◌≡◌, ◌++◌, ◌⊎◌, ℕ, List, [], ◌∷◌, length, map, Option, Result, Ok, Err}
use Rattle.std.specs.List.{zip}
use Rattle.booth_conf.specs.declared.tickets.TicketConf.{TicketConf}
use Rattle.booth_rec.specs.declared.record.Record.{Record}
use Rattle.booth_host.specs.declared.host.Failed.{Failed}
use Rattle.booth_host.specs.declared.entry.Entry.{Entry}
use Rattle.booth_host.specs.declared.entry.Entry.TheVariants.{Kept}
use Rattle.booth_outcomes.specs.declared.outcome.Outcome.{Outcome}
use Rattle.booth_outcomes.specs.declared.outcome.Outcome.TheVariants.{RecordUnread, OutOfMemory}
use Rattle.booth_outcomes.specs.declared.outcome.Ended.{Ended}
use Rattle.booth_outcomes.specs.Texts.{unread_record_text, out_of_memory_text}

-- The call that read a ticket's record, or found it missing.
abbrev pub kept_call : TicketConf × Option Record → Entry
kept_call p = Kept p.0.name (Ok p.1)

-- The calls that read the records: one call for each ticket, with its record.
pub record AreKept (tickets : List TicketConf) (records : List (Option Record))
    (entries : List Entry) : Type 0 where
  pub each : length records ≡ length tickets
  pub calls : entries ≡ map kept_call (zip tickets records)

-- The records of the tickets before this one were read, and this ticket's record could not be read.
pub record IsRecordUnread (tickets : List TicketConf) (said : List ℕ) (entries : List Entry) : Type 0 where
  pub before : List TicketConf
  pub ticket : TicketConf
  pub after : List TicketConf
  pub order : tickets ≡ before ++ ticket ∷ after
  pub records : List (Option Record)
  pub early : List Entry
  pub read : AreKept before records early
  pub failed : Failed
  pub whole : entries ≡ early ++ Kept ticket.name (Err failed) ∷ []
  pub told : said ≡ unread_record_text ticket.name

-- None of the records was read, or all were read.
abbrev pub AreNoneOrAll : List TicketConf → List Entry → Type 0
AreNoneOrAll tickets entries = (entries ≡ [])
    ⊎ ((records : List (Option Record)) × AreKept tickets records entries)

-- ---- in the code

-- The call that read the record of the ticket with this name.
abbrev pub IsRecordRead : List ℕ → Result (Option Record) Ended → List Entry → Type 0
IsRecordRead ticket (Ok rec) entries = entries ≡ Kept ticket (Ok rec) ∷ []
IsRecordRead ticket (Err ended) entries = (ended.outcome ≡ RecordUnread)
    × (ended.said ≡ unread_record_text ticket)
    × (failed : Failed) × (entries ≡ Kept ticket (Err failed) ∷ [])

-- A record could not be read, or memory for the records was out.
abbrev pub AreUnread : List TicketConf → Outcome → List ℕ → List Entry → Type 0
AreUnread tickets RecordUnread said entries = IsRecordUnread tickets said entries
AreUnread tickets OutOfMemory said entries = (said ≡ out_of_memory_text) × (entries ≡ [])
AreUnread tickets outcome said entries = ⊥
