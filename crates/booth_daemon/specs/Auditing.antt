-- The calls of `boothd audit`, and the text that it prints.
use Rattle.std.specs.Prelude.{◌≡◌, ◌++◌, ◌⊎◌, ℕ, Bool, true, false, T, List, [], ◌∷◌, length, map, slice_get}
use Rattle.std.specs.Prelude.{Option, Result, Ok, Err}
use Rattle.std.specs.Prelude.{codes, decimal}
use Rattle.std.specs.List.{flat_map, zip}
use Rattle.std.specs.Option.{option_map_or}
use Rattle.booth_base.specs.Address.{printed}
use Rattle.booth_conf.specs.Config.{ConfigSays}
use Rattle.booth_conf.specs.Says.{Says}
use Rattle.booth_conf.specs.declared.members.Member.{Member}
use Rattle.booth_conf.specs.declared.tickets.TicketConf.{TicketConf}
use Rattle.booth_keys.specs.declared.ring.Ring.{Ring}
use Rattle.booth_host.specs.declared.host.Failed.{Failed}
use Rattle.booth_host.specs.declared.host.ReadFault.{ReadFault}
use Rattle.booth_host.specs.declared.host.ReadFault.TheVariants as reads
use Rattle.booth_host.specs.declared.entry.Entry.{Entry}
use Rattle.booth_host.specs.declared.entry.Entry.TheVariants.{Out, ReadFile}
use Rattle.booth_audit.specs.Audit.{AuditSays, HasFault, IsAudited}
use Rattle.booth_journal.specs.declared.audit_fault.AuditFault.{AuditFault}
use Rattle.booth_journal.specs.declared.audit_fault.AuditFault.TheVariants as audits
use Rattle.booth_audit.specs.declared.holding.Holding.{Holding}
use Rattle.booth_audit.specs.declared.silent.SilentStart.{SilentStart}
use Rattle.booth_cli.specs.declared.asking.AuditWords.{AuditWords}
use Rattle.booth_outcomes.specs.declared.outcome.Outcome.{Outcome}
use Rattle.booth_outcomes.specs.declared.outcome.Outcome.TheVariants.{Done, ConfUnread, ConfBad, KeyUnread, KeyBad}
use Rattle.booth_outcomes.specs.declared.outcome.Outcome.TheVariants.{JournalUnread, AuditBad, PrintFault, OutOfMemory}
use Rattle.booth_outcomes.specs.declared.outcome.Ended.{Ended}
use Rattle.booth_outcomes.specs.Configuration.{IsUnread}
use Rattle.booth_outcomes.specs.Keys.{HasRing, IsKeyless, KeyTexts, key_calls}
use Rattle.booth_outcomes.specs.Texts.{at_line, audit_text, journal_at, out_of_memory_text, unprinted_text, unread_text}
use Rattle.booth_daemon.specs.declared.auditing.Files.{Files}

-- ---- the output

-- The name of the ticket at this place. A holding and a silent start have the place of a ticket.
abbrev pub ticket_at : ConfigSays → ℕ → List ℕ
ticket_at config place =
    option_map_or (λ (ticket : TicketConf). ticket.name) (slice_get config.tickets place) []

-- The address of the member at this place, as text. A holding has the place of a member.
abbrev pub site_at : ConfigSays → ℕ → List ℕ
site_at config place =
    option_map_or (λ (member : Member). printed member.address) (slice_get config.members place) []

-- The text that names the ticket that was held, and the site.
abbrev pub held_text : ConfigSays → Holding → List ℕ
held_text config held =
    codes "ticket " ++ ticket_at config held.ticket ++ codes ", site " ++ site_at config held.member

-- The text with the start and the end of a holding.
abbrev pub span_text : Holding → List ℕ
span_text held = codes ", from " ++ decimal held.from ++ codes " until " ++ decimal held.until ++ codes "\n"

abbrev pub holding_text : ConfigSays → Holding → List ℕ
holding_text config held = held_text config held ++ span_text held

-- The text with a line for each holding.
abbrev pub holdings_text : ConfigSays → List Holding → List ℕ
holdings_text config holdings = flat_map (holding_text config) holdings

-- The text that names the ticket of a silent start, and the term of the record.
abbrev pub silence_text : ConfigSays → SilentStart → List ℕ
silence_text config start =
    codes "silent: " ++ ticket_at config start.ticket ++ codes ", term " ++ decimal start.term

-- The line for a silent start, in the journals at these paths.
abbrev pub silent_text : ConfigSays → List (List ℕ) → SilentStart → List ℕ
silent_text config paths start =
    at_line (journal_at paths start.journal) start.line (silence_text config start) ++ codes "\n"

-- The text with a line for each silent start.
abbrev pub silents_text : ConfigSays → List (List ℕ) → List SilentStart → List ℕ
silents_text config paths starts = flat_map (silent_text config paths) starts

-- The text with the holdings, and then the silent starts.
abbrev pub report_text : ConfigSays → List (List ℕ) → AuditSays → List ℕ
report_text config paths says = holdings_text config says.holdings ++ silents_text config paths says.silent

-- ---- the reads

-- The call that read a journal, with its path and its text.
abbrev pub journal_call : List ℕ × List ℕ → Entry
journal_call p = ReadFile p.0 (Ok p.1)

-- The calls read the journals at these paths, one after the other.
pub record AreJournals (paths texts : List (List ℕ)) (entries : List Entry) : Type 0 where
  pub each : length texts ≡ length paths
  pub calls : entries ≡ map journal_call (zip paths texts)

-- The journals before this one were read, and this one could not be read.
pub record IsUnreadAt (paths : List (List ℕ)) (fault : ReadFault) (path : List ℕ) (entries : List Entry) : Type 0 where
  pub before : List (List ℕ)
  pub after : List (List ℕ)
  pub order : paths ≡ before ++ path ∷ after
  pub texts : List (List ℕ)
  pub early : List Entry
  pub read : AreJournals before texts early
  pub whole : entries ≡ early ++ ReadFile path (Err fault) ∷ []

-- A journal could not be read, or the memory ran out for a journal or for all of them.
abbrev pub AreJournalsUnread : List (List ℕ) → Outcome → List ℕ → List Entry → Type 0
AreJournalsUnread paths JournalUnread said entries =
    (path : List ℕ) × (said ≡ unread_text path) × IsUnreadAt paths reads.Failed path entries
AreJournalsUnread paths OutOfMemory said entries = (said ≡ out_of_memory_text)
    × ((entries ≡ []) ⊎ ((path : List ℕ) × IsUnreadAt paths reads.NoMemory path entries))
AreJournalsUnread paths outcome said entries = ⊥

-- The calls read the configuration, and the keys that it names.
pub record IsKeyed (conf : List ℕ) (config : ConfigSays) (ring : Option Ring) (entries : List Entry) : Type 0 where
  pub text : List ℕ
  pub says : Says text config
  pub key_texts : KeyTexts
  pub holds : HasRing config key_texts ring
  pub whole : entries ≡ ReadFile conf (Ok text) ∷ key_calls config key_texts

-- The calls read the configuration and the keys, and then the journals.
pub record AreAllRead (asked : AuditWords) (config : ConfigSays) (ring : Option Ring) (texts : List (List ℕ))
    (entries : List Entry) : Type 0 where
  pub early : List Entry
  pub keyed : IsKeyed asked.conf config ring early
  pub calls : List Entry
  pub journals : AreJournals asked.journals.items texts calls
  pub whole : entries ≡ early ++ calls

-- ---- the ends

-- A configuration was read, and a key could not be read.
pub record IsUnkeyed (asked : AuditWords) (outcome : Outcome) (said : List ℕ) (entries : List Entry) : Type 0 where
  pub text : List ℕ
  pub config : ConfigSays
  pub says : Says text config
  pub rest : List Entry
  pub whole : entries ≡ ReadFile asked.conf (Ok text) ∷ rest
  pub here : IsKeyless config outcome said rest

-- Configuration and keys were read, and a journal could not be read.
pub record IsWanting (asked : AuditWords) (outcome : Outcome) (said : List ℕ) (entries : List Entry) : Type 0 where
  pub config : ConfigSays
  pub ring : Option Ring
  pub early : List Entry
  pub keyed : IsKeyed asked.conf config ring early
  pub rest : List Entry
  pub whole : entries ≡ early ++ rest
  pub here : AreJournalsUnread asked.journals.items outcome said rest

-- The end of the audit of these texts: the report was printed, or could not be printed; or this is the texts' first
-- fault; or the memory ran out.
abbrev pub IsAuditEnd :
    ConfigSays → Option Ring → List (List ℕ) → List (List ℕ) → Outcome → List ℕ → List Entry → Type 0
IsAuditEnd config ring paths texts Done said entries = (said ≡ [])
    × (says : AuditSays) × IsAudited config ring texts says
    × (entries ≡ Out (report_text config paths says) (Ok tt) ∷ [])
IsAuditEnd config ring paths texts PrintFault said entries = (said ≡ unprinted_text)
    × (says : AuditSays) × IsAudited config ring texts says
    × (failed : Failed) × (entries ≡ Out (report_text config paths says) (Err failed) ∷ [])
IsAuditEnd config ring paths texts (AuditBad fault) said entries = (fault ≡ audits.OutOfMemory → ⊥)
    × HasFault config ring texts fault × (said ≡ audit_text paths fault) × (entries ≡ [])
IsAuditEnd config ring paths texts OutOfMemory said entries = (said ≡ out_of_memory_text) × (entries ≡ [])
IsAuditEnd config ring paths texts outcome said entries = ⊥

-- The calls of the audit of these arguments, up to the call that decides its outcome.
pub data IsAuditing (asked : AuditWords) (outcome : Outcome) (said : List ℕ) (entries : List Entry) : Type 0 where
  Unread : IsUnread asked.conf outcome said entries → IsAuditing asked outcome said entries
  Unkeyed : IsUnkeyed asked outcome said entries → IsAuditing asked outcome said entries
  Wanting : IsWanting asked outcome said entries → IsAuditing asked outcome said entries
  Audited : (config : ConfigSays) (ring : Option Ring) (texts : List (List ℕ)) (early rest : List Entry) →
      AreAllRead asked config ring texts early → IsAuditEnd config ring asked.journals.items texts outcome said rest →
      entries ≡ early ++ rest → IsAuditing asked outcome said entries

-- The outcomes of an audit.
abbrev pub is_audit_outcome : Outcome → Bool
is_audit_outcome Done = true
is_audit_outcome ConfUnread = true
is_audit_outcome (ConfBad fault) = true
is_audit_outcome KeyUnread = true
is_audit_outcome (KeyBad fault) = true
is_audit_outcome JournalUnread = true
is_audit_outcome (AuditBad fault) = true
is_audit_outcome PrintFault = true
is_audit_outcome OutOfMemory = true
is_audit_outcome outcome = false

abbrev pub IsAuditOutcome : Outcome → Type 0
IsAuditOutcome outcome = T (is_audit_outcome outcome)

-- ---- in the code

-- The journal at this path could not be read.
abbrev pub IsJournalUnread : List ℕ → Outcome → List ℕ → List Entry → Type 0
IsJournalUnread path JournalUnread said entries =
    (said ≡ unread_text path) × (entries ≡ ReadFile path (Err reads.Failed) ∷ [])
IsJournalUnread path OutOfMemory said entries =
    (said ≡ out_of_memory_text) × (entries ≡ ReadFile path (Err reads.NoMemory) ∷ [])
IsJournalUnread path outcome said entries = ⊥

-- The journal at this path was read, or this is how the audit ends without it.
abbrev pub IsJournalRead : List ℕ → Result (List ℕ) Ended → List Entry → Type 0
IsJournalRead path (Ok text) entries = entries ≡ ReadFile path (Ok text) ∷ []
IsJournalRead path (Err ended) entries = IsJournalUnread path ended.outcome ended.said entries

-- The contents of the files were read, or this is how the audit ends without them.
abbrev pub AreFilesRead : AuditWords → Result Files Ended → List Entry → Type 0
AreFilesRead asked (Ok files) entries = AreAllRead asked files.config files.ring files.journals.items entries
AreFilesRead asked (Err ended) entries = IsAuditing asked ended.outcome ended.said entries

-- The end of an audit whose journals have this fault.
abbrev pub IsBadEnd : List (List ℕ) → AuditFault → Outcome → List ℕ → Type 0
IsBadEnd paths fault OutOfMemory said = said ≡ out_of_memory_text
IsBadEnd paths fault (AuditBad told) said =
    (told ≡ fault) × (fault ≡ audits.OutOfMemory → ⊥) × (said ≡ audit_text paths fault)
IsBadEnd paths fault outcome said = ⊥

-- The call that prints the report, and the outcome.
abbrev pub IsPrinted : ConfigSays → List (List ℕ) → AuditSays → Outcome → List ℕ → List Entry → Type 0
IsPrinted config paths says Done said entries = (said ≡ [])
    × (entries ≡ Out (report_text config paths says) (Ok tt) ∷ [])
IsPrinted config paths says PrintFault said entries = (said ≡ unprinted_text)
    × (failed : Failed) × (entries ≡ Out (report_text config paths says) (Err failed) ∷ [])
IsPrinted config paths says OutOfMemory said entries = (said ≡ out_of_memory_text) × (entries ≡ [])
IsPrinted config paths says outcome said entries = ⊥
