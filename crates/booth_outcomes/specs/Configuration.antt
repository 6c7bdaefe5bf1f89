-- The configuration, read from its file, and how a run ends if it cannot be read.
use Rattle.std.specs.Prelude.{◌≡◌, ◌⊎◌, ℕ, List, [], ◌∷◌, Result, Ok, Err, Bool, true, false, T}
use Rattle.booth_conf.specs.Config.{ConfigSays}
use Rattle.booth_conf.specs.Says.{Says, IsFault}
use Rattle.booth_conf.specs.declared.faults.ConfFault.{ConfFault}
use Rattle.booth_conf.specs.declared.faults.ConfFault.TheVariants as confs
use Rattle.booth_host.specs.declared.host.ReadFault.TheVariants as reads
use Rattle.booth_host.specs.declared.entry.Entry.{Entry}
use Rattle.booth_host.specs.declared.entry.Entry.TheVariants.{ReadFile}
use Rattle.booth_outcomes.specs.declared.outcome.Outcome.{Outcome}
use Rattle.booth_outcomes.specs.declared.outcome.Outcome.TheVariants.{ConfUnread, ConfBad, OutOfMemory}
use Rattle.booth_outcomes.specs.declared.outcome.Ended.{Ended}
use Rattle.booth_outcomes.specs.Texts.{unread_text, IsFaultText, out_of_memory_text}

-- no configuration could be read from the file at this path
abbrev pub IsUnread : List ℕ → Outcome → List ℕ → List Entry → Type 0
IsUnread path ConfUnread said entries = (said ≡ unread_text path)
    × (entries ≡ ReadFile path (Err reads.Failed) ∷ [])
IsUnread path (ConfBad fault) said entries =
    (text : List ℕ) × IsFault text fault × IsFaultText path text fault said
    × (entries ≡ ReadFile path (Ok text) ∷ [])
IsUnread path OutOfMemory said entries = (said ≡ out_of_memory_text)
    × ((entries ≡ ReadFile path (Err reads.NoMemory) ∷ [])
    ⊎ ((text : List ℕ) × (entries ≡ ReadFile path (Ok text) ∷ [])))
IsUnread path outcome said entries = ⊥

-- the outcomes without a configuration
abbrev pub is_unread_outcome : Outcome → Bool
is_unread_outcome ConfUnread = true
is_unread_outcome (ConfBad fault) = true
is_unread_outcome OutOfMemory = true
is_unread_outcome outcome = false

abbrev pub IsUnreadOutcome : Outcome → Type 0
IsUnreadOutcome outcome = T (is_unread_outcome outcome)

-- the read of the file, and the configuration that its text spells
abbrev pub IsConfigRead : List ℕ → Result ConfigSays Ended → List Entry → Type 0
IsConfigRead path (Ok config) entries = (text : List ℕ) × Says text config
    × (entries ≡ ReadFile path (Ok text) ∷ [])
IsConfigRead path (Err ended) entries = IsUnread path ended.outcome ended.said entries

-- ---- in the code

-- the outcome for a text with this fault
abbrev pub refusal : ConfFault → Outcome
refusal confs.OutOfMemory = OutOfMemory
refusal fault = ConfBad fault

-- the configuration in this text, from the file at this path
abbrev pub IsParsed : List ℕ → List ℕ → Result ConfigSays Ended → Type 0
IsParsed path text (Ok config) = Says text config
IsParsed path text (Err ended) = IsUnread path ended.outcome ended.said (ReadFile path (Ok text) ∷ [])
