-- The text on standard error, and the exit status.
use Rattle.std.specs.Prelude.{◌≡◌, ◌++◌, ℕ, List, [], ◌∷◌, Option, Some, Result, codes, decimal, slice_get, unwrap_or}
use Rattle.booth_base.specs.declared.address.Address.{Address}
use Rattle.booth_base.specs.Address.{printed}
use Rattle.booth_conf.specs.declared.keys.KeyNo.{KeyNo}
use Rattle.booth_conf.specs.Keys.{name_at}
use Rattle.booth_conf.specs.Names.{NamesTicket}
use Rattle.booth_conf.specs.declared.faults.ConfFault.{ConfFault}
use Rattle.booth_conf.specs.declared.faults.ConfFault.TheVariants as confs
use Rattle.booth_keys.specs.declared.key.KeyFault.{KeyFault}
use Rattle.booth_keys.specs.declared.key.KeyFault.TheVariants as keys
use Rattle.booth_following.specs.declared.choosing.FollowFault.{FollowFault}
use Rattle.booth_following.specs.declared.choosing.FollowFault.TheVariants as follows
use Rattle.booth_host.specs.declared.host.Failed.{Failed}
use Rattle.booth_host.specs.declared.entry.Entry.{Entry}
use Rattle.booth_host.specs.declared.entry.Entry.TheVariants as calls
use Rattle.booth_journal.specs.declared.audit_fault.AuditFault.{AuditFault}
use Rattle.booth_journal.specs.declared.audit_fault.AuditFault.TheVariants as audits
use Rattle.clap.specs.declared.error.kind.ErrorKind.TheVariants.{DisplayHelp, DisplayVersion}
use Rattle.booth_cli.specs.declared.program.Program.{Program}
use Rattle.booth_cli.specs.declared.program.Program.TheVariants.{Boothd, Booth, Geostore, BoothFollow}
use Rattle.booth_cli.specs.Commands.{name_of, version}
use Rattle.booth_cli.specs.declared.word.Word.{Word}
use Rattle.booth_cli.specs.declared.word.Word.TheVariants as words
use Rattle.booth_outcomes.specs.declared.outcome.Outcome.{Outcome}
use Rattle.booth_outcomes.specs.declared.outcome.Outcome.TheVariants.{Done, Report, NotRunning, Shown, Usage}

-- a text as it is printed: after the program's name, on a line
abbrev pub spoken : Program → List ℕ → List ℕ
spoken program text = name_of program ++ codes ": " ++ text ++ codes "\n"

-- the program prints one line with this text, whatever the host answers, or nothing if the text is empty
abbrev pub IsText : Program → List ℕ → List Entry → Type 0
IsText program [] entries = entries ≡ []
IsText program (b ∷ text) entries = (answer : Result (Unit {0}) Failed)
    × (entries ≡ calls.Err (spoken program (b ∷ text)) answer ∷ [])

abbrev pub usage_text : Program → List ℕ
usage_text Boothd =
    codes "usage: boothd COMMAND [OPTIONS], with the command daemon, status, sim or audit; see --help behind it, and boothd(8)"
usage_text Booth =
    codes "usage: booth COMMAND [OPTIONS], with the command list, show, peers, status, grant, revoke or move; see --help behind it"
usage_text Geostore =
    codes "usage: geostore COMMAND [OPTIONS], with the command set, get, delete or list; see --help behind it"
usage_text BoothFollow = codes "usage: booth-follow [OPTIONS] -s ADDRESS TICKET PROGRAM; see --help"

-- the output for the version
abbrev pub version_text : Program → List ℕ
version_text program = name_of program ++ codes " " ++ version ++ codes "\n"

abbrev pub bad_word_text : Word → List ℕ
bad_word_text words.Ticket = codes "bad ticket"
bad_word_text words.Name = codes "bad name"
bad_word_text words.Value = codes "bad value"
bad_word_text words.Site = codes "bad site"
bad_word_text words.Number = codes "bad number"
bad_word_text words.Path = codes "bad path"
bad_word_text words.Program = codes "bad program"
bad_word_text words.Configuration = codes "bad configuration"

abbrev pub unread_text : List ℕ → List ℕ
unread_text path = codes "cannot read " ++ path

abbrev pub not_member_text : Address → List ℕ
not_member_text address = printed address ++ codes " is not a member"

abbrev pub not_site_text : Address → List ℕ
not_site_text address = printed address ++ codes " is not a site"

abbrev pub why_not_followed : FollowFault → List ℕ
why_not_followed follows.NoTicket = codes "the configuration has no such ticket"
why_not_followed follows.NotSite = codes "no site has this address"
why_not_followed follows.IsManual = codes "it is manual, and has no lease that ends"
why_not_followed follows.MarginTooLong = codes "the margin is too long for its expire and renewal-freq"
why_not_followed follows.KillTooLong = codes "the time of a kill is not below the margin"
why_not_followed follows.KillTooShort = codes "the time of a kill is below 1 second"

-- about the ticket with this name
abbrev pub not_followed_text : List ℕ → FollowFault → List ℕ
not_followed_text ticket fault = codes "cannot follow ticket " ++ ticket ++ codes ": " ++ why_not_followed fault

-- the name of a key; each key of the table has one
abbrev pub key_name : KeyNo → List ℕ
key_name key = unwrap_or (name_at key) []

abbrev pub key_fault_text : KeyFault → List ℕ
key_fault_text keys.TooShort = codes "key too short"
key_fault_text keys.TooLong = codes "key too long"

abbrev pub out_of_memory_text : List ℕ
out_of_memory_text = codes "out of memory"

-- about the ticket with this name
abbrev pub unread_record_text : List ℕ → List ℕ
unread_record_text name = codes "cannot read the record of " ++ name

abbrev pub unlocked_text : List ℕ → List ℕ
unlocked_text path = codes "cannot lock " ++ path

abbrev pub unopened_text : List ℕ
unopened_text = codes "cannot open"

abbrev pub unprinted_text : List ℕ
unprinted_text = codes "cannot print"

-- the text for a fault of the file at this path
abbrev pub file_text : List ℕ → List ℕ → List ℕ
file_text path what = path ++ codes ": " ++ what

-- the text for a fault of a line of a file
abbrev pub at_line : List ℕ → ℕ → List ℕ → List ℕ
at_line path line what = file_text path (codes "line " ++ decimal line ++ codes ": " ++ what)

-- the text for a fault of the ticket with this name
abbrev pub at_ticket : List ℕ → List ℕ → List ℕ → List ℕ
at_ticket path name what = file_text path (codes "ticket " ++ name ++ codes ": " ++ what)

-- the text for the ticket on the text's `ticket` line with this number
pub record IsTicketText (path text : List ℕ) (ticket : ℕ) (what said : List ℕ) : Type 0 where
  pub name : Option (List ℕ)
  pub named : NamesTicket text ticket name
  pub is : said ≡ at_ticket path (unwrap_or name []) what

-- the text for a fault of a text in the file at this path
abbrev pub IsFaultText : List ℕ → List ℕ → ConfFault → List ℕ → Type 0
IsFaultText path text confs.TooLarge said = said ≡ file_text path (codes "too large")
IsFaultText path text (confs.Syntax line) said = said ≡ at_line path line (codes "syntax")
IsFaultText path text (confs.UnknownKey line) said = said ≡ at_line path line (codes "unknown key")
IsFaultText path text (confs.Misplaced line) said =
    said ≡ at_line path line (codes "misplaced key")
IsFaultText path text (confs.BadValue line key) said =
    said ≡ at_line path line (codes "bad value for " ++ key_name key)
IsFaultText path text (confs.Repeated line) said = said ≡ at_line path line (codes "repeated")
IsFaultText path text (confs.DefaultLate line) said =
    said ≡ at_line path line (codes "__default__ must come first")
IsFaultText path text (confs.TooMany line) said = said ≡ at_line path line (codes "too many")
IsFaultText path text confs.NoSite said = said ≡ file_text path (codes "no site")
IsFaultText path text confs.NoTicket said = said ≡ file_text path (codes "no ticket")
IsFaultText path text (confs.IdClash first second) said =
    said ≡ file_text path (codes "member ids clash")
IsFaultText path text (confs.Renewal ticket) said = IsTicketText path text ticket
    (codes "renewal-freq is not below expire") said
IsFaultText path text (confs.RetryTime ticket) said = IsTicketText path text ticket
    (codes "timeout and retries do not fit renewal-freq") said
IsFaultText path text confs.OutOfMemory said = said ≡ out_of_memory_text

-- the path of the journal at this place; the journal of a fault has one
abbrev pub journal_at : List (List ℕ) → ℕ → List ℕ
journal_at paths place = unwrap_or (slice_get paths place) []

-- the text for a fault of journals in the files at these paths
abbrev pub audit_text : List (List ℕ) → AuditFault → List ℕ
audit_text paths (audits.Line journal line) = at_line (journal_at paths journal) line (codes "syntax")
audit_text paths (audits.Member journal) = file_text (journal_at paths journal) (codes "member")
audit_text paths (audits.Differs journal line) = at_line (journal_at paths journal) line (codes "differs")
audit_text paths (audits.Kept journal line) = at_line (journal_at paths journal) line (codes "record")
audit_text paths (audits.Unsent journal line) = at_line (journal_at paths journal) line (codes "unsent")
audit_text paths audits.OutOfMemory = out_of_memory_text

abbrev pub status_of : Outcome → ℕ
status_of Done = 0
status_of Report = 0
status_of (Shown page) = 0
status_of NotRunning = 7
status_of (Usage (Some DisplayHelp)) = 0
status_of (Usage (Some DisplayVersion)) = 0
status_of outcome = 1
