-- The calls of a whole run of booth or geostore.
use Rattle.std.specs.Prelude.{◌≡◌, ◌⊎◌, ◌++◌, ℕ, List, [], ◌∷◌, Option, Some, None, Ok, Err, Contains, codes, if◌then◌else◌, Bool, true, false, T}
use Rattle.std.specs.Str.{bytes_eq}
use Rattle.booth_host.specs.declared.entry.Entry.{Entry}
use Rattle.booth_cli.specs.declared.program.Program.{Program}
use Rattle.booth_cli.specs.declared.program.Program.TheVariants.{Booth}
use Rattle.booth_outcomes.specs.declared.outcome.Outcome.{Outcome}
use Rattle.booth_outcomes.specs.declared.outcome.Outcome.TheVariants.{Usage, Shown, BadWord, ConfUnread, ConfBad, KeyUnread, KeyBad}
use Rattle.booth_outcomes.specs.declared.outcome.Outcome.TheVariants.{OpenFault, SendFault, NoReply, NotRunning, Report, Refused, PrintFault, OutOfMemory}
use Rattle.booth_outcomes.specs.declared.outcome.Outcome.TheVariants.{NotSite, Stranded}
use Rattle.booth_cli.specs.declared.asking.ClientWords.{ClientWords}
use Rattle.booth_cli.specs.declared.asking.MoveWords.{MoveWords}
use Rattle.booth_cli.specs.Asking.{AsksAbout, AsksClient, AsksMove, AsksNothing, NamesCommand, IsUntaken, HasBadWord}
use Rattle.booth_outcomes.specs.Unasked.{IsRequest, IsUnasked}
use Rattle.booth_tools.specs.Client.{IsClientLog}
use Rattle.booth_tools.specs.MoveRun.{IsMoveLog}
use Rattle.booth_outcomes.specs.Texts.{IsText}
use Rattle.booth_base.specs.declared.address.Address.{Address}
use Rattle.booth_base.specs.declared.address.Peer.{Peer}
use Rattle.booth_conf.specs.Config.{ConfigSays}
use Rattle.booth_conf.specs.Says.{Says}
use Rattle.booth_host.specs.declared.host.Failed.{Failed}
use Rattle.booth_host.specs.declared.host.ReadFault.TheVariants as reads
use Rattle.booth_host.specs.declared.entry.Entry.TheVariants.{Open, ReadFile, Send, Out}
use Rattle.booth_cli.specs.declared.command.Verb.{Verb}
use Rattle.booth_cli.specs.declared.command.Verb.TheVariants as verbs
use Rattle.booth_cli.specs.Valid.{AreValid}
use Rattle.booth_outcomes.specs.Keys.{IsKeyFile, NamesKeyFile}

-- one leading `client` is ignored
abbrev pub passed : List (List ℕ) → List (List ℕ)
passed [] = []
passed (word ∷ words) = if bytes_eq word (codes "client") then words else word ∷ words

-- the calls, up to the call that decides the outcome, for these arguments
pub data IsClientMade (program : Program) (words : List (List ℕ)) (outcome : Outcome) (said : List ℕ)
    (entries : List Entry) : Type 0 where
  Unasked : IsUnasked program words outcome said entries → IsClientMade program words outcome said entries
  Talked : (asked : ClientWords) → AsksClient program words asked → IsClientLog asked outcome said entries →
      IsClientMade program words outcome said entries
  Moved : (asked : MoveWords) → program ≡ Booth → AsksMove words asked → IsMoveLog asked outcome said entries →
      IsClientMade program words outcome said entries

-- all calls of a run with these arguments, the last of which reports how it ended
pub record IsClientRun (program : Program) (words : List (List ℕ)) (outcome : Outcome) (entries : List Entry)
    : Type 0 where
  pub said : List ℕ
  pub body : List Entry
  pub last : List Entry
  pub whole : entries ≡ body ++ last
  pub made : IsClientMade program words outcome said body
  pub told : IsText program said last

-- ---- for every host

-- an outcome of a client
abbrev pub is_answered : Outcome → Bool
is_answered ConfUnread = true
is_answered (ConfBad fault) = true
is_answered KeyUnread = true
is_answered (KeyBad fault) = true
is_answered OpenFault = true
is_answered SendFault = true
is_answered NoReply = true
is_answered NotRunning = true
is_answered Report = true
is_answered (Refused result) = true
is_answered PrintFault = true
is_answered OutOfMemory = true
is_answered outcome = false

abbrev pub IsAnswered : Outcome → Type 0
IsAnswered outcome = T (is_answered outcome)

-- an outcome of a move
abbrev pub IsMoveAnswered : Outcome → Type 0
IsMoveAnswered NotSite = Unit {0}
IsMoveAnswered (Stranded result) = Unit {0}
IsMoveAnswered outcome = IsAnswered outcome

-- the arguments ask for a client, with any options
pub record AskForClient (program : Program) (words : List (List ℕ)) : Type 0 where
  pub asked : ClientWords
  pub asks : AsksClient program words asked

-- the arguments ask for a move, with any options
pub record AskForMove (program : Program) (words : List (List ℕ)) : Type 0 where
  pub asked : MoveWords
  pub own : program ≡ Booth
  pub asks : AsksMove words asked

-- The outcome fits the arguments. Usage comes only for invalid arguments and for requests of a command's help or
-- version, Shown only if the arguments ask for that text, and BadWord exactly if that argument is the first invalid
-- one. NotSite and Stranded come only for the arguments of a move. Out of memory comes only if there is a command.
-- Every other outcome comes only for the arguments of a client or of a move.
abbrev pub FitsClientWords : Program → List (List ℕ) → Outcome → Type 0
FitsClientWords program words (Usage None) = AsksNothing program words
FitsClientWords program words (Usage (Some kind)) = IsUntaken program words kind
FitsClientWords program words (Shown page) = AsksAbout program words page
FitsClientWords program words (BadWord word) = HasBadWord program words word
FitsClientWords program words PrintFault =
    (AskForClient program words ⊎ AskForMove program words) ⊎ IsRequest program words
FitsClientWords program words OutOfMemory = NamesCommand program words
FitsClientWords program words NotSite = AskForMove program words
FitsClientWords program words (Stranded result) = AskForMove program words
FitsClientWords program words outcome =
    (AskForClient program words ⊎ AskForMove program words) × IsAnswered outcome

-- ---- if nothing fails

-- No file, socket, send or print failed; the file at the path spells a configuration, and the key file that it names
-- holds a key.
pub record IsUnhindered (conf : List ℕ) (entries : List Entry) : Type 0 where
  pub read : (file : List ℕ) → Contains entries (ReadFile file (Err reads.Failed)) → ⊥
  pub valid : (text : List ℕ) → Contains entries (ReadFile conf (Ok text)) →
      (config : ConfigSays) × Says text config
  pub keyed : (text file key_text : List ℕ) (config : ConfigSays) → Contains entries
      (ReadFile conf (Ok text)) → Says text config →
      NamesKeyFile config file → Contains entries (ReadFile file (Ok key_text)) → IsKeyFile key_text
  pub opened : (local : Option Address) (port : ℕ) (records conf_path : List ℕ) (failed : Failed) →
      Contains entries (Open local port records conf_path (Err failed)) → ⊥
  pub sent : (to : Peer) (bytes : List ℕ) (failed : Failed) → Contains entries (Send to bytes (Err failed)) → ⊥
  pub printed : (text : List ℕ) (failed : Failed) → Contains entries (Out text (Err failed)) → ⊥

-- the outcomes without a fault, by the command
abbrev pub is_talked : Verb → Outcome → Bool
is_talked verb Report = true
is_talked verb (Refused result) = true
is_talked verb NoReply = true
is_talked verb NotRunning = true
is_talked verb OutOfMemory = true
is_talked verbs.Move NotSite = true
is_talked verbs.Move (Stranded result) = true
is_talked verb outcome = false

abbrev pub IsTalked : Verb → Outcome → Type 0
IsTalked verb outcome = T (is_talked verb outcome)

-- Valid arguments, a valid file and key and an environment that does not fail give Report, Refused, NoReply,
-- NotRunning or OutOfMemory; those of a move may also give NotSite or Stranded, and there are no others.
abbrev pub FaultlessTalks : Type 0
FaultlessTalks = (program : Program) (words : List (List ℕ)) (verb : Verb) (outcome : Outcome) (entries : List Entry) →
    AreValid program words verb → IsClientRun program words outcome entries →
    ((asked : ClientWords) → AsksClient program words asked → IsUnhindered asked.conf entries) →
    ((asked : MoveWords) → AsksMove words asked → IsUnhindered asked.conf entries) → IsTalked verb outcome
