-- The request of a command line, or why it has none.
use Rattle.std.specs.Prelude.{◌≡◌, ℕ, Bool, true, false, T, List, [], Option, Some, None, is_some, Result, Ok, Err, if◌then◌else◌}
use Rattle.clap.specs.Words.{IsAmong, fault_of, kind_of, takes}
use Rattle.clap.specs.declared.error.kind.ErrorKind.{ErrorKind}
use Rattle.clap.specs.declared.error.kind.ErrorKind.TheVariants as kinds
use Rattle.booth_cli.specs.declared.command.Verb.{Verb}
use Rattle.booth_cli.specs.declared.command.Verb.TheVariants as verbs
use Rattle.booth_cli.specs.declared.word.Word.{Word}
use Rattle.booth_cli.specs.declared.reading.Read.{Read}
use Rattle.booth_cli.specs.declared.asking.DaemonWords.{DaemonWords}
use Rattle.booth_cli.specs.declared.asking.SimulationWords.{SimulationWords}
use Rattle.booth_cli.specs.declared.asking.AuditWords.{AuditWords}
use Rattle.booth_cli.specs.declared.asking.Asked.{Asked}
use Rattle.booth_cli.specs.declared.asking.Asked.TheVariants.{Daemon, Status, Simulation, Audit, Client, Move, Follow}
use Rattle.booth_cli.specs.declared.asking.ClientWords.{ClientWords}
use Rattle.booth_cli.specs.declared.asking.MoveWords.{MoveWords}
use Rattle.booth_cli.specs.declared.asking.FollowWords.{FollowWords}
use Rattle.booth_cli.specs.declared.program.Program.{Program}
use Rattle.booth_cli.specs.declared.program.Program.TheVariants.{Boothd, Booth, Geostore, BoothFollow}
use Rattle.booth_talk.specs.declared.order.Order.{Order}
use Rattle.booth_talk.specs.declared.order.Order.TheVariants as orders
use Rattle.booth_talk.specs.declared.order.Style.{Style}
use Rattle.booth_talk.specs.declared.order.Style.TheVariants.{Line, Json}
use Rattle.booth_cli.specs.declared.asking.Refusal.{Refusal}
use Rattle.booth_cli.specs.declared.asking.Refusal.TheVariants.{NoCommand, About, Untaken, Bad}
use Rattle.booth_cli.specs.declared.page.Page.{Page}
use Rattle.booth_cli.specs.Commands.{app_for, verb_in}
use Rattle.booth_cli.specs.Pages.{page_in}
use Rattle.booth_cli.specs.Given.{found_in}
use Rattle.booth_cli.specs.Reading.{IsFirstRefused, IsRead}

-- arguments that a program's command accepts, each accepted by its reader, and their meaning
pub record AreTaken (program : Program) (words : List (List ℕ)) (verb : Verb) (read : Read) : Type 0 where
  pub named : verb_in program words ≡ Some verb
  pub taken : fault_of (app_for verb) words ≡ []
  pub says : IsRead (found_in verb words) read

-- the meaning for a daemon
pub record IsDaemonOf (read : Read) (asked : DaemonWords) : Type 0 where
  pub site : read.site ≡ Some asked.site
  pub turns : asked.turns ≡ read.turns
  pub lock : asked.lock ≡ read.lock
  pub records : asked.records ≡ read.records
  pub conf : asked.conf ≡ read.conf

-- the arguments ask for this daemon
pub record AsksDaemon (words : List (List ℕ)) (asked : DaemonWords) : Type 0 where
  pub all : Read
  pub asks : AreTaken Boothd words verbs.Daemon all
  pub same : IsDaemonOf all asked

-- the path of the configuration in the arguments
abbrev pub named_conf : Bool → List ℕ → Option (List ℕ)
named_conf names conf = if names then Some conf else None

-- the meaning for a simulation
pub record IsSimulationOf (read : Read) (asked : SimulationWords) : Type 0 where
  pub conf : asked.conf ≡ named_conf read.names_conf read.conf
  pub events : asked.events ≡ read.events
  pub number : asked.number ≡ read.number

-- the arguments ask for this simulation
pub record AsksSimulation (words : List (List ℕ)) (asked : SimulationWords) : Type 0 where
  pub all : Read
  pub asks : AreTaken Boothd words verbs.Simulate all
  pub same : IsSimulationOf all asked

-- the meaning for an audit
pub record IsAuditOf (read : Read) (asked : AuditWords) : Type 0 where
  pub conf : asked.conf ≡ read.conf
  pub journals : asked.journals.items ≡ read.journals.items

-- the arguments ask for this audit
pub record AsksAudit (words : List (List ℕ)) (asked : AuditWords) : Type 0 where
  pub all : Read
  pub asks : AreTaken Boothd words verbs.Audit all
  pub same : IsAuditOf all asked

-- the arguments ask whether the daemon with this lock runs
pub record AsksStatus (words : List (List ℕ)) (lock : List ℕ) : Type 0 where
  pub all : Read
  pub asks : AreTaken Boothd words verbs.Status all
  pub same : lock ≡ all.lock

-- the ticket and the attribute that were read
pub record Names (read : Read) (ticket name : List ℕ) : Type 0 where
  pub of_ticket : read.ticket ≡ Some ticket
  pub named : read.name ≡ Some name

-- the form of the output for one ticket
abbrev pub style_of : Bool → Style
style_of json = if json then Json else Line

-- the order of a client's command
abbrev pub HasOrder : Verb → Read → Order → Type 0
HasOrder verbs.List read orders.List = Unit {0}
HasOrder verbs.Show read (orders.Show ticket style) = (read.ticket ≡ Some ticket) × (style ≡ style_of read.json)
HasOrder verbs.Peers read orders.Peers = Unit {0}
HasOrder verbs.DaemonStatus read orders.Status = Unit {0}
HasOrder verbs.Grant read (orders.Grant ticket options) = (read.ticket ≡ Some ticket) × (options ≡ read.options)
HasOrder verbs.Revoke read (orders.Revoke ticket options) = (read.ticket ≡ Some ticket) × (options ≡ read.options)
HasOrder verbs.SetAttribute read (orders.SetAttribute ticket name value) =
    Names read ticket name × (read.value ≡ Some value)
HasOrder verbs.GetAttribute read (orders.GetAttribute ticket name) = Names read ticket name
HasOrder verbs.DeleteAttribute read (orders.DeleteAttribute ticket name) = Names read ticket name
HasOrder verbs.ListAttributes read (orders.ListAttributes ticket) = read.ticket ≡ Some ticket
HasOrder verb read order = ⊥

-- the meaning for a client
pub record IsClientOf (verb : Verb) (read : Read) (asked : ClientWords) : Type 0 where
  pub order : HasOrder verb read asked.order
  pub site : asked.site ≡ read.site
  pub conf : asked.conf ≡ read.conf

-- the program sends requests to a daemon
abbrev pub is_client : Program → Bool
is_client Booth = true
is_client Geostore = true
is_client program = false

abbrev pub IsClient : Program → Type 0
IsClient program = T (is_client program)

-- the arguments ask for this client
pub record AsksClient (program : Program) (words : List (List ℕ)) (asked : ClientWords) : Type 0 where
  pub verb : Verb
  pub all : Read
  pub asks : AreTaken program words verb all
  pub same : IsClientOf verb all asked

-- the meaning for a move
pub record IsMoveOf (read : Read) (asked : MoveWords) : Type 0 where
  pub of_ticket : read.ticket ≡ Some asked.ticket
  pub target : read.target ≡ Some asked.target
  pub wait : asked.wait ≡ read.options.wait
  pub force : asked.force ≡ read.force
  pub site : asked.site ≡ read.site
  pub conf : asked.conf ≡ read.conf

-- the arguments ask for this move
pub record AsksMove (words : List (List ℕ)) (asked : MoveWords) : Type 0 where
  pub all : Read
  pub asks : AreTaken Booth words verbs.Move all
  pub same : IsMoveOf all asked

-- the meaning for a service that follows its ticket
pub record IsFollowOf (read : Read) (asked : FollowWords) : Type 0 where
  pub of_ticket : read.ticket ≡ Some asked.ticket
  pub site : read.site ≡ Some asked.site
  pub program : read.program ≡ Some asked.program
  pub margin : asked.margin ≡ read.margin
  pub kill : asked.kill ≡ read.kill
  pub restart : asked.restart ≡ read.restart
  pub records : asked.records ≡ read.records
  pub conf : asked.conf ≡ read.conf

-- the arguments ask for this service
pub record AsksFollow (words : List (List ℕ)) (asked : FollowWords) : Type 0 where
  pub all : Read
  pub asks : AreTaken BoothFollow words verbs.Follow all
  pub same : IsFollowOf all asked

-- the first argument is no command of the program, and asks for this text about it
pub record AsksAbout (program : Program) (words : List (List ℕ)) (page : Page) : Type 0 where
  pub no_command : verb_in program words ≡ None
  pub named : page_in program words ≡ Some page

-- the first argument is no command of the program, and asks for no text about it
pub record AsksNothing (program : Program) (words : List (List ℕ)) : Type 0 where
  pub no_command : verb_in program words ≡ None
  pub no_page : page_in program words ≡ None

-- the first argument is a command of the program; `booth-follow` accepts any
pub record NamesCommand (program : Program) (words : List (List ℕ)) : Type 0 where
  pub verb : Verb
  pub named : verb_in program words ≡ Some verb

-- the command does not accept the arguments, and they have a fault of this kind
pub record IsUntaken (program : Program) (words : List (List ℕ)) (kind : ErrorKind) : Type 0 where
  pub verb : Verb
  pub named : verb_in program words ≡ Some verb
  pub among : IsAmong kind (fault_of (app_for verb) words)
  pub untaken : takes (app_for verb) words ≡ true → ⊥

-- the same, or out of memory, which is possible with any arguments of a command
abbrev pub IsUntakenFor : Program → List (List ℕ) → ErrorKind → Type 0
IsUntakenFor program words kinds.OutOfMemory = NamesCommand program words
IsUntakenFor program words kind = IsUntaken program words kind

-- a command accepts the arguments, and this is the first that its reader refuses
pub record HasBadWord (program : Program) (words : List (List ℕ)) (word : Word) : Type 0 where
  pub verb : Verb
  pub named : verb_in program words ≡ Some verb
  pub taken : fault_of (app_for verb) words ≡ []
  pub first : IsFirstRefused (found_in verb words) word

-- ---- in the code

-- the ticket and the name of an attribute were read
pub record AttributeRead (read : Read) : Type 0 where
  pub ticket : is_some read.ticket ≡ true
  pub name : is_some read.name ≡ true

-- the ticket, this site and the program of a service were read
pub record ServiceRead (read : Read) : Type 0 where
  pub ticket : is_some read.ticket ≡ true
  pub site : is_some read.site ≡ true
  pub program : is_some read.program ≡ true

-- the arguments that a command needs were read
abbrev pub HasWords : Verb → Read → Type 0
HasWords verbs.Daemon read = is_some read.site ≡ true
HasWords verbs.Show read = is_some read.ticket ≡ true
HasWords verbs.Grant read = is_some read.ticket ≡ true
HasWords verbs.Revoke read = is_some read.ticket ≡ true
HasWords verbs.Move read = (is_some read.ticket ≡ true) × (is_some read.target ≡ true)
HasWords verbs.SetAttribute read = AttributeRead read × (is_some read.value ≡ true)
HasWords verbs.GetAttribute read = AttributeRead read
HasWords verbs.DeleteAttribute read = AttributeRead read
HasWords verbs.ListAttributes read = is_some read.ticket ≡ true
HasWords verbs.Follow read = ServiceRead read
HasWords verb read = Unit {0}

-- the meaning of a client's arguments, with its order
abbrev pub client_of : Order → Read → ClientWords
client_of order read = record { order = order; site = read.site; conf = read.conf }

-- the request of a command after its arguments were read
abbrev pub IsAskedBy : Verb → Read → Asked → Type 0
IsAskedBy verbs.Daemon read (Daemon asked) = IsDaemonOf read asked
IsAskedBy verbs.Status read (Status lock) = lock ≡ read.lock
IsAskedBy verbs.Simulate read (Simulation asked) = IsSimulationOf read asked
IsAskedBy verbs.Audit read (Audit asked) = IsAuditOf read asked
IsAskedBy verb read (Client asked) = IsClientOf verb read asked
IsAskedBy verbs.Move read (Move asked) = IsMoveOf read asked
IsAskedBy verbs.Follow read (Follow asked) = IsFollowOf read asked
IsAskedBy verb read asked = ⊥

-- the result of reading the arguments
abbrev pub Asks : Program → List (List ℕ) → Result Asked Refusal → Type 0
Asks program words (Ok (Daemon asked)) = (program ≡ Boothd) × AsksDaemon words asked
Asks program words (Ok (Status lock)) = (program ≡ Boothd) × AsksStatus words lock
Asks program words (Ok (Simulation asked)) = (program ≡ Boothd) × AsksSimulation words asked
Asks program words (Ok (Audit asked)) = (program ≡ Boothd) × AsksAudit words asked
Asks program words (Ok (Client asked)) = IsClient program × AsksClient program words asked
Asks program words (Ok (Move asked)) = (program ≡ Booth) × AsksMove words asked
Asks program words (Ok (Follow asked)) = (program ≡ BoothFollow) × AsksFollow words asked
Asks program words (Err NoCommand) = AsksNothing program words
Asks program words (Err (About page)) = AsksAbout program words page
Asks program words (Err (Untaken error)) = IsUntakenFor program words (kind_of error)
Asks program words (Err (Bad word)) = HasBadWord program words word
