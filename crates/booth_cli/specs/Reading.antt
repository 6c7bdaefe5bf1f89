-- The meaning of options and arguments for their readers, and which is refused first.
use Rattle.std.specs.Prelude.{◌≡◌, ◌<◌, ◌≤◌, ◌^◌, ◌==◌, ◌&&◌, ◌⊎◌, ◌++◌}
use Rattle.std.specs.Prelude.{◌*◌, nat_le, nat_lt, decimal, ℕ, Bool, false, List, Option, Some, None, Result, Ok, Err}
use Rattle.std.specs.Prelude.{◌-◌, codes, is_some, IsSomeAnd, length, unwrap_or, if◌then◌else◌}
use Rattle.std.specs.Prelude.{eqb}
use Rattle.std.specs.List.{list_all, list_any, ends_with}
use Rattle.booth_base.specs.declared.address.Address.{Address}
use Rattle.booth_base.specs.Address.{Spells}
use Rattle.booth_base.specs.Name.{is_name, is_value}
use Rattle.booth_talk.specs.declared.order.Options.{Options}
use Rattle.booth_following.specs.declared.programs.TheConstants.{PATH_BYTES, PROGRAM_BYTES}
use Rattle.booth_following.specs.declared.programs.Programs.{Programs}
use Rattle.booth_following.specs.Programs.{programs_of}
use Rattle.booth_cli.specs.declared.word.Word.{Word}
use Rattle.booth_cli.specs.declared.word.Word.TheVariants as words
use Rattle.booth_cli.specs.declared.reading.TheConstants.{EVENTS, MOST_EVENTS, MOST_SECONDS, MOST_TURNS, NUMBER}
use Rattle.booth_cli.specs.declared.reading.Addresses.{Addresses}
use Rattle.booth_cli.specs.declared.reading.Counts.{Counts}
use Rattle.booth_cli.specs.declared.reading.Times.{Times}
use Rattle.booth_cli.specs.declared.reading.Named.{Named}
use Rattle.booth_cli.specs.declared.reading.Numbers.{Numbers}
use Rattle.booth_cli.specs.declared.reading.Read.{Read}
use Rattle.booth_cli.specs.declared.reading.Unread.{Unread}
use Rattle.booth_cli.specs.declared.reading.Unread.TheVariants.{Bad, NoMemory}
use Rattle.booth_cli.specs.declared.paths.Paths.{Paths}
use Rattle.booth_cli.specs.declared.paths.PathsFault.{PathsFault}
use Rattle.booth_cli.specs.declared.paths.PathsFault.TheVariants as paths
use Rattle.booth_cli.specs.Given.{Texts}

-- ---- the path of the configuration

abbrev pub with_ending : List ℕ → List ℕ
with_ending word = if ends_with eqb word (codes ".conf") then word else word ++ codes ".conf"

-- an argument with a slash is a path, and any other is a name in `/etc/booth`
abbrev pub completed : List ℕ → List ℕ
completed word =
    if list_any (λ b. b == 0x2F) word then word else codes "/etc/booth/" ++ with_ending word

abbrev pub conf_path : Option (List ℕ) → List ℕ
conf_path word = completed (unwrap_or word (codes "booth"))

-- ---- the other options

abbrev pub default_lock : List ℕ
default_lock = codes "/var/run/booth.lock"

abbrev pub default_records : List ℕ
default_records = codes "/var/lib/booth"

abbrev pub IsNoName : Option (List ℕ) → Type 0
IsNoName word = IsSomeAnd word (λ text. is_name text ≡ false)

abbrev pub IsNoValue : Option (List ℕ) → Type 0
IsNoValue word = IsSomeAnd word (λ text. is_value text ≡ false)

abbrev pub IsNoAddress : Option (List ℕ) → Type 0
IsNoAddress word = IsSomeAnd word (λ text. (address : Address) → Spells text address → ⊥)

-- a path of at least one byte
abbrev pub is_path : List ℕ → Bool
is_path text = nat_le 1 (length text) && nat_le (length text) PATH_BYTES

abbrev pub IsNoPath : Option (List ℕ) → Type 0
IsNoPath word = IsSomeAnd word (λ text. is_path text ≡ false)

-- one of these is no path
abbrev pub AreNoPaths : List (List ℕ) → Type 0
AreNoPaths texts = list_all is_path texts ≡ false

-- a number in this range, in decimal digits without a sign or a leading zero
pub record IsNumber (low high : ℕ) (text : List ℕ) (n : ℕ) : Type 0 where
  pub spelled : text ≡ decimal n
  pub least : low ≤ n
  pub most : n ≤ high

abbrev pub IsNoNumber : ℕ → ℕ → Option (List ℕ) → Type 0
IsNoNumber low high word = IsSomeAnd word (λ text. (n : ℕ) → IsNumber low high text n → ⊥)

-- a program with its arguments, which does not consist of blanks, and has room for another argument
abbrev pub is_program : List ℕ → Bool
is_program text = list_any (λ b. nat_lt 0x20 b) text && nat_le (length text) PROGRAM_BYTES

abbrev pub IsNoProgram : Option (List ℕ) → Type 0
IsNoProgram word = IsSomeAnd word (λ text. is_program text ≡ false)

-- a time in whole seconds
abbrev pub IsNoTime : Option (List ℕ) → Type 0
IsNoTime text = IsNoNumber 1 MOST_SECONDS text

-- ---- refusals

-- a number of turns or of events, or the seed of a simulation
abbrev pub RefusesCount : Texts → Type 0
RefusesCount t = IsNoNumber 1 MOST_TURNS t.turns
    ⊎ (IsNoNumber 0 MOST_EVENTS t.events ⊎ IsNoNumber 0 (2 ^ 64 - 1) t.number)

-- a margin, or the time of a kill
abbrev pub RefusesTime : Texts → Type 0
RefusesTime t = IsNoTime t.margin ⊎ IsNoTime t.kill

-- the lock, the directory of records, or a journal
abbrev pub RefusesPath : Texts → Type 0
RefusesPath t = IsNoPath t.lock ⊎ (IsNoPath t.records ⊎ AreNoPaths t.journals)

-- The reader of this kind of argument refuses.
abbrev pub Refuses : Texts → Word → Type 0
Refuses t words.Ticket = IsNoName t.ticket
Refuses t words.Name = IsNoName t.name
Refuses t words.Value = IsNoValue t.value
Refuses t words.Site = IsNoAddress t.target ⊎ IsNoAddress t.site
Refuses t words.Number = RefusesCount t ⊎ RefusesTime t
Refuses t words.Path = RefusesPath t
Refuses t words.Program = IsNoProgram t.program
Refuses t words.Configuration = PATH_BYTES < length (conf_path t.conf)

-- the order in which refusals are reported
abbrev pub place_of : Word → ℕ
place_of words.Ticket = 0
place_of words.Name = 1
place_of words.Value = 2
place_of words.Site = 3
place_of words.Number = 4
place_of words.Path = 5
place_of words.Program = 6
place_of words.Configuration = 7

-- this is the first argument that is refused
pub record IsFirstRefused (t : Texts) (word : Word) : Type 0 where
  pub refused : Refuses t word
  pub first : (other : Word) → place_of other < place_of word → Refuses t other → ⊥

-- ---- the result of reading

-- the result for an argument is the meaning of its text, or there is neither
abbrev pub IsReadAs : {A : Type 0} → (List ℕ → A → Type 0) → Option (List ℕ) → Option A → Type 0
IsReadAs says None read = read ≡ None
IsReadAs says (Some text) read = IsSomeAnd read (says text)

-- the name or the value in an argument is its bytes
abbrev pub HasName : Option (List ℕ) → Option (List ℕ) → Type 0
HasName word read = IsReadAs (λ text name. name ≡ text) word read

-- the flags
abbrev pub options_in : Texts → Options
options_in t = record { immediate = t.immediate; wait = t.wait; commit = t.commit }

abbrev pub HasAddress : Option (List ℕ) → Option Address → Type 0
HasAddress word read = IsReadAs Spells word read

abbrev pub HasNumber : ℕ → ℕ → Option (List ℕ) → Option ℕ → Type 0
HasNumber low high word read = IsReadAs (IsNumber low high) word read

-- the number in an argument, or this one if there is no argument
abbrev pub HasNumberOr : ℕ → ℕ → ℕ → Option (List ℕ) → ℕ → Type 0
HasNumberOr low high default None n = n ≡ default
HasNumberOr low high default (Some text) n = IsNumber low high text n

-- the programs for an argument, with each word with which a service is run
abbrev pub HasProgram : Option (List ℕ) → Option Programs → Type 0
HasProgram word read = IsReadAs (λ text programs. programs ≡ programs_of text) word read

-- this number of milliseconds is the number of seconds of an argument
pub record AreSeconds (text : List ℕ) (millis : ℕ) : Type 0 where
  pub seconds : ℕ
  pub is : IsNumber 1 MOST_SECONDS text seconds
  pub same : millis ≡ seconds * 1000

abbrev pub HasTime : Option (List ℕ) → Option ℕ → Type 0
HasTime word read = IsReadAs AreSeconds word read

-- the counts in the arguments: none is refused
pub record AreCounts (t : Texts) (n : Counts) : Type 0 where
  pub accepted : RefusesCount t → ⊥
  pub turns : HasNumber 1 MOST_TURNS t.turns n.turns
  pub events : HasNumberOr 0 MOST_EVENTS EVENTS t.events n.events
  pub number : HasNumberOr 0 (2 ^ 64 - 1) NUMBER t.number n.number

-- the times in the arguments: neither is refused
pub record AreTimes (t : Texts) (n : Times) : Type 0 where
  pub accepted : RefusesTime t → ⊥
  pub margin : HasTime t.margin n.margin
  pub kill : HasTime t.kill n.kill

-- the numbers in the arguments: none is refused
pub record AreNumbers (t : Texts) (n : Numbers) : Type 0 where
  pub accepted : Refuses t words.Number → ⊥
  pub counts : AreCounts t n.counts
  pub times : AreTimes t n.times

-- the addresses in the arguments: neither is refused
pub record AreAddresses (t : Texts) (a : Addresses) : Type 0 where
  pub accepted : Refuses t words.Site → ⊥
  pub target : HasAddress t.target a.target
  pub site : HasAddress t.site a.site

-- one of some paths is refused, or memory for them was out
abbrev pub IsPathsFault : Type 0 → PathsFault → Type 0
IsPathsFault Refuses paths.Refused = Refuses
IsPathsFault Refuses paths.NoMemory = Unit {0}

-- the paths in the arguments: none is refused
pub record ArePaths (t : Texts) (p : Paths) : Type 0 where
  pub accepted : Refuses t words.Path → ⊥
  pub lock : p.lock ≡ unwrap_or t.lock default_lock
  pub records : p.records ≡ unwrap_or t.records default_records
  pub journals : p.journals.items ≡ t.journals

-- no argument is refused, and this is their meaning
pub record IsRead (t : Texts) (r : Read) : Type 0 where
  pub accepted : (word : Word) → Refuses t word → ⊥
  pub ticket : HasName t.ticket r.ticket
  pub name : HasName t.name r.name
  pub value : HasName t.value r.value
  pub options : r.options ≡ options_in t
  pub force : r.force ≡ t.force
  pub json : r.json ≡ t.json
  pub restart : r.restart ≡ t.restart
  pub target : HasAddress t.target r.target
  pub site : HasAddress t.site r.site
  pub turns : HasNumber 1 MOST_TURNS t.turns r.turns
  pub events : HasNumberOr 0 MOST_EVENTS EVENTS t.events r.events
  pub number : HasNumberOr 0 (2 ^ 64 - 1) NUMBER t.number r.number
  pub margin : HasTime t.margin r.margin
  pub kill : HasTime t.kill r.kill
  pub program : HasProgram t.program r.program
  pub journals : r.journals.items ≡ t.journals
  pub names_conf : r.names_conf ≡ is_some t.conf
  pub lock : r.lock ≡ unwrap_or t.lock default_lock
  pub records : r.records ≡ unwrap_or t.records default_records
  pub conf : r.conf ≡ conf_path t.conf

-- the names and the value were read, or this argument is the first that is refused
pub record AreNamed (t : Texts) (n : Named) : Type 0 where
  pub ticket : HasName t.ticket n.ticket
  pub name : HasName t.name n.name
  pub value : HasName t.value n.value
  pub no_ticket : Refuses t words.Ticket → ⊥
  pub no_name : Refuses t words.Name → ⊥
  pub no_value : Refuses t words.Value → ⊥

abbrev pub Names : Texts → Result Named Word → Type 0
Names t (Ok n) = AreNamed t n
Names t (Err word) = IsFirstRefused t word

-- the first argument that is refused, or out of memory, which is possible with any arguments
abbrev pub IsUnread : Texts → Unread → Type 0
IsUnread t (Bad word) = IsFirstRefused t word
IsUnread t NoMemory = Unit {0}

abbrev pub Reads : Texts → Result Read Unread → Type 0
Reads t (Ok r) = IsRead t r
Reads t (Err unread) = IsUnread t unread
