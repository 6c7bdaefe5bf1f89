-- The configuration that a text spells, or the first fault of the text.
use Rattle.std.specs.Prelude.{◌≡◌, ◌≤◌, ◌<◌, ◌+◌, ℕ, List, length, Some, None, Result, Ok, Err, ◌⊎◌}
use Rattle.booth_conf.specs.Said.{AreSaid}
use Rattle.booth_conf.specs.Rules.{summary, settings, AreFine, IsFirstFault}
use Rattle.booth_conf.specs.Reads.{lines_of}
use Rattle.booth_conf.specs.Config.{ConfigSays, config_of, file_fault}
use Rattle.booth_conf.specs.Print.{printed}
use Rattle.booth_conf.specs.Sound.{IsSound}
use Rattle.booth_conf.specs.declared.limits.TheConstants.{TEXT_BYTES}
use Rattle.booth_conf.specs.declared.line_meaning.Said.{Said}
use Rattle.booth_conf.specs.declared.faults.ConfFault.{ConfFault}
use Rattle.booth_conf.specs.declared.faults.ConfFault.TheVariants.{TooLarge, Syntax, UnknownKey, Misplaced, BadValue, Repeated, DefaultLate, TooMany, OutOfMemory}
use Rattle.booth_conf.specs.declared.faults.LineFault.{LineFault}
use Rattle.booth_conf.specs.declared.faults.LineFault.TheVariants as faults

-- the configuration of the lines' settings
abbrev pub said_config : List Said → ConfigSays
said_config said = config_of (summary (settings said))

-- the text spells this configuration
pub record Says (text : List ℕ) (config : ConfigSays) : Type 0 where
  pub short : length text ≤ TEXT_BYTES
  pub said : List Said
  pub reads : AreSaid (lines_of text) said
  pub fine : AreFine said
  pub value : config ≡ said_config said
  pub whole : file_fault config.members config.tickets ≡ None

-- the first line with a fault; lines count from 1
pub record HasLineFault (text : List ℕ) (line : ℕ) (fault : LineFault) : Type 0 where
  pub short : length text ≤ TEXT_BYTES
  pub said : List Said
  pub reads : AreSaid (lines_of text) said
  pub place : ℕ
  pub number : line ≡ place + 1
  pub first_one : IsFirstFault said place fault

-- no line has a fault, and this is the first of the whole file
pub record HasFileFault (text : List ℕ) (fault : ConfFault) : Type 0 where
  pub short : length text ≤ TEXT_BYTES
  pub said : List Said
  pub reads : AreSaid (lines_of text) said
  pub fine : AreFine said
  pub first_one : file_fault (said_config said).members (said_config said).tickets ≡ Some fault

-- the first fault of the text
abbrev pub IsFault : List ℕ → ConfFault → Type 0
IsFault text TooLarge = TEXT_BYTES < length text
IsFault text (Syntax line) = HasLineFault text line faults.Syntax
IsFault text (UnknownKey line) = HasLineFault text line faults.UnknownKey
IsFault text (Misplaced line) = HasLineFault text line faults.Misplaced
IsFault text (BadValue line key) = HasLineFault text line (faults.BadValue key)
IsFault text (Repeated line) = HasLineFault text line faults.Repeated
IsFault text (DefaultLate line) = HasLineFault text line faults.DefaultLate
IsFault text (TooMany line) = HasLineFault text line faults.TooMany
IsFault text OutOfMemory = ⊥
IsFault text fault = HasFileFault text fault

-- the configuration that the text spells, or its first fault, or out of memory
abbrev pub Parses : List ℕ → Result ConfigSays ConfFault → Type 0
Parses text (Ok config) = Says text config
Parses text (Err fault) = (fault ≡ OutOfMemory) ⊎ IsFault text fault

-- each text spells one configuration or has one first fault, and never both
pub record OneAnswer (text : List ℕ) : Type 0 where
  pub answer : ((config : ConfigSays) × Says text config) ⊎ ((fault : ConfFault) × IsFault text fault)
  pub one_config : (c d : ConfigSays) → Says text c → Says text d → c ≡ d
  pub one_fault : (f g : ConfFault) → IsFault text f → IsFault text g → f ≡ g
  pub not_both : (c : ConfigSays) (f : ConfFault) → Says text c → IsFault text f → ⊥

-- the text that is printed for a sound configuration spells that configuration
abbrev pub PrintIsRead : Type 0
PrintIsRead = (config : ConfigSays) → IsSound config → Says (printed config) config
