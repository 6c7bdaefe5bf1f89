-- The lines of a text, and the result of reading them.
use Rattle.std.specs.Prelude.{◌≡◌, ◌==◌, ◌+◌, ℕ, List, map, Result, Ok, Err, ◌⊎◌}
use Rattle.std.specs.List.{slice_split}
use Rattle.booth_conf.specs.SaidReader.{said}
use Rattle.booth_conf.specs.Rules.{Summary, summary, settings, AreFine, IsFirstFault}
use Rattle.booth_conf.specs.declared.line_meaning.Said.{Said}
use Rattle.booth_conf.specs.declared.faults.ConfFault.{ConfFault}
use Rattle.booth_conf.specs.declared.faults.ConfFault.TheVariants as conf
use Rattle.booth_conf.specs.declared.faults.LineFault.{LineFault}
use Rattle.booth_conf.specs.declared.faults.LineFault.TheVariants.{Syntax, UnknownKey, Misplaced, BadValue, Repeated, DefaultLate, TooMany}
use Rattle.booth_conf.specs.declared.faults.Stop.{Stop}
use Rattle.booth_conf.specs.declared.faults.Stop.TheVariants as stops

-- a line ends at a line feed or at the end of the text
abbrev pub lines_of : List ℕ → List (List ℕ)
lines_of text = slice_split (λ b. b == 0x0A) text

-- a fault with its line, which counts from 1
abbrev pub fault_at : ℕ → LineFault → ConfFault
fault_at line Syntax = conf.Syntax line
fault_at line UnknownKey = conf.UnknownKey line
fault_at line Misplaced = conf.Misplaced line
fault_at line (BadValue key) = conf.BadValue line key
fault_at line Repeated = conf.Repeated line
fault_at line DefaultLate = conf.DefaultLate line
fault_at line TooMany = conf.TooMany line

abbrev pub at_line : ℕ → Stop → ConfFault
at_line line stops.Memory = conf.OutOfMemory
at_line line (stops.Line fault) = fault_at line fault

-- the content of a text's lines
abbrev pub said_lines : List ℕ → List Said
said_lines text = map said (lines_of text)

-- the error names the first line with a fault
pub record IsLineFault (lines : List Said) (error : ConfFault) : Type 0 where
  pub place : ℕ
  pub fault : LineFault
  pub is : error ≡ fault_at (place + 1) fault
  pub first_one : IsFirstFault lines place fault

-- no line has a fault and the draft has all their settings, or the first line with a fault is reported
abbrev pub ReadsLines : Result Summary ConfFault → List Said → Type 0
ReadsLines (Ok draft) lines = AreFine lines × (draft ≡ summary (settings lines))
ReadsLines (Err error) lines = (error ≡ conf.OutOfMemory) ⊎ IsLineFault lines error
