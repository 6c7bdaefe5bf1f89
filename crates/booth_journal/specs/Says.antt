-- A journal as the list of its calls, each with its answer if there is one.
use Rattle.std.specs.Prelude.{◌≡◌, ℕ, List, [], ◌∷◌, ◌++◌, Option, None, Some}
use Rattle.std.specs.List.{flat_map}
use Rattle.booth_journal.specs.declared.said.Answer.{Answer}
use Rattle.booth_journal.specs.declared.said.Call.{Call}
use Rattle.booth_journal.specs.declared.said.Call.TheVariants as calls
use Rattle.booth_journal.specs.Lines.{answer_text, call_text, line}
use Rattle.booth_journal.specs.Reading.{IsAnswer, IsAnswerTo, IsCall}
use Rattle.booth_journal.specs.Texts.{IsInside, IsJournal}

-- a call, and its answer if there is one
pub record Said : Type 0 where
  pub call : Call
  pub answer : Option Answer

abbrev pub answer_lines : Option Answer → List (List ℕ)
answer_lines None = []
answer_lines (Some answer) = answer_text answer ∷ []

-- the lines of one call
abbrev pub lines_saying : Said → List (List ℕ)
lines_saying said = call_text said.call ∷ answer_lines said.answer

-- Each answer is a possible answer to its call. A call without an answer is the last, or the next is a reading of the
-- clock, which begins a start.
abbrev pub IsAnswered : Call → Option Answer → List Said → Type 0
IsAnswered call (Some answer) more = IsAnswerTo call answer × IsAnswer answer
IsAnswered call None [] = Unit {0}
IsAnswered call None (said ∷ more) = said.call ≡ calls.Now

abbrev pub AreWhole : List Said → Type 0
AreWhole [] = Unit {0}
AreWhole (said ∷ more) = IsCall said.call × IsAnswered said.call said.answer more × AreWhole more

-- The text consists of these calls. Bytes after the last line end are no line.
pub record Says (text : List ℕ) (all : List Said) : Type 0 where
  pub tail : List ℕ
  pub whole : text ≡ flat_map line (flat_map lines_saying all) ++ tail
  pub rest : IsInside tail
  pub each : AreWhole all

-- each journal consists of calls
abbrev pub JournalsSayCalls : Type 0
JournalsSayCalls = (text : List ℕ) → IsJournal text → (all : List Said) × Says text all

-- a text has one list of calls
abbrev pub TextsSayOneList : Type 0
TextsSayOneList = (text : List ℕ) (one other : List Said) → Says text one → Says text other → one ≡ other
