-- Which texts are journals: lines, one after the other, and after the last one bytes that are no line.
use Rattle.std.specs.Prelude.{◌≡◌, ◌+◌, ℕ, List, [], ◌∷◌, ◌++◌, codes, length, Option, None, Some, IsSomeAnd}
use Rattle.std.specs.List.{All, flat_map}
use Rattle.booth_journal.specs.Fields.{HasNo}
use Rattle.booth_journal.specs.Lines.{line}
use Rattle.booth_journal.specs.Reading.{SpellsAnswerTo, SpellsCall}
use Rattle.booth_journal.specs.declared.said.Answer.{Answer}
use Rattle.booth_journal.specs.declared.said.Call.{Call}
use Rattle.booth_journal.specs.declared.said.Call.TheVariants as calls
use Rattle.booth_journal.specs.declared.texts.TextFault.{TextFault}
use Rattle.booth_journal.specs.declared.texts.TextFault.TheVariants as faults

-- ---- one line after others

-- A line after others: if the call before it has no answer yet, the line is the answer of that call, and otherwise it
-- is a call. A call without an answer was interrupted: the next line begins a start, and reads the clock. The last
-- argument is the call that has no answer after the line.
abbrev pub Follows : Option Call → List ℕ → Option Call → Type 0
Follows None text next = IsSomeAnd next (SpellsCall text)
Follows (Some call) text None = (answer : Answer) × SpellsAnswerTo call text answer
Follows (Some call) text (Some next) = (next ≡ calls.Now) × (text ≡ codes "now")

-- lines, one after the other
abbrev pub AreSaid : Option Call → List (List ℕ) → Option Call → Type 0
AreSaid before [] after = before ≡ after
AreSaid before (text ∷ texts) after =
    (between : Option Call) × Follows before text between × AreSaid between texts after

-- ---- a whole text

-- no byte of it ends a line
abbrev pub IsInside : List ℕ → Type 0
IsInside text = HasNo 0x0A text

-- Each line of the text is a call or an answer. Bytes after the last line end are no line: an append that was torn
-- does not count.
pub record IsJournal (text : List ℕ) : Type 0 where
  pub lines : List (List ℕ)
  pub tail : List ℕ
  pub after : Option Call
  pub whole : text ≡ flat_map line lines ++ tail
  pub each : All IsInside lines
  pub rest : IsInside tail
  pub said : AreSaid None lines after

-- The lines before line n, counted from 1, are calls and answers; and that line is neither, after them.
pub record IsFirstFault (text : List ℕ) (n : ℕ) : Type 0 where
  pub lines : List (List ℕ)
  pub wrong : List ℕ
  pub behind : List ℕ
  pub before : Option Call
  pub whole : text ≡ flat_map line lines ++ line wrong ++ behind
  pub each : All IsInside lines
  pub inside : IsInside wrong
  pub count : n ≡ length lines + 1
  pub said : AreSaid None lines before
  pub never : (after : Option Call) → Follows before wrong after → ⊥

-- the meaning of a text's fault; out of memory may come in place of any answer
abbrev pub HasFault : List ℕ → TextFault → Type 0
HasFault text (faults.Line n) = IsFirstFault text n
HasFault text faults.OutOfMemory = Unit {0}

-- no text both is a journal and has a first fault
abbrev pub JournalsHaveNoFault : Type 0
JournalsHaveNoFault = (text : List ℕ) (n : ℕ) → IsJournal text → IsFirstFault text n → ⊥

-- a text has at most one first fault
abbrev pub TextsHaveOneFault : Type 0
TextsHaveOneFault = (text : List ℕ) (m n : ℕ) → IsFirstFault text m → IsFirstFault text n → m ≡ n
