-- The result of a requested call, if these bytes of a journal are not read yet.
use Rattle.std.specs.Prelude.{◌≡◌, ◌≤◌, ◌+◌, ◌-◌, ◌^◌, ◌⊎◌, ℕ, List, ◌∷◌, length, min}
use Rattle.std.specs.Prelude.{Option, None, Some, IsSome, Result, Ok, Err}
use Rattle.booth_rec.specs.declared.record.Record.{Record}
use Rattle.booth_host.specs.declared.host.Arrival.{Arrival}
use Rattle.booth_host.specs.declared.host.Failed.{Failed}
use Rattle.booth_journal.specs.declared.said.Answer.{Answer}
use Rattle.booth_journal.specs.declared.said.Answer.TheVariants as answers
use Rattle.booth_journal.specs.Lines.{answer_text, arrival_answer, call_text, done_answer}
use Rattle.booth_journal.specs.Reading.{IsAnswer, IsAnswerTo, IsArrival, IsDone, IsFound, IsReading}
use Rattle.booth_journal.specs.Says.{Said, Says}
use Rattle.booth_audit.specs.declared.end.End.{End}
use Rattle.booth_audit.specs.Judged.{HasBytes, judged}

-- ---- the bytes that are left

-- The bytes that are left, the number of their first line, and how the lines ended, if they have.
pub record LinesLeft : Type 0 where
  pub rest : List ℕ
  pub line : ℕ
  pub end : Option End

-- The first call has this text and this answer, and these bytes follow.
pub record IsTaken (text rest : List ℕ) (left : List Said) (bytes behind : List ℕ) : Type 0 where
  pub said : Said
  pub more : List Said
  pub answer : Answer
  pub is : left ≡ said ∷ more
  pub judges : judged text left ≡ Ok answer
  pub asked : text ≡ call_text said.call
  pub answered : said.answer ≡ Some answer
  pub bytes_are : bytes ≡ answer_text answer
  pub may : IsAnswerTo said.call answer
  pub of_answer : IsAnswer answer
  pub says : Says behind more
  pub shorter : length behind + 2 ≤ length rest

-- ---- the result of a call

-- The number of the line after two more lines.
abbrev pub lines_on : ℕ → ℕ
lines_on line = min (line + 2) (2 ^ 64 - 1)

-- The lines had ended before.
pub record IsBehind (old new : LinesLeft) : Type 0 where
  pub ended : IsSome old.end
  pub same : new ≡ old

-- The lines end here.
pub record EndsHere (left : List Said) (text : List ℕ) (old new : LinesLeft) : Type 0 where
  pub running : old.end ≡ None
  pub how : End
  pub judges : judged text left ≡ Err how
  pub same : new ≡ record { rest = old.rest; line = old.line; end = Some how }

-- The line of an answer was read.
pub record IsReadHere (left : List Said) (text : List ℕ) (old new : LinesLeft) (bytes : List ℕ) : Type 0 where
  pub running : old.end ≡ None
  pub taken : IsTaken text old.rest left bytes new.rest
  pub line : new.line ≡ lines_on old.line
  pub end : new.end ≡ None

-- No line was read.
abbrev pub IsUnread : List Said → List ℕ → LinesLeft → LinesLeft → Type 0
IsUnread left text old new = IsBehind old new ⊎ EndsHere left text old new

-- The answer was read, and P holds for it.
abbrev pub IsAnsweredHere : List Said → List ℕ → (Answer → Type 0) → LinesLeft → LinesLeft → Type 0
IsAnsweredHere left text P old new =
    (bytes : List ℕ) × (here : IsReadHere left text old new bytes) × P here.taken.answer

-- The result of a call with this text if these calls are left. If no answer was read, the result is made up.
abbrev pub Comes : List Said → List ℕ → (Answer → Type 0) → LinesLeft → LinesLeft → Type 0
Comes left text P old new = IsUnread left text old new ⊎ IsAnsweredHere left text P old new

-- ---- answers in the form of a host

-- The answer of a call that was done or failed.
abbrev pub IsDoneBy : Result (Unit {0}) Failed → Answer → Type 0
IsDoneBy done answer = IsDone answer → answer ≡ done_answer done

abbrev pub IsReadingBy : ℕ → Answer → Type 0
IsReadingBy reading answer = IsReading answer → answer ≡ answers.Reading reading

abbrev pub found_answer : Result (Option Record) Failed → Answer
found_answer (Ok None) = answers.Absent
found_answer (Ok (Some kept)) = answers.Found kept
found_answer (Err fault) = answers.Fails

abbrev pub IsFoundBy : Result (Option Record) Failed → Answer → Type 0
IsFoundBy found answer = IsFound answer → answer ≡ found_answer found

abbrev pub IsArrivalBy : Result Arrival Failed → List ℕ → Answer → Type 0
IsArrivalBy came bytes answer = IsArrival answer → (answer ≡ arrival_answer came bytes) × HasBytes came bytes
