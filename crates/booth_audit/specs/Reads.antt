-- How requested calls are answered from a journal: first the calls that its lines answer, and then the calls after the
-- first one that the lines do not answer.
use Rattle.std.specs.Prelude.{◌≡◌, ◌+◌, ◌⊎◌, ℕ, List, [], ◌∷◌, Option, None, Some, Ok, Err}
use Rattle.booth_host.specs.declared.entry.Entry.{Entry}
use Rattle.booth_host.specs.declared.entry.Entry.TheVariants as entries
use Rattle.booth_journal.specs.declared.said.Answer.{Answer}
use Rattle.booth_journal.specs.declared.said.Call.{Call}
use Rattle.booth_journal.specs.Lines.{call_text, said}
use Rattle.booth_journal.specs.Says.{Said}
use Rattle.booth_audit.specs.declared.end.End.{End}
use Rattle.booth_audit.specs.Judged.{HasBytes, judged}

-- ---- entries and lines

-- The text of an entry's call.
abbrev pub text_said : Option (Call × Answer) → List ℕ
text_said None = []
text_said (Some both) = call_text both.0

abbrev pub asked_text : Entry → List ℕ
asked_text entry = text_said (said entry)

-- The entry has this answer.
abbrev pub HasAnswer : Entry → Answer → Type 0
HasAnswer entry answer = (call : Call) × (said entry ≡ Some (call, answer))

-- A wait without a datagram has no bytes.
abbrev pub IsClear : Entry → Type 0
IsClear (entries.Next wait answer bytes) = HasBytes answer bytes
IsClear entry = Unit {0}

-- The first of these calls is the entry's, with its answer, and the other calls are left.
pub record IsEntry (entry : Entry) (left : List Said) (more : List Said) : Type 0 where
  pub said_so : Said
  pub answer : Answer
  pub is : left ≡ said_so ∷ more
  pub judges : judged (asked_text entry) left ≡ Ok answer
  pub asked : asked_text entry ≡ call_text said_so.call
  pub answered : said_so.answer ≡ Some answer
  pub has : HasAnswer entry answer
  pub clear : IsClear entry

-- The lines end in this way at this entry.
pub record IsLast (entry : Entry) (left : List Said) (end : Option End) : Type 0 where
  pub how : End
  pub judges : judged (asked_text entry) left ≡ Err how
  pub is : end ≡ Some how

-- These entries were requested when these calls were left, the first of which is at this line. The lines ended in
-- this way at this line, or have not ended, and these calls are left afterwards.
abbrev pub Reads : List Entry → ℕ → List Said → Option End → ℕ → List Said → Type 0
Reads [] line left end at then_left = (end ≡ None) × (at ≡ line) × (then_left ≡ left)
Reads (entry ∷ entries) line left end at then_left =
    (IsLast entry left end × (at ≡ line) × (then_left ≡ left))
    ⊎ ((more : List Said) × IsEntry entry left more × Reads entries (line + 2) more end at then_left)
