-- The first call in the rest of a journal.
use Rattle.std.specs.Prelude.{◌≡◌, ◌≤◌, ◌+◌, ℕ, Bool, true, false, List, [], ◌∷◌, codes, length, Option, option_map}
use Rattle.booth_journal.specs.declared.said.Call.{Call}
use Rattle.booth_journal.specs.declared.said.Call.TheVariants as calls
use Rattle.booth_journal.specs.Fields.{IsCut}
use Rattle.booth_journal.specs.Lines.{answer_text, call_text}
use Rattle.booth_journal.specs.Says.{Said, Says, lines_saying}

-- A text with these calls: the line of the first one, the line of its answer if there is one, and what follows them.
pub record IsFirstCall (text : List ℕ) (left : List Said) (call : List ℕ) (answer : Option (List ℕ)) (behind : List ℕ)
    : Type 0 where
  pub said : Said
  pub more : List Said
  pub is : left ≡ said ∷ more
  pub call_is : call ≡ call_text said.call
  pub answer_is : answer ≡ option_map (λ answer. answer_text answer) said.answer
  pub says : Says behind more
  pub shorter : length (lines_saying said) + length behind ≤ length text

-- a call has no answer: no line follows it, or the next line is a reading of the clock
abbrev pub HasNoAnswer : List ℕ → Type 0
HasNoAnswer text = (first behind : List ℕ) → IsCut 0x0A text first behind → first ≡ codes "now"

-- ---- calls that open a socket

abbrev pub is_open : Call → Bool
is_open (calls.Open local) = true
is_open call = false

abbrev pub begins_with_open : List Said → Bool
begins_with_open [] = false
begins_with_open (said ∷ more) = is_open said.call
