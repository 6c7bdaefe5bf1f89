-- The division of a text at a byte: a text into lines at line ends, a line into fields at blanks.
use Rattle.std.specs.Prelude.{◌≡◌, ◌==◌, ℕ, Bool, not, true, List, ◌∷◌, ◌++◌}
use Rattle.std.specs.List.{list_all}

abbrev pub is_other : ℕ → ℕ → Bool
is_other end byte = not (byte == end)

-- no byte equals this one
abbrev pub HasNo : ℕ → List ℕ → Type 0
HasNo end text = list_all (is_other end) text ≡ true

-- the bytes before the first such byte, and those after it
pub record IsCut (end : ℕ) (text first behind : List ℕ) : Type 0 where
  pub plain : HasNo end first
  pub joined : text ≡ first ++ end ∷ behind
