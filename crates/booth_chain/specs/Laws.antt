-- The law of the due list: what it contains, and in which order.
use Rattle.std.specs.Prelude.{◌↔◌, ℕ, List, [], ◌∷◌, Option, IsTrue}
use Rattle.std.specs.List.{All, Contains}
use Rattle.booth_chain.specs.Wheel.{IsDue}
use Rattle.booth_chain.specs.DueList.{comes_before, due_list}

-- each deadline and slot comes before all that follow
abbrev pub AreInOrder : List (ℕ × ℕ) → Type 0
AreInOrder [] = Unit {0}
AreInOrder (entry ∷ rest) =
    All (λ (later : ℕ × ℕ). IsTrue (comes_before entry.0 entry.1 later.0 later.1)) rest
    × AreInOrder rest

-- The due list contains each slot whose deadline has come, with that deadline, and nothing else. It is sorted by
-- deadline and then slot, so each slot occurs in it once.
pub record ListsDue (now : ℕ) (deadlines : List (Option ℕ)) : Type 0 where
  pub due : (deadline slot : ℕ)
      → Contains (due_list now deadlines) (deadline, slot) ↔ IsDue deadlines now slot deadline
  pub sorted : AreInOrder (due_list now deadlines)
