use Rattle.std.proofs.Common.{ℕ, ◌<◌, [], length, get_or}
use Rattle.booth_following.specs.Lists.{IsOf, lines_of}
use Rattle.booth_following.proofs.lines.has_line.Given as goal

-- no line so far is of the ticket
abbrev pub invariant-loop-line : goal.invariant-loop-line
invariant-loop-line l = record {
  none : (place : ℕ) → place < length l.yielded → IsOf l.ticket (get_or (lines_of l.text) place []) → ⊥;
}
