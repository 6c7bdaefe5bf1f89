use Rattle.std.proofs.Common.{ℕ, ◌<◌, [], length, get_or}
use Rattle.booth_following.specs.Lists.{IsLine, lines_of}
use Rattle.booth_following.proofs.lines.shown_in.Given as goal

-- no line so far tells an end
abbrev pub invariant-loop-line : goal.invariant-loop-line
invariant-loop-line l = record {
  none : (place until : ℕ) → place < length l.yielded → IsLine l.start (get_or (lines_of l.text) place []) until → ⊥;
}
