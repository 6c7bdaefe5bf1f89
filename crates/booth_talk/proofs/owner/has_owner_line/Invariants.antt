use Rattle.std.proofs.Common.{ℕ, ◌<◌, [], length, get_or}
use Rattle.booth_talk.specs.Forms.{lines_of}
use Rattle.booth_talk.specs.Owner.{IsOwnerLine}
use Rattle.booth_talk.proofs.owner.has_owner_line.Given as goal

-- no line so far names the owner
abbrev pub invariant-loop-line : goal.invariant-loop-line
invariant-loop-line l = record {
  none : (place : ℕ) → place < length l.yielded → IsOwnerLine l.ticket l.owner (get_or (lines_of l.text) place []) → ⊥;
}
