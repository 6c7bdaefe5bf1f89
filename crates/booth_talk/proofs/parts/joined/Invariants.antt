use Rattle.std.proofs.Common.{◌≡◌, ◌++◌, drop}
use Rattle.booth_talk.specs.Parts.{text_of}
use Rattle.booth_talk.proofs.parts.joined.Given as goal

-- the texts of the parts so far are joined, and those behind them follow
abbrev pub invariant-loop-slot : goal.invariant-loop-slot
invariant-loop-slot l = text_of l.slots ≡ l.text.items ++ text_of (drop l.slot-index l.slots)
