use Rattle.std.proofs.Common.{◌≡◌, drop}
use Rattle.booth_talk.specs.Parts.{is_whole}
use Rattle.booth_talk.proofs.parts.is_whole.Given as goal

-- the parts so far are not the last, so that those behind them decide
abbrev pub invariant-loop-slot : goal.invariant-loop-slot
invariant-loop-slot l = is_whole l.slots ≡ is_whole (drop l.slot-index l.slots)
