use Rattle.std.proofs.Common.{◌≡◌, vec_len}
use Rattle.booth_talk.specs.Parts.{AreNone}
use Rattle.booth_talk.proofs.parts.free_slots.Given as goal

-- so many places, and no part in them
abbrev pub invariant-loop-number : goal.invariant-loop-number
invariant-loop-number l = record {
  long : vec_len l.slots ≡ l._number;
  none : AreNone l.slots.items;
}
