use Rattle.booth_talk.proofs.FieldLemmas.{AreLeft}
use Rattle.booth_talk.proofs.numbers.are_numbers.Given as goal

-- the numbers so far are some, and these are left
abbrev pub invariant-loop-number : goal.invariant-loop-number
invariant-loop-number l = record {
  done : AreLeft l.more l._number l.text l.left;
}
