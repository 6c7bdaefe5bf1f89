use Rattle.std.proofs.Common.{length}
use Rattle.booth_journal.proofs.TextLemmas.{SoFar}
use Rattle.booth_journal.proofs.texts.read_lines.Given as goal

-- the lines so far say calls and answers, and these bytes are left
abbrev pub invariant-lines : goal.invariant-lines
invariant-lines l = record {
  so_far : SoFar l.text l.rest l.asked l.count;
}

abbrev pub decreases-lines : goal.decreases-lines
decreases-lines l = length l.rest
