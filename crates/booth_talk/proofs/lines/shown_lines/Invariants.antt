use Rattle.std.proofs.Common.{length}
use Rattle.booth_talk.specs.Forms.{lines_of}
use Rattle.booth_talk.proofs.LineLemmas.{AreShown}
use Rattle.booth_talk.proofs.lines.shown_lines.Given as goal

-- the lines so far are of their kinds, and shown
abbrev pub invariant-loop-line : goal.invariant-loop-line
invariant-loop-line l = record {
  done : AreShown l.form (lines_of l.body) (length l.yielded) l.kind l.shown.items;
}
