use Rattle.std.specs.Prelude.{slice_get}
use Rattle.std.proofs.Common.{◌≡◌, length, drop}
use Rattle.booth_conf.specs.Reads.{lines_of, said_lines}
use Rattle.booth_conf.specs.Names.{names_said}
use Rattle.booth_conf.proofs.NameLemmas.{names_of}
use Rattle.booth_conf.proofs.names.name_at.Given as goal

-- the name stands at the place that is left, among the names of the lines that are left
abbrev pub invariant-loop-line : goal.invariant-loop-line
invariant-loop-line l = record {
  rest : slice_get (names_of (drop (length l.yielded) (lines_of l.text))) l.left ≡ slice_get (names_said (said_lines l.text)) l.fn.place;
}
