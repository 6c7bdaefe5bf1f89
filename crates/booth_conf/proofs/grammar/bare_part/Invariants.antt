use Rattle.std.proofs.Common.{◌≡◌, true, take, drop, ◌≤◌, ◌-◌, ◌++◌}
use Rattle.std.specs.List.{list_all}
use Rattle.booth_conf.specs.Grammar.{is_blank}
use Rattle.booth_conf.specs.LineReader.{bare_part}
use Rattle.booth_conf.proofs.grammar.bare_part.Given as goal

-- up to `end` is of the value, and from there on only blanks were passed
abbrev pub invariant-loop-i : goal.invariant-loop-i
invariant-loop-i l = record {
  within : l.end ≤ l.i;
  gap : list_all is_blank (take (l.i - l.end) (drop l.end l.bytes)) ≡ true;
  value : bare_part l.bytes ≡ take l.end l.bytes ++ bare_part (drop l.end l.bytes);
}
