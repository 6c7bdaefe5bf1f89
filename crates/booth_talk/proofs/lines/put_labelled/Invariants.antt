use Rattle.std.proofs.Common.{◌≡◌, ◌++◌, drop, map}
use Rattle.booth_talk.specs.Forms.{labelled}
use Rattle.booth_talk.proofs.lines.put_labelled.Given as goal

-- what is shown, and what is still to be
abbrev pub invariant-loop-label : goal.invariant-loop-label
invariant-loop-label l = record {
  whole : l.shown.items ++ labelled (drop l.label-index (map (λ t. t.now) l.labels)) l.left
      ≡ l.fn.shown.items ++ labelled (map (λ t. t.now) l.labels) l.fn.text;
}
