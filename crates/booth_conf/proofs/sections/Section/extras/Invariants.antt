use Rattle.std.proofs.Common.{◌≡◌, take}
use Rattle.std.specs.List.{filter_map}
use Rattle.booth_conf.specs.Sections.{extra_of}
use Rattle.booth_conf.proofs.sections.Section.extras.Given as goal

-- those so far
abbrev pub invariant-loop-entry : goal.invariant-loop-entry
invariant-loop-entry l = l.extras.items ≡ filter_map extra_of (take l.entry-index l.self)
