use Rattle.std.proofs.Common.{◌≡◌, take, filter}
use Rattle.booth_conf.specs.Sections.{has_key}
use Rattle.booth_conf.specs.declared.keys.ConfKey.TheVariants as keys
use Rattle.booth_conf.proofs.sections.Section.inherited.Given as goal

-- the prerequisites so far
abbrev pub invariant-loop-entry : goal.invariant-loop-entry
invariant-loop-entry l =
    l.entries.items ≡ filter (has_key keys.AttrPrereq) (take l.entry-index l.self)
