use Rattle.std.proofs.Common.{◌∙◌}
use Rattle.booth_conf.proofs.LastLemmas.{any_name}
use Rattle.booth_conf.proofs.drafts.SectionList.has.Goals as goal

pub returns : goal.returns
returns c =
    rw (← c.self.view_is) (c.contains.ensures ∙ any_name c.args.name.now c.self.inside.names.keys c.self.inside.sections.items c.self.invariant)
