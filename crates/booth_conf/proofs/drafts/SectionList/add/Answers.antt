use Rattle.std.proofs.Common.{◌∙◌, sym}
use Rattle.booth_conf.proofs.LastLemmas.{names_kept}
use Rattle.booth_conf.proofs.drafts.SectionList.add.Goals as goal

pub invariant_of-self : goal.invariant_of-self
invariant_of-self c =
    c.self.invariant
    ∙ sym (names_kept c.add_to_last.result _ c.self.inside.sections.items c.add_to_last.new.sections.items c.args.entry c.add_to_last.ensures)
