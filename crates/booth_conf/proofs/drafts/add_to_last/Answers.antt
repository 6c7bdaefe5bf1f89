use Rattle.std.proofs.Common.{rules, ◌-◌}
use Rattle.booth_conf.proofs.LastLemmas.{place_answer}
use Rattle.booth_conf.proofs.drafts.add_to_last.Goals as goal

pub returns : goal.returns
returns c =
    place_answer c.add.result c.args.sections.now.items c.index_mut.result.now c.add.new.self c.args.entry (c.len-last.result - 1) (search rules) (search rules) (search rules) c.add.ensures
