use Rattle.std.proofs.Common.{sym}
use Rattle.booth_tools.proofs.MoveLemmas.{at_no_site, at_site, is_there}
use Rattle.booth_tools.proofs.move_run.move_within.Goals as goal

pub move_to-requires-clause-site : goal.move_to-requires-clause-site
move_to-requires-clause-site g c = is_there c.args.asked.target c.args.config c.in-Some.target (sym c.in-Some.ensures)

pub returns-in-Some-clause-past : goal.returns-in-Some-clause-past
returns-in-Some-clause-past g c =
    at_site c.args.asked c.args.config c.in-Some.target c.move_to.result.outcome c.move_to.result.said (sym c.in-Some.ensures)
    c.move_to.ensures.past

pub returns-in-None-clause-past : goal.returns-in-None-clause-past
returns-in-None-clause-past g c =
    at_no_site c.args.asked c.args.config c.not_site_text.result (sym c.in-None.ensures) c.not_site_text.ensures
