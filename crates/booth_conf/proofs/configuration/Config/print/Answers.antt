use Rattle.std.proofs.Common.{◌∙◌}
use Rattle.booth_conf.proofs.Again.{printed_says}
use Rattle.booth_conf.proofs.configuration.Config.print.Goals as goal

pub returns-clause-again : goal.returns-clause-again
returns-clause-again c =
    printed_says c.from_vec.result c.args.self.now c.in_ok-push_to.ensures.sound (c.from_vec.ensures ∙ c.in_ok-push_to.ensures.exact)
