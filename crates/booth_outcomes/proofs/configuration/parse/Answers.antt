use Rattle.booth_outcomes.proofs.ConfigurationLemmas.{faulty_end}
use Rattle.booth_outcomes.proofs.configuration.parse.Goals as goal

pub returns-in-Err-clause-parsed : goal.returns-in-Err-clause-parsed
returns-in-Err-clause-parsed c =
    faulty_end c.args.path.now c.args.text.now c.refuse.result.said c.in-Err.fault c.refuse.result.outcome
    c.in-Err.ensures c.refuse.ensures.outcome c.refuse.ensures.said
