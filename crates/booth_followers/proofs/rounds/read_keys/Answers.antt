use Rattle.std.specs.Prelude.{Ok, Err}
use Rattle.booth_followers.proofs.RoundLemmas.{configured}
use Rattle.booth_followers.proofs.rounds.read_keys.Goals as goal

pub returns-in-Ok-read_ring-clause-past : goal.returns-in-Ok-read_ring-clause-past
returns-in-Ok-read_ring-clause-past g c =
    configured c.args.conf.now c.in-Ok.config (Ok c.in-Ok-read_ring.ring) c.in-Ok.ensures.past c.in-Ok-read_ring.ensures.past

pub returns-clause-past : goal.returns-clause-past
returns-clause-past g c =
    configured c.args.conf.now c.in-Ok.config (Err c.in-Err.field-0) c.in-Ok.ensures.past c.in-Err.ensures.past
