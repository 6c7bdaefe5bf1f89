use Rattle.indexmap.proofs.CallerLemmas.{index_map_len-with_value_at}
use Rattle.booth_log.proofs.known.Tickets.replace.Goals as goal

pub invariant_of-self : goal.invariant_of-self
invariant_of-self c =
    rw (index_map_len-with_value_at c.self.inside.known c.args.place c.args.known) c.self.invariant
