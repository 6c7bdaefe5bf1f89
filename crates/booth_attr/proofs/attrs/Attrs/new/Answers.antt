use Rattle.booth_attr.proofs.PoolLemmas.{new_is, pool_sound}
use Rattle.booth_attr.proofs.attrs.Attrs.new.Goals as goal

pub invariant_of-result : goal.invariant_of-result
invariant_of-result c = pool_sound _ c.args.tickets c.in_ok-with_capacity.ensures.empty c.in_ok-with_capacity.ensures.spare

pub returns-clause-empty : goal.returns-clause-empty
returns-clause-empty c = new_is _ c.args.tickets c.in_ok-with_capacity.ensures.empty c.in_ok-with_capacity.ensures.spare

pub returns-clause-sound : goal.returns-clause-sound
returns-clause-sound c = invariant_of-result c
