use Rattle.std.proofs.Common.{arith}
use Rattle.booth_chain.proofs.SearchLemmas.{near_more, looks_more}
use Rattle.booth_chain.proofs.search.first_in_buckets.Goals as goal

pub first_in_bucket-found-requires-clause-known : goal.first_in_bucket-found-requires-clause-known
first_in_bucket-found-requires-clause-known g c = λ node item h. c.requires.known _ node item h

pub loop-step-preserved : goal.loop-step-preserved
loop-step-preserved g c = record {
  first = near_more c.args.pool.now c.args.from c.loop-step.step _ _ c.loop-step.first c.first_in_bucket-found.result _ c.loop-step.invariant.first c.first_in_bucket-found.ensures.first c.earlier-first.ensures;
  counted = omega (arith, c.loop-step.invariant.counted, c.first_in_bucket-found.ensures.steps, looks_more c.args.pool.now c.args.from c.loop-step.step);
}
