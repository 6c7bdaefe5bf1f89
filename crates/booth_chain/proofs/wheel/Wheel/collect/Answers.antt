use Rattle.std.proofs.Common.{◌≡◌, ◌+◌, ◌<◌, ℕ, List, [], length, ap, subst, ◌∙◌, arith}
use Rattle.booth_chain.specs.Buckets.{buckets_between}
use Rattle.booth_chain.specs.Draining.{Collects}
use Rattle.booth_chain.proofs.CollectLemmas.{IsNear, collects_due, collects_more, collects_none, near_count, near_few, near_next, near_none, near_steps}
use Rattle.booth_chain.proofs.wheel.Wheel.collect.Goals as goal

pub loop-step-init : goal.loop-step-init
loop-step-init g c = record {
  found = collects_none c.args.self.now c.args.now _ c.clear.ensures.items;
  few = omega (arith, ap (λ (slots : List ℕ). length slots) c.clear.ensures.items);
  counted = omega (arith, near_none c.args.self.now);
  within = omega arith;
  room = c.clear.ensures.capacity;
}

pub collect_bucket-requires-clause-room : goal.collect_bucket-requires-clause-room
collect_bucket-requires-clause-room g c =
    let lt : c.loop-step.step < 512 = omega (arith, c.loop-step-test.true, c.reach-step-end.ensures.many) in
    omega (arith, c.loop-step.invariant.few, near_next c.args.self.now c.loop-step.step lt, near_few c.args.self.now (c.loop-step.step + 1), c.requires.room, c.loop-step.invariant.room)

pub loop-step-preserved : goal.loop-step-preserved
loop-step-preserved g c =
    let lt : c.loop-step.step < 512 = omega (arith, c.loop-step-test.true, c.reach-step-end.ensures.many) in
    let next = near_next c.args.self.now c.loop-step.step lt in
    record {
      found = collects_more c.args.self.now c.args.now c.loop-step.step _ _ lt c.loop-step.invariant.found c.collect_bucket.ensures.found;
      few = omega (arith, c.collect_bucket.ensures.few, c.loop-step.invariant.few, next);
      counted = omega (arith, c.collect_bucket.ensures.steps, c.loop-step.invariant.counted, next);
      within = omega (arith, c.loop-step-test.true);
      room = c.collect_bucket.ensures.room ∙ c.loop-step.invariant.room;
    }

pub returns-clause-found : goal.returns-clause-found
returns-clause-found g c =
    let many : c.loop-step.step ≡ buckets_between c.args.self.now.swept c.args.now = omega (arith, c.loop-step-test.false, c.loop-step.invariant.within, c.reach-step-end.ensures.many) in
    collects_due c.args.self.now c.args.now _ c.reach-step-end.ensures.order
    (subst (λ (m : ℕ). Collects (IsNear c.args.self.now m) c.args.self.now.deadlines c.args.now [] c.loop-step.due.items) many c.loop-step.invariant.found)

pub returns-clause-steps : goal.returns-clause-steps
returns-clause-steps g c =
    let many : c.loop-step.step ≡ buckets_between c.args.self.now.swept c.args.now = omega (arith, c.loop-step-test.false, c.loop-step.invariant.within, c.reach-step-end.ensures.many) in
    omega (arith, c.loop-step.invariant.counted, ap (λ (m : ℕ). m + near_count c.args.self.now m) many, near_steps c.args.self.now c.args.now c.reach-step-end.ensures.order)
