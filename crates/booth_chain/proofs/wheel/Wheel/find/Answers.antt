use Rattle.std.proofs.Common.{◌≡◌, ◌<◌, List, sym, subst, length, arith}
use Rattle.booth_chain.specs.declared.slot.Slot.{Slot}
use Rattle.booth_chain.specs.Buckets.{buckets_between}
use Rattle.booth_chain.proofs.ReachLemmas.{find_first, find_steps}
use Rattle.booth_chain.proofs.wheel.Wheel.find.Goals as goal

pub first_in_buckets-requires-clause-known : goal.first_in_buckets-requires-clause-known
first_in_buckets-requires-clause-known g c = λ list node item h.
    subst (λ (xs : List Slot). item < length xs) (sym c.deref.ensures.value) (c.self.invariant.bucketed.known list node item h)

pub returns-clause-first : goal.returns-clause-first
returns-clause-first g c =
    let many : c.min-many.result ≡ buckets_between c.self.inside.swept c.args.now = omega arith in
    find_first _ _ _ _ _ c.args.now c.min-many.result _ _ c.self.invariant c.self.view_is c.requires c.deref.ensures.value many c.first_in_buckets.ensures.first

pub returns-clause-steps : goal.returns-clause-steps
returns-clause-steps g c =
    let many : c.min-many.result ≡ buckets_between c.self.inside.swept c.args.now = omega arith in
    omega (arith, c.first_in_buckets.ensures.steps, find_steps _ _ _ _ c.args.now c.min-many.result _ c.self.invariant c.self.view_is c.requires many)
