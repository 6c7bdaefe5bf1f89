use Rattle.std.proofs.Common.{rules, ℕ, get_or}
use Rattle.std.specs.Prelude.{None}
use Rattle.std.proofs.lemmas.Fn.{always_returns_same}
use Rattle.booth_chain.specs.Draining.{number_of}
use Rattle.booth_chain.specs.Slots.{deadlines_of}
use Rattle.booth_chain.proofs.SortLemmas.{same_slots_once, sorted_once}
use Rattle.booth_chain.proofs.draining.sort_once.Goals as goal

pub returns-clause-sorted : goal.returns-clause-sorted
returns-clause-sorted c =
    let key : ℕ → ℕ × ℕ = λ slot. (number_of (get_or (deadlines_of c.args.slots.now) slot None), slot) in
    let sorted = c.sort_unstable_by_key.ensures.sorted key (always_returns_same _ _ _ (λ a r q called. search rules)) in
    sorted_once (deadlines_of c.args.slots.now) _ _ sorted c.dedup.ensures.filtered

pub returns-clause-same : goal.returns-clause-same
returns-clause-same c =
    same_slots_once _ _ _ c.sort_unstable_by_key.ensures.permutation c.dedup.ensures.filtered
