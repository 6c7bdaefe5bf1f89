use Rattle.std.proofs.Common.{rules}
use Rattle.std.proofs.lemmas.Fn.{always_returns_same}
use Rattle.std.proofs.lemmas.List.Sorted.{IsNonDecreasingBy-from_sort_by_key}
use Rattle.booth_audit.specs.declared.holding.Holding.{Holding}
use Rattle.booth_audit.proofs.OrderLemmas.{sorted_so}
use Rattle.booth_audit.proofs.order.sort_by_ticket.Goals as goal

pub returns : goal.returns
returns c count below =
    sorted_so _ _ c.sort_by_key.ensures.permutation
    (IsNonDecreasingBy-from_sort_by_key (λ (h : Holding). h.ticket) _ c.in_ok-sort_by_key.ensures.sorted (λ a r q k. search rules))
    (c.sort_by_key.ensures.stable (λ (h : Holding). h.ticket) (always_returns_same _ _ _ (λ a r q k. search rules))) count below
