-- One ticket less is left, and its holders are among the most so far.
use Rattle.std.proofs.Common.{◌≡◌, true, false, length, ap, ◌∙◌, arith}
use Rattle.std.specs.Prelude.{Some, slice_get}
use Rattle.booth_sim.proofs.Daemons.{holders_by_hand, holders_by_votes, most_more, there}
use Rattle.booth_sim.proofs.holders.most_holders.Goals as goal
use Rattle.booth_sim.proofs.holders.most_holders.Goals.{then-not-ticket, else-not-ticket}

pub loop-place-preserved : goal.loop-place-preserved
loop-place-preserved c =
    λ before are now.
    most_more c.args.config.now before c.args.config.now.tickets c.loop-place.place c.ticket-item.result c.loop-place.most c.if-not-ticket.most (there _ c.args.config.now.tickets c.loop-place.place _ c.tickets-ticket-items.ensures.value (let value = c.tickets-ticket-items.ensures.value in omega (arith, ap (λ ts. length ts) value)) c.ticket-item.is)
    (elim c.if-not-ticket.branch [
      | then-not-ticket w ↦ (
          let at : slice_get c.args.config.now.tickets c.loop-place.place ≡ Some c.ticket-item.result = there _ c.args.config.now.tickets c.loop-place.place _ c.tickets-ticket-items.ensures.value (let value = c.tickets-ticket-items.ensures.value in omega (arith, ap (λ ts. length ts) value)) c.ticket-item.is in
          let votes : c.ticket-item.result.manual ≡ false = cc in
          let count = w.holders.ensures.exact before c.ticket-item.result at are now in
          let all = holders_by_votes c.args.config.now before c.ticket-item.result votes in
          let most = w.max-most.ensures in
          let is = w.most-is in cc)
      | else-not-ticket w ↦ (
          let by_hand : c.ticket-item.result.manual ≡ true = cc in
          let none = holders_by_hand c.args.config.now before c.ticket-item.result by_hand in
          let is = w.most-is in omega (arith, none, is))
    ])
    ∙ c.loop-place.invariant before are now
