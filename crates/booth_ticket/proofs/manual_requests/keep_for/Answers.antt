use Rattle.std.proofs.Common.{subst}
use Rattle.booth_rec.specs.declared.record.Record.{Record}
use Rattle.booth_manual.specs.State.{State}
use Rattle.booth_ticket.specs.Acts.{Did}
use Rattle.booth_ticket.specs.ManualRequests.{Tried, keep_for, keep_tried, tries_for}
use Rattle.booth_ticket.proofs.manual_requests.keep_for.Goals as goal

pub returns-clause-did : goal.returns-clause-did
unfolding keep_for
returns-clause-did g c =
    let rules = c.args.rules.now in
    let left : Tried = record { answer = c.keep_tried.result; rules = c.keep_tried.new.rules } in
    subst (λ (r : State). Did g.W.Hands.did (keep_tried r c.args.wish (tries_for rules.setup rules.view c.args.wish).tried) left
    c.args.hands.now c.keep_tried.new.hands) c.try_for-tried.ensures.rules
    (subst (λ (t : Record). Did g.W.Hands.did (keep_tried c.try_for-tried.new.rules c.args.wish t) left
    c.args.hands.now c.keep_tried.new.hands) c.try_for-tried.ensures.tried c.keep_tried.ensures.did)
