use Rattle.std.proofs.Common.{ℕ, List, refl, ap, sym, ◌∙◌, subst}
use Rattle.std.specs.Option.{is_some}
use Rattle.booth_wire.specs.declared.message.Setup.{Setup}
use Rattle.booth_raft.specs.Sound.{IsSound}
use Rattle.booth_ticket.specs.declared.request.Request.{Request}
use Rattle.booth_ticket.specs.declared.waiters.Waiter.{Waiter}
use Rattle.booth_ticket.specs.Acts.{Did}
use Rattle.booth_ticket.specs.Manual.{ManualLeft, ManualState, ticket_as}
use Rattle.booth_ticket.specs.ManualRequests.{Begun, done_by_hand, manual_asked, refused_by_hand}
use Rattle.booth_ticket.specs.Waiting.{joined, spare_in, waiting_at}
use Rattle.booth_ticket.proofs.DidLemmas.{did_as, did_end, did_then}
use Rattle.booth_ticket.proofs.SetupLemmas.{begin_keeps}
use Rattle.booth_ticket.proofs.TellLemmas.{waiting_set}
use Rattle.booth_ticket.proofs.manual.ManualTicket.client.Goals as goal

pub returns-clause-did : goal.returns-clause-did
unfolding manual_asked
returns-clause-did g c =
    let lists = c.args.waiters.now in
    let list = c.args.list in
    let request = c.args.request.now in
    let greets_at = c.self.inside.greets_at in
    let ticket = ticket_as c.self.inside.rules greets_at c.self.inside.running in
    let rules = c.do_for-answer.new.rules in
    let running = c.do_for-answer.new.running in
    let begun : Begun = record { answer = c.do_for-answer.result; rules = rules; running = running } in
    let left = λ (ws : List Waiter). let left : ManualLeft = record { ticket = ticket_as rules greets_at running; waiters = ws } in left in
    subst (λ (t : ManualState). Did g.W.Hands.did
    (manual_asked t (waiting_at lists list) (spare_in lists) c.args.given request)
    (left (waiting_at c.join.new.waiters list)) c.args.hands.now c.manual_reply.new.hands) c.self.view_is
    (did_as refl
    (ap left (sym (waiting_set lists list _ c.join.new.waiters c.requires.exists c.join.ensures
    ∙ ap (λ (r : Request). joined r c.do_for-answer.result (waiting_at lists list)) c.as_waiting.ensures)))
    (did_then _
    (subst (λ (n : ℕ). Did g.W.Hands.did (done_by_hand ticket n c.args.given request) begun c.args.hands.now
    c.do_for-answer.new.hands) c.spare.ensures c.do_for-answer.ensures.did)
    (did_then _ c.manual_reply.ensures.did did_end)))

pub invariant_of-self : goal.invariant_of-self
invariant_of-self g c =
    let rules = c.self.inside.rules in
    let running = c.self.inside.running in
    let request = c.args.request.now in
    let begun : Begun = record { answer = c.do_for-answer.result; rules = c.do_for-answer.new.rules; running = c.do_for-answer.new.running } in (
      subst (λ (s : Setup). IsSound s)
          (sym (begin_keeps rules running
          (refused_by_hand rules.setup rules.view (is_some running) c.spare.result c.args.given.ready request.options request.wish)
          c.args.given.job request.wish c.args.given.now c.do_for-answer.ensures.did.acts begun c.do_for-answer.ensures.did.leads))
          c.self.invariant.0,
      c.do_for-answer.ensures.idle,
    )
