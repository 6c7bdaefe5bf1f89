use Rattle.std.proofs.Common.{ℕ, List, refl, sym, ap, ◌∙◌, set, subst}
use Rattle.booth_ticket.specs.declared.waiters.Waiter.{Waiter}
use Rattle.booth_ticket.specs.Acts.{Did}
use Rattle.booth_ticket.specs.Answers.{answered}
use Rattle.booth_ticket.specs.Requests.{do_for, follow_request}
use Rattle.booth_ticket.specs.Waiting.{Left}
use Rattle.booth_ticket.proofs.DidLemmas.{did_as, did_end, did_then}
use Rattle.booth_ticket.proofs.TellLemmas.{waiting_set, exists_set, set_again}
use Rattle.booth_ticket.proofs.requests.follow_request.Goals as goal

pub returns-clause-did : goal.returns-clause-did
unfolding follow_request
returns-clause-did g c =
    let list = c.args.list in
    let request = c.args.request.now in
    let core = c.do_for-done.new.core in
    let joins = waiting_set c.tell.new.waiters list _ c.join.new.waiters
    (exists_set c.args.waiters.now list _ c.tell.new.waiters c.requires.exists c.tell.ensures.others) c.join.ensures in
    did_as refl
    (ap (λ (ws : List Waiter). let left : Left = record { core = core; waiters = ws } in left) (sym joins))
    (did_then _
    (subst (λ (n : ℕ). Did g.W.Hands.did (do_for c.args.core.now n c.args.given request.options request.wish)
    (answered c.do_for-done.result core) c.args.hands.now c.do_for-done.new.hands) c.spare.ensures c.do_for-done.ensures.did)
    (did_then _ c.tell.ensures.did (did_then _ c.reply.ensures.did did_end)))

pub returns-clause-others : goal.returns-clause-others
returns-clause-others g c =
    let lists = c.args.waiters.now in
    let list = c.args.list in
    set_again lists list _ _ c.tell.new.waiters c.join.new.waiters c.tell.ensures.others
    (c.join.ensures
    ∙ ap (set c.tell.new.waiters list)
    (sym (waiting_set c.tell.new.waiters list _ c.join.new.waiters
    (exists_set lists list _ c.tell.new.waiters c.requires.exists c.tell.ensures.others) c.join.ensures)))
