use Rattle.std.proofs.Common.{List, Bool, sym, refl, subst, ◌∙◌}
use Rattle.std.specs.Prelude.{is_ok}
use Rattle.booth_host.specs.declared.entry.Entry.TheVariants as calls
use Rattle.booth_wire.specs.PlainMessage.{PlainMessage, plain_of}
use Rattle.booth_node.specs.Replies.{replies_to}
use Rattle.booth_node.specs.ReplyForms.{IsWritten}
use Rattle.booth_node.specs.View.{state_with}
use Rattle.booth_node.proofs.LedLemmas.{led_end, led_last}
use Rattle.booth_node.proofs.RoutingLemmas.{answered as meets_answer, one_reply, over_tickets, unanswered}
use Rattle.booth_node.proofs.tickets.TicketTable.tell_reply.Goals as goal

pub returns-then-written-clause-led : goal.returns-then-written-clause-led
returns-then-written-clause-led g c =
    let old = c.args.self.now in
    let message = plain_of c.args.message.now in
    let frame = c.answer-written.new.self.frame in
    let state = state_with old c.args.now in
    let all = one_reply old.node c.args.now old.tickets.items old.common message c.requires in
    let written = subst (λ (b : Bool). IsWritten old.node.ring c.args.now (replies_to old.node c.args.now old.tickets.items old.common message) b frame)
    c.if-written.true (subst (λ (rs : List PlainMessage). IsWritten old.node.ring c.args.now rs c.answer-written.result frame) (sym all) (over_tickets old.node c.args.now old.common message c.deref.result.now old.tickets.items c.answer-written.result frame c.deref.ensures.value c.answer-written.ensures)) in
    meets_answer old.node c.args.now state c.args.to (replies_to old.node c.args.now old.tickets.items old.common message) frame written
    (λ reply is fits. led_last (is_ok c.send.result) (calls.Send c.args.to c.bytes.result.now c.send.result) (λ ok. state) c.send.ensures.past
    c.send.ensures.cause.later (refl, c.bytes.ensures.value ∙ is, fits, refl))

pub returns-else-written-clause-led : goal.returns-else-written-clause-led
returns-else-written-clause-led g c =
    let old = c.args.self.now in
    let message = plain_of c.args.message.now in
    let frame = c.answer-written.new.self.frame in
    let state = state_with old c.args.now in
    let all = one_reply old.node c.args.now old.tickets.items old.common message c.requires in
    let written = subst (λ (b : Bool). IsWritten old.node.ring c.args.now (replies_to old.node c.args.now old.tickets.items old.common message) b frame)
    c.if-written.false (subst (λ (rs : List PlainMessage). IsWritten old.node.ring c.args.now rs c.answer-written.result frame) (sym all) (over_tickets old.node c.args.now old.common message c.deref.result.now old.tickets.items c.answer-written.result frame c.deref.ensures.value c.answer-written.ensures)) in
    unanswered old.node c.args.now state c.args.to (replies_to old.node c.args.now old.tickets.items old.common message) frame written led_end
