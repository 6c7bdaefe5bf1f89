use Rattle.std.proofs.Common.{ap, sym, refl, ◌∙◌}
use Rattle.booth_wire.specs.PlainMessage.{plain_of}
use Rattle.booth_node.specs.Reaction.{answers, met}
use Rattle.booth_node.specs.Replies.{list_lines}
use Rattle.booth_node.specs.View.{state_with}
use Rattle.booth_node.proofs.ActLemmas.{same_state}
use Rattle.booth_node.proofs.LedLemmas.{led_as}
use Rattle.booth_node.proofs.RoutingLemmas.{parts_reply}
use Rattle.booth_node.proofs.TellLemmas.{told_met}
use Rattle.booth_node.proofs.tickets.TicketTable.answer.Goals as goal

pub returns-then-is_list-clause-led : goal.returns-then-is_list-clause-led
returns-then-is_list-clause-led g c =
    let old = c.args.self.now in
    let same = c.tell_list.ensures.same in
    let message = plain_of c.args.message.now in
    let state = state_with old c.args.now in
    led_as (ap (λ replies. met old.node c.args.now state c.args.to (answers old.node.ring c.args.now replies))
    (sym (parts_reply old.node c.args.now old.tickets.items old.common message (sym c.is_list.ensures ∙ c.if-is_list.true)))) refl
    (told_met old.node c.args.now c.args.to message.head.request (list_lines old.node c.args.now old.tickets.items) state
    (state_with c.tell_list.new.self c.args.now)
    (same_state c.args.now same.tickets same.waiters same.attributes same.common) c.tell_list.ensures.led)
