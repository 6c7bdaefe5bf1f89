use Rattle.std.proofs.Common.{refl, sym}
use Rattle.std.specs.Prelude.{Err}
use Rattle.booth_wire.specs.PlainMessage.{plain_of}
use Rattle.booth_auth.proofs.GateLemmas.{lets_in}
use Rattle.booth_node.specs.View.{state_with}
use Rattle.booth_node.proofs.ActLemmas.{same_state}
use Rattle.booth_node.proofs.LedLemmas.{led_as, led_end}
use Rattle.booth_node.proofs.RoutingLemmas.{judged}
use Rattle.booth_node.proofs.tickets.TicketTable.receive.Goals as goal

pub follow-requires-clause-other : goal.follow-requires-clause-other
follow-requires-clause-other g c =
    let node = c.args.self.now.node in
    ((lets_in node.config node.ring node.me c.args.now c.args.bytes.now (plain_of c.in-Ok.message)).0 c.in-Ok.ensures).other

pub returns-in-Err-clause-led : goal.returns-in-Err-clause-led
returns-in-Err-clause-led g c =
    let old = c.args.self.now in
    judged old.node c.args.now (state_with old c.args.now) c.args.from c.args.bytes.now (Err c.in-Err.fault) c.in-Err.ensures
    (led_as refl
    (sym (same_state c.args.now c.refuse.ensures.tickets c.refuse.ensures.waiters c.refuse.ensures.attributes c.refuse.ensures.common))
    led_end)
