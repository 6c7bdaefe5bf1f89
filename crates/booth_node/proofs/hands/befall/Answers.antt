use Rattle.std.proofs.Common.{sym}
use Rattle.booth_node.proofs.LedLemmas.{led_hands}
use Rattle.booth_node.proofs.hands.befall.Goals as goal

pub returns-in-Due : goal.returns-in-Due
returns-in-Due g c =
    let all = led_hands (λ x. x.host.ghost_name) (λ x. x.common.ghost_name) (λ x. x.frame.ghost_name) (λ x. x.node.now)
    (λ x. x.now) (λ x. x.name.now) (λ x. x.host.now) (λ x. x.common.now) (λ a b act did. did) c.tick.ensures.did in
    record {
      host = all.0.0;
      counts = all.0.1;
      buffer = all.0.2;
      led = rw (c.in-Due.is, sym c.is_ready-ready.ensures) all.1;
      setup = c.tick.ensures.setup;
      others = c.tick.ensures.others;
    }

pub returns-in-Heard : goal.returns-in-Heard
returns-in-Heard g c =
    let all = led_hands (λ x. x.host.ghost_name) (λ x. x.common.ghost_name) (λ x. x.frame.ghost_name) (λ x. x.node.now)
    (λ x. x.now) (λ x. x.name.now) (λ x. x.host.now) (λ x. x.common.now) (λ a b act did. did) c.hear.ensures.did in
    record {
      host = all.0.0;
      counts = all.0.1;
      buffer = all.0.2;
      led = rw c.in-Heard.is all.1;
      setup = c.hear.ensures.setup;
      others = c.hear.ensures.others;
    }

pub returns-in-Asked : goal.returns-in-Asked
returns-in-Asked g c =
    let all = led_hands (λ x. x.host.ghost_name) (λ x. x.common.ghost_name) (λ x. x.frame.ghost_name) (λ x. x.node.now)
    (λ x. x.now) (λ x. x.name.now) (λ x. x.host.now) (λ x. x.common.now) (λ a b act did. did) c.client.ensures.did in
    record {
      host = all.0.0;
      counts = all.0.1;
      buffer = all.0.2;
      led = rw (c.in-Asked.is, sym c.is_ready-ready-in-Asked.ensures) all.1;
      setup = c.client.ensures.setup;
      others = c.client.ensures.others;
    }

pub returns-in-Over : goal.returns-in-Over
returns-in-Over g c =
    let all = led_hands (λ x. x.host.ghost_name) (λ x. x.common.ghost_name) (λ x. x.frame.ghost_name) (λ x. x.node.now)
    (λ x. x.now) (λ x. x.name.now) (λ x. x.host.now) (λ x. x.common.now) (λ a b act did. did) c.handler_done.ensures.did in
    record {
      host = all.0.0;
      counts = all.0.1;
      buffer = all.0.2;
      led = rw c.in-Over.is all.1;
      setup = c.handler_done.ensures.setup;
      others = c.handler_done.ensures.others;
    }
