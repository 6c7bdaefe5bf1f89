use Rattle.std.proofs.Common.{◌≡◌, refl}
use Rattle.booth_ticket.specs.Ticket.{TicketState}
use Rattle.booth_ticket.specs.Waiting.{waiting_at}
use Rattle.booth_node.specs.Acting.{MayBefall}
use Rattle.booth_node.specs.State.{state_of_parts}
use Rattle.booth_node.proofs.ActLemmas.{acted}
use Rattle.booth_node.proofs.PlaceLemmas.{read_at}
use Rattle.booth_node.proofs.hands.act_at.Goals as goal

pub returns-clause-led : goal.returns-clause-led
returns-clause-led g c =
    let hands = c.args.hands.now in
    let found = read_at (λ (t : TicketState). MayBefall t c.args.event.now hands.now
    × (hands.name.now ≡ t.setup.ticket))
    c.args.tickets.now.items c.args.place _ c.index_mut.result.now c.index_mut.ensures.value c.requires.may in
    acted hands.node.now hands.now c.args.place c.args.event.now
    (state_of_parts c.args.tickets.now.items c.args.waiters.now c.args.attrs.now hands.common.now hands.now)
    c.index_mut.result.now
    (record { ticket = c.befall.new.ticket; waiters = waiting_at c.befall.new.waiters c.args.place })
    c.befall.new.waiters c.befall.new.hands.common.now hands.name.now c.job_at-job.result found.0
    found.1.1 c.job_at-job.ensures c.befall.ensures.others c.befall.ensures.led

pub returns-clause-others : goal.returns-clause-others
returns-clause-others g c =
    let hands = c.args.hands.now in
    let found = read_at (λ (t : TicketState). MayBefall t c.args.event.now hands.now
    × (hands.name.now ≡ t.setup.ticket))
    c.args.tickets.now.items c.args.place _ c.index_mut.result.now c.index_mut.ensures.value c.requires.may in
    record {
      before = c.index_mut.result.now;
      after = c.befall.new.ticket;
      there = found.0;
      same =
          c.befall.ensures.setup;
      is = refl;
    }
