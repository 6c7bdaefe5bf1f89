use Rattle.std.proofs.Common.{true, List, ap, ◌∙◌}
use Rattle.std.specs.Prelude.{Option}
use Rattle.booth_base.specs.declared.address.MemberId.{MemberId}
use Rattle.booth_rec.specs.declared.record.Record.{Record}
use Rattle.booth_node.specs.Opening.{opened as start_state}
use Rattle.booth_daemon.specs.Opening.{member_config}
use Rattle.booth_daemon.proofs.ServeLemmas.{node_opened, not_opened, not_started, no_node}
use Rattle.booth_daemon.proofs.opening.open_node.Goals as goal

pub returns-in-Err-clause-past : goal.returns-in-Err-clause-past
returns-in-Err-clause-past g c =
    not_opened c.args.asked.now c.args.config c.args.ring c.now-reading.result c.in-Err.field-0
    c.unopened_text.result c.now-reading.ensures.past (rw c.port.ensures at c.in-Err.ensures.past)
    c.unopened_text.ensures

pub returns-in_err-records-clause-past : goal.returns-in_err-records-clause-past
returns-in_err-records-clause-past g c =
    not_started c.args.asked.now c.args.config c.args.ring c.from_residual.result
    c.in_err-records.field-0.0 c.now-reading.result c.from_residual.ensures
    c.now-reading.ensures.past (rw c.port.ensures at c.in-Ok.ensures.past)
    (rw c.tickets.ensures.value at c.in_err-records.ensures.past)

pub returns-in-Ok-open_ring-clause-past : goal.returns-in-Ok-open_ring-clause-past
returns-in-Ok-open_ring-clause-past g c =
    node_opened c.args.asked.now c.args.config c.args.ring c.now-reading.result
    c.in_ok-records.records.items c.in-Ok-open_ring.node
    c.now-reading.ensures.past (rw c.port.ensures at c.in-Ok.ensures.past)
    (rw c.tickets.ensures.value at c.in_ok-records.ensures.past)
    (c.in-Ok-open_ring.ensures.node
    ∙ ap (λ (id : MemberId). record { config = c.args.config; ring = c.args.ring; me = id; second = true }) c.id.ensures)
    (c.in-Ok-open_ring.ensures.state
    ∙ ap (λ (id : MemberId). start_state (record { config = c.args.config; ring = c.args.ring; me = id; second = true })
    c.deref.result.now c.now-reading.result) c.id.ensures
    ∙ ap (λ (rs : List (Option Record)).
    start_state (member_config c.args.asked.now.site c.args.config c.args.ring) rs c.now-reading.result)
    c.deref.ensures.value)

pub returns-clause-past : goal.returns-clause-past
returns-clause-past g c =
    no_node c.args.asked.now c.args.config c.args.ring c.now-reading.result
    c.in_ok-records.records.items c.out_of_memory.result
    c.now-reading.ensures.past (rw c.port.ensures at c.in-Ok.ensures.past)
    (rw c.tickets.ensures.value at c.in_ok-records.ensures.past) c.out_of_memory.ensures.outcome
    c.out_of_memory.ensures.said
