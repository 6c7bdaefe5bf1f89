use Rattle.std.proofs.Common.{◌<◌, ◌≤◌, ℕ, List, length, get_or, subst, sym, ap, ◌∙◌}
use Rattle.std.specs.Prelude.{None}
use Rattle.booth_conf.specs.declared.tickets.TicketConf.{TicketConf}
use Rattle.booth_rec.specs.Record.{record_or_none}
use Rattle.booth_node.specs.Ours.{IsOurs}
use Rattle.booth_node.proofs.StartLemmas.{start_next, opened_is, ours_one, all_longer, one_longer}
use Rattle.booth_node.proofs.opening.start_tickets.Goals as goal

pub loop-index-preserved : goal.loop-index-preserved
loop-index-preserved c =
    let node = c.args.node.now in
    let i : ℕ = c.loop-index.index in
    let kept = c.loop-index.invariant in
    let longer = c.push_reserved.ensures.items in
    let is = opened_is node c.args.now i c.index-confs-index.result _ _ _ c.setup_of-setup.result
    c.open_ticket.result
    c.open_ticket.ensures c.setup_of-setup.ensures.setup c.index-confs-index.is c.as_ref.ensures.value in
    record {
      started = start_next node c.args.now i c.tickets-confs.result.now c.args.records.now
          c.index-confs-index.result None _ _ c.open_ticket.result
          c.loop-index-test.true
          (subst (λ (n : ℕ). i < n)
          (ap (λ (cs : List TicketConf). length cs) kept.confs ∙ sym c.requires.records)
          c.loop-index-test.true)
          kept.started longer is;
      ours = all_longer (IsOurs node.me node.config.members) _ _ c.open_ticket.result longer kept.ours
          (ours_one node c.args.now i (get_or c.tickets-confs.result.now i c.index-confs-index.result)
          (record_or_none (get_or c.args.records.now i None)) c.open_ticket.result c.requires.member is);
      whole = one_longer _ _ c.open_ticket.result i longer kept.whole;
      confs = kept.confs;
      room = subst (λ (n : ℕ). length c.tickets-confs.result.now ≤ n) (sym c.push_reserved.ensures.capacity)
          kept.room;
    }
