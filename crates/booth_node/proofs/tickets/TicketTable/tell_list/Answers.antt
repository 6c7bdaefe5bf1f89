use Rattle.std.proofs.Common.{◌<◌, ◌≤◌, List, length, ap, arith}
use Rattle.std.proofs.lemmas.List.{length-map}
use Rattle.booth_node.specs.Replies.{list_line, list_lines}
use Rattle.booth_node.proofs.TellLemmas.{same_again, same_part, told_all, told_first, told_next}
use Rattle.booth_node.proofs.tickets.TicketTable.tell_list.Goals as goal

pub parts-init : goal.parts-init
parts-init g c =
    let old = c.args.self.now in
    record {
      told = told_first old.node c.args.now c.args.to c.args.request (list_lines old.node c.args.now old.tickets.items)
          c.send_part-next.result c.send_part-next.ensures.sent;
      same = c.send_part-next.ensures.same;
    }

pub parts-preserved : goal.parts-preserved
parts-preserved g c =
    let old = c.args.self.now in
    let lines = list_lines old.node c.args.now old.tickets.items in
    let test = c.parts-test.true in
    let many = c.len.ensures in
    let as_many = ap (λ (ts : List _). length ts) c.parts.invariant.same.tickets in
    let all = length-map old.tickets.items (list_line old.node.config c.args.now) in
    let below : c.parts.next < length lines = omega (arith, test, many, as_many, all) in
    let sent = same_part c.parts.invariant.same c.args.now c.parts.next c.send_part-next-in-parts.ensures.sent in
    record {
      told = told_next old.node c.args.now c.args.to c.args.request lines c.parts.number c.parts.next
          c.send_part-next-in-parts.result below c.parts.invariant.told sent;
      same = same_again c.parts.invariant.same c.send_part-next-in-parts.ensures.same;
    }

pub returns : goal.returns
returns g c =
    let old = c.args.self.now in
    let lines = list_lines old.node c.args.now old.tickets.items in
    let test = c.parts-test.false in
    let many = c.len.ensures in
    let as_many = ap (λ (ts : List _). length ts) c.parts.invariant.same.tickets in
    let all = length-map old.tickets.items (list_line old.node.config c.args.now) in
    let over : length lines ≤ c.parts.next = omega (arith, test, many, as_many, all) in
    record {
      led = told_all old.node c.args.now c.args.to c.args.request lines c.parts.number c.parts.next over c.parts.invariant.told;
      same = c.parts.invariant.same;
    }
