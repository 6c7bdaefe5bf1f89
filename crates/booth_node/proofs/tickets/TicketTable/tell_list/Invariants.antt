use Rattle.std.proofs.Common.{◌-◌, length}
use Rattle.booth_node.specs.Replies.{list_lines}
use Rattle.booth_node.specs.View.{TellsAlone}
use Rattle.booth_node.proofs.TellLemmas.{Told}
use Rattle.booth_node.proofs.tickets.TicketTable.tell_list.Given as goal

abbrev pub invariant-parts : goal.invariant-parts
invariant-parts g l =
    let old = l.fn.self in
    record {
      told : Told g.H.Host.past g.H.Host.faults old.node l.now l.to l.request
          (list_lines old.node l.now old.tickets.items) l.number l.next l.fn.host l.host;
      same : TellsAlone old l.self;
    }

abbrev pub decreases-parts : goal.decreases-parts
decreases-parts g l = length l.fn.self.tickets.items - l.next
