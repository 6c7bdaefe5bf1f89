use Rattle.std.specs.Prelude.{◌≡◌, ◌≤◌, length, take, vec_capacity}
use Rattle.std.specs.List.{All}
use Rattle.booth_node.specs.Opening.{started_from}
use Rattle.booth_node.specs.Ours.{IsOurs}
use Rattle.booth_node.proofs.opening.start_tickets.Given as goal

abbrev pub invariant-loop-index : goal.invariant-loop-index
invariant-loop-index l = record {
  started : l.tickets.items ≡ started_from l.node l.now 0 (take l.index l.confs) (take l.index l.records);
  ours : All (IsOurs l.node.me l.node.config.members) l.tickets.items;
  whole : length l.tickets.items ≡ l.index;
  confs : l.confs ≡ l.node.config.tickets;
  room : length l.confs ≤ vec_capacity l.tickets;
}
