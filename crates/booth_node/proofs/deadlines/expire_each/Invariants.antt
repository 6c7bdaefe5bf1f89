use Rattle.std.specs.Prelude.{◌≡◌, length, drop, take}
use Rattle.booth_node.specs.Led.{Led}
use Rattle.booth_node.specs.Reaction.{IsDone, each_due}
use Rattle.booth_node.proofs.DueLemmas.{Each, Once, DueAt, TimedBut}
use Rattle.booth_node.specs.State.{state_of_parts}
use Rattle.booth_node.proofs.deadlines.expire_each.Given as goal

abbrev pub invariant-loop-place : goal.invariant-loop-place
invariant-loop-place g l = record {
  led : Led g.H.Host.past g.H.Host.faults (IsDone l.fn.table.node.ring)
      (each_due l.fn.table.node l.now (take l.place-index l.due)
      (state_of_parts l.fn.table.tickets.items l.fn.table.waiters l.fn.table.attrs l.fn.table.common l.now))
      (state_of_parts l.table.tickets.items l.table.waiters l.table.attrs l.table.common l.now) l.fn.host l.host;
  node : l.table.node ≡ l.fn.table.node;
  due : Each (DueAt l.now l.table.tickets.items) (drop l.place-index l.due);
  once : Once (drop l.place-index l.due);
  timed : TimedBut (drop l.place-index l.due) l.table.tickets.items l.wheel.deadlines;
  slots : length l.wheel.deadlines ≡ length l.table.tickets.items;
  last : l.wheel.last ≡ l.fn.wheel.last;
  tickets : length l.table.tickets.items ≡ length l.fn.table.tickets.items;
}
