use Rattle.std.specs.Prelude.{◌≡◌, length, map}
use Rattle.std.specs.List.{range_with_len}
use Rattle.booth_node.specs.Led.{Led}
use Rattle.booth_node.specs.Reaction.{IsDone, deadline_of, each_over}
use Rattle.booth_node.specs.State.{state_of_parts}
use Rattle.booth_node.proofs.jobs.end_each.Given as goal

abbrev pub invariant-loop-place : goal.invariant-loop-place
invariant-loop-place g l = record {
  led : Led g.H.Host.past g.H.Host.faults (IsDone l.fn.table.node.ring)
      (each_over l.fn.table.node l.now l.job l.service (range_with_len 0 l.place)
      (state_of_parts l.fn.table.tickets.items l.fn.table.waiters l.fn.table.attrs l.fn.table.common l.now))
      (state_of_parts l.table.tickets.items l.table.waiters l.table.attrs l.table.common l.now) l.fn.host l.host;
  node : l.table.node ≡ l.fn.table.node;
  timed : l.wheel.deadlines ≡ map deadline_of l.table.tickets.items;
  last : l.wheel.last ≡ l.fn.wheel.last;
  tickets : length l.table.tickets.items ≡ length l.fn.table.tickets.items;
}
