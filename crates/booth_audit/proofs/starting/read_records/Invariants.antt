use Rattle.std.proofs.Common.{◌≡◌, ◌≤◌, ℕ, List, [], drop, length}
use Rattle.std.specs.Prelude.{None, vec_capacity}
use Rattle.booth_journal.specs.Says.{Said, Says}
use Rattle.booth_node.specs.declared.node_config.NodeConfig.{NodeConfig}
use Rattle.booth_audit.specs.Course.{kept_calls, start_on}
use Rattle.booth_audit.proofs.BeginLemmas.{ReadsOn}
use Rattle.booth_audit.proofs.starting.read_records.Given as goal

abbrev pub invariant-loop-ticket : goal.invariant-loop-ticket
invariant-loop-ticket l = record {
  running : l.lines.end ≡ None;
  count : length l.records.items ≡ l.ticket-index;
  room : length l.tickets ≤ vec_capacity l.records;
  on : (node : NodeConfig) (reading : ℕ) (left : List Said) → Says l.fn.lines.rest left
      → ReadsOn node reading (start_on node reading [] (kept_calls l.tickets) l.fn.lines.line left) l.records.items
      (kept_calls (drop l.ticket-index l.tickets)) l.fn.lines l.lines;
}
