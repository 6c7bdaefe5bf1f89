use Rattle.std.proofs.Common.{◌≡◌, ◌≤◌, ◌+◌, ◌*◌, ◌++◌, length}
use Rattle.std.specs.List.{flat_map, zip}
use Rattle.booth_node.specs.Replies.{drops_line, other_line}
use Rattle.booth_node.proofs.peers.write_peers.Given as goal

-- what was written, and the lines of the members that are left
abbrev pub invariant-loop-member : goal.invariant-loop-member
invariant-loop-member l = record {
  bytes : l.text ++ flat_map (other_line l.node)
      (zip l.member-iterator.a.rest.now l.member-iterator.b.rest.now)
      ≡ drops_line l.fn.common.drops ++ flat_map (other_line l.fn.node)
      (zip l.fn.node.config.members l.fn.common.members);
  len : length l.text + 135 * length l.member-iterator.a.rest.now ≤ 2336;
}
