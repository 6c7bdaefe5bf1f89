use Rattle.std.proofs.Common.{◌≡◌, ◌*◌, ◌+◌, ◌++◌, ◌≤◌, length, take}
use Rattle.std.specs.List.{flat_map}
use Rattle.booth_node.specs.Replies.{spaced}
use Rattle.booth_node.proofs.peers.put_numbers.Given as goal

abbrev pub invariant-loop-number : goal.invariant-loop-number
invariant-loop-number l = record {
  bytes : l.text ≡ l.fn.text ++ flat_map spaced (take l.number-index l.numbers);
  len : length l.text ≤ length l.fn.text + 21 * l.number-index;
}
