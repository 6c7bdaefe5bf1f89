use Rattle.std.proofs.Common.{◌≡◌, ◌+◌, ◌++◌, length, take}
use Rattle.hex.specs.Hex.{encode_lower}
use Rattle.booth_journal.proofs.draft.Draft.put_hex.Given as goal

abbrev pub invariant-loop-byte : goal.invariant-loop-byte
invariant-loop-byte l = record {
  bytes : l.self ≡ l.fn.self ++ encode_lower (take l.byte-index l.bytes);
  len : length l.self ≡ length l.fn.self + (l.byte-index + l.byte-index);
}
