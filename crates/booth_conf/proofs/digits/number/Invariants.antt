use Rattle.std.proofs.Common.{◌≡◌, true, take, ◌<◌, ◌^◌}
use Rattle.std.specs.List.{list_all}
use Rattle.booth_conf.specs.Values.{worth, is_digit}
use Rattle.booth_conf.proofs.digits.number.Given as goal

abbrev pub invariant-loop-byte : goal.invariant-loop-byte
invariant-loop-byte l = record {
  value : l.number ≡ worth (take l.byte-index l.bytes);
  digits : list_all is_digit (take l.byte-index l.bytes) ≡ true;
  small : l.number < 10 ^ l.byte-index;
}
