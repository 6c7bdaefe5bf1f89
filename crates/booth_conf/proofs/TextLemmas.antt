-- Bytes of values are text.
use Rattle.std.proofs.Common.{◌≡◌, ◌<◌, ℕ, zero, suc, true, List, [], ◌∷◌, arith}
use Rattle.std.specs.List.{list_all}
use Rattle.std.specs.Str.{IsUtf8, IsAscii}
use Rattle.std.proofs.lemmas.Str.{IsUtf8-from_ascii}
use Rattle.std.proofs.lemmas.Bool.Decides.{nat_tests}
use Rattle.booth_conf.specs.Grammar.{is_value_byte}

plain_below : (b : ℕ) → is_value_byte b ≡ true → b < 128
plain_below b h = grind (arith, nat_tests)

plain_ascii : (bytes : List ℕ) → list_all is_value_byte bytes ≡ true → IsAscii bytes
plain_ascii [] h i = omega arith
plain_ascii (b ∷ bytes) h zero = plain_below b (grind (arith, nat_tests))
plain_ascii (b ∷ bytes) h (suc i) = plain_ascii bytes (grind (arith, nat_tests)) i

pub plain_utf8 : (bytes : List ℕ) → list_all is_value_byte bytes ≡ true → IsUtf8 bytes
plain_utf8 bytes h = IsUtf8-from_ascii bytes (plain_ascii bytes h)
