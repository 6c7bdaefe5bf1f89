-- The spelling of the stored clock, and when bytes spell none.
use Rattle.std.specs.Prelude.{◌≡◌, ℕ, ◌<◌, ◌^◌, List, ◌++◌, length, take, drop}
use Rattle.std.specs.Int.{w64, from_be_bytes, to_be_bytes}
use Rattle.booth_clock.specs.declared.kept.KeptClock.{KeptClock}

-- a number in network order
unfoldable pub long : ℕ → List ℕ
long n = to_be_bytes w64 n

-- the version, which is 1, the offset, the reading that was reached, and the boot's id
abbrev pub spelling : KeptClock → List ℕ
spelling kept = long 1 ++ long kept.offset ++ long kept.reached ++ kept.boot.0

-- bytes that spell a clock, whose numbers fit their types
pub record Spells (bytes : List ℕ) (kept : KeptClock) : Type 0 where
  pub offset : kept.offset < 2 ^ 64
  pub reached : kept.reached < 2 ^ 64
  pub boot : length kept.boot.0 ≡ 36
  pub spelled : bytes ≡ spelling kept

-- the number at a place
abbrev pub long_at : ℕ → List ℕ → ℕ
long_at at bytes = from_be_bytes w64 (take 8 (drop at bytes))
