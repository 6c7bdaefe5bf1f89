-- What spells a clock is read back.
use Rattle.std.proofs.Common.{◌≡◌, ◌∙◌, ℕ, List, ◌++◌, length, length-append, take, drop, ap, refl, arith}
use Rattle.std.proofs.lemmas.Nat.{from_be_bytes-to_be_bytes_8}
use Rattle.std.proofs.lemmas.List.{take_all}
use Rattle.booth_clock.specs.declared.kept.BootId.{BootId}
use Rattle.booth_clock.specs.declared.kept.KeptClock.{KeptClock}
use Rattle.booth_clock.specs.Kept.{long, spelling, long_at, Spells}

long_length : (n : ℕ) → length (long n) ≡ 8
unfolding long
long_length n = refl

pub length_of : (bytes : List ℕ) (kept : KeptClock) → Spells bytes kept → length bytes ≡ 60
length_of bytes kept spells =
    let front : List ℕ = long 1 ++ long kept.offset in
    let is : bytes ≡ (front ++ long kept.reached) ++ kept.boot.0 = spells.spelled in
    omega (
      arith,
      ap length is,
      length-append (front ++ long kept.reached) kept.boot.0,
      length-append front (long kept.reached),
      length-append (long 1) (long kept.offset),
      long_length 1,
      long_length kept.offset,
      long_length kept.reached,
      spells.boot,
    )

offset_of : (bytes : List ℕ) (kept : KeptClock) → Spells bytes kept → long_at 8 bytes ≡ kept.offset
unfolding long
offset_of bytes kept spells = ap (long_at 8) spells.spelled ∙ from_be_bytes-to_be_bytes_8 kept.offset spells.offset

reached_of : (bytes : List ℕ) (kept : KeptClock) → Spells bytes kept → long_at 16 bytes ≡ kept.reached
unfolding long
reached_of bytes kept spells = ap (long_at 16) spells.spelled ∙ from_be_bytes-to_be_bytes_8 kept.reached spells.reached

boot_of : (bytes : List ℕ) (kept : KeptClock) → Spells bytes kept → take 36 (drop 24 bytes) ≡ kept.boot.0
unfolding long
boot_of bytes kept spells =
    ap (λ (l : List ℕ). take 36 (drop 24 l)) spells.spelled ∙ take_all 36 kept.boot.0 (omega (arith, spells.boot))

-- the clock whose fields stand in the bytes
abbrev pub clock_in : List ℕ → KeptClock
clock_in bytes = record { boot = record { 0 = take 36 (drop 24 bytes) }; offset = long_at 8 bytes; reached = long_at 16 bytes }

pub read_back : (bytes : List ℕ) (kept : KeptClock) → Spells bytes kept → clock_in bytes ≡ kept
read_back bytes kept spells =
    rw (offset_of bytes kept spells, reached_of bytes kept spells, boot_of bytes kept spells) refl
