-- How a clock starts, what it reads, and when a step of the wall clock is reported.
use Rattle.std.specs.Prelude.{◌≡◌, ◌≢◌, ℕ, ◌+◌, ◌-◌, ◌^◌, ◌≤◌, min, max, nat_lt, if◌then◌else◌, Option, None, Some, Result, Ok, Err}
use Rattle.booth_clock.specs.declared.kept.BootId.{BootId}
use Rattle.booth_clock.specs.declared.kept.KeptClock.{KeptClock}
use Rattle.booth_clock.specs.declared.own_clock.Readings.{Readings}
use Rattle.booth_clock.specs.declared.own_clock.OwnClock.{OwnClock}
use Rattle.booth_clock.specs.declared.own_clock.ClockFault.{ClockFault}
use Rattle.booth_clock.specs.declared.own_clock.ClockFault.TheVariants.{Behind, Early}
use Rattle.booth_clock.specs.declared.own_clock.Step.{Step}
use Rattle.booth_clock.specs.declared.own_clock.Step.TheVariants as step

-- the reading of a clock with this offset at this time since the boot; a u64 limits it
abbrev pub reading_at : ℕ → ℕ → ℕ
reading_at offset boot = min (offset + boot) (2 ^ 64 - 1)

-- ---- the start

-- with this offset, and not behind the reading that was reached
abbrev pub begun_with : BootId → ℕ → ℕ → Readings → Result OwnClock ClockFault
begun_with boot offset reached readings =
    if nat_lt (reading_at offset readings.boot) reached then Err Behind
    else Ok (record { boot = boot; offset = offset; last = reading_at offset readings.boot; told = offset })

-- with the offset with which it equals the wall clock
abbrev pub begun_anew : BootId → ℕ → Readings → Result OwnClock ClockFault
begun_anew boot reached readings =
    if nat_lt readings.wall readings.boot then Err Early
    else begun_with boot (readings.wall - readings.boot) reached readings

-- The stored offset is used in its own boot; in any other boot the clock is set again.
pub record GoesOn (boot : BootId) (kept : KeptClock) (readings : Readings) (result : Result OwnClock ClockFault)
    : Type 0 where
  pub same_boot : kept.boot ≡ boot → result ≡ begun_with boot kept.offset kept.reached readings
  pub new_boot : kept.boot ≢ boot → result ≡ begun_anew boot kept.reached readings

-- The result of a start, which depends on the stored bytes.
abbrev pub Begins : BootId → Option KeptClock → Readings → Result OwnClock ClockFault → Type 0
Begins boot None readings result = result ≡ begun_anew boot 0 readings
Begins boot (Some kept) readings result = GoesOn boot kept readings result

-- ---- the wall clock compared with it

abbrev pub distance : ℕ → ℕ → ℕ
distance a b = max a b - min a b

-- a reading of the wall clock equals this reading, apart from rounding
abbrev pub IsNear : ℕ → ℕ → Type 0
IsNear own wall = distance own wall ≤ 2

-- how far the wall clock is ahead of the time since the boot
abbrev pub wall_offset : Readings → ℕ
wall_offset readings = readings.wall - readings.boot

abbrev pub step_of : ℕ → ℕ → Step
step_of offset wall = if nat_lt wall offset then step.Behind (offset - wall) else step.Ahead (wall - offset)

-- a step is reported if the wall clock's offset differs by more than 100 ms from the last reported offset
abbrev pub step_seen : ℕ → ℕ → ℕ → Option Step
step_seen offset told wall = if nat_lt 100 (distance told wall) then Some (step_of offset wall) else None

abbrev pub told_after : ℕ → ℕ → ℕ
told_after told wall = if nat_lt 100 (distance told wall) then wall else told
