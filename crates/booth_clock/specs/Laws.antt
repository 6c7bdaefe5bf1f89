-- The law of the clock's pace.
use Rattle.std.specs.Prelude.{◌≡◌, ℕ, ◌+◌, ◌-◌, ◌^◌, ◌<◌, ◌≤◌}
use Rattle.booth_clock.specs.OwnClock.{reading_at}

-- From one moment of a boot to a later one the clock advances by as much as the time since the boot, up to the greatest
-- u64.
pub record KeepsPace (offset first second : ℕ) : Type 0 where
  pub never_back : first ≤ second → reading_at offset first ≤ reading_at offset second
  pub same_pace : first ≤ second → offset + second < 2 ^ 64
      → reading_at offset second - reading_at offset first ≡ second - first
