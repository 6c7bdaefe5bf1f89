-- Which times of a follower fit a ticket.
use Rattle.std.specs.Prelude.{◌<◌, ◌≤◌, ◌+◌, ◌-◌, ◌/◌, ℕ, Option, unwrap_or}
use Rattle.booth_follow_rule.specs.declared.margins.TheConstants.{SLACK, LEAST_KILL, PAUSE}
use Rattle.booth_follow_rule.specs.declared.margins.MarginFault.{MarginFault}
use Rattle.booth_follow_rule.specs.declared.margins.MarginFault.TheVariants.{MarginTooLong, KillTooLong, KillTooShort}
use Rattle.booth_follow_rule.specs.declared.margins.Margins.{Margins}

-- The times in the arguments. The default margin is half of the time that a lease has left at its renewal. The default
-- time of a kill is half of the margin.
abbrev pub margins_with : ℕ → Option ℕ → Margins
margins_with margin kill = record { margin = margin; kill = unwrap_or kill (margin / 2); pause = PAUSE }

abbrev pub margins_of : ℕ → ℕ → Option ℕ → Option ℕ → Margins
margins_of expire renewal margin kill = margins_with (unwrap_or margin ((expire - renewal) / 2)) kill

-- A renewed lease has more than the margin left until the next renewal has ended; a stop has time before the kill,
-- and the kill has time.
pub record Fits (expire renewal : ℕ) (m : Margins) : Type 0 where
  pub renewed : m.margin + SLACK + renewal ≤ expire
  pub stop : m.kill < m.margin
  pub kill : LEAST_KILL ≤ m.kill

-- the first of these that does not hold
abbrev pub HasFault : ℕ → ℕ → Margins → MarginFault → Type 0
HasFault expire renewal m MarginTooLong = expire < m.margin + SLACK + renewal
HasFault expire renewal m KillTooLong = (m.margin + SLACK + renewal ≤ expire) × (m.margin ≤ m.kill)
HasFault expire renewal m KillTooShort =
    (m.margin + SLACK + renewal ≤ expire) × (m.kill < m.margin) × (m.kill < LEAST_KILL)
