-- How long a turn waits for an arrival.
use Rattle.std.specs.Prelude.{ℕ, ◌-◌, ◌==◌, ◌&&◌, Bool, true, false, not, nat_lt, is_none, if◌then◌else◌, Option, Some, None}
use Rattle.booth_follow_rule.specs.declared.margins.Margins.{Margins}
use Rattle.booth_follow_rule.specs.declared.news.News.{News}
use Rattle.booth_follow_rule.specs.declared.news.News.TheVariants as news
use Rattle.booth_follow_rule.specs.declared.state.FollowDeed.{FollowDeed}
use Rattle.booth_follow_rule.specs.declared.state.FollowDeed.TheVariants as deeds
use Rattle.booth_follow_rule.specs.declared.state.Stage.{Stage}
use Rattle.booth_follow_rule.specs.declared.state.Stage.TheVariants.{Down, Up}
use Rattle.booth_follow_rule.specs.declared.state.State.{State}
use Rattle.booth_follow_rule.specs.declared.state.Word.TheVariants.{Renew}
use Rattle.booth_following.specs.declared.following.Following.{Following}
use Rattle.booth_following.specs.declared.following.Seat.{Seat}

-- the run with this number has ended
abbrev pub is_ended_by : ℕ → News → Bool
is_ended_by number (news.End run how) = run == number
is_ended_by number heard = false

-- Whether the last run that was not a renewal may still be running after an action. `number` is its number before.
abbrev pub running_after : Bool → ℕ → News → FollowDeed → Bool
running_after running number heard (deeds.Run Renew next until) = running && not (is_ended_by number heard)
running_after running number heard (deeds.Run word next until) = true
running_after running number heard deed = running && not (is_ended_by number heard)

-- more than two seconds are left until the margin before an end begins
abbrev pub is_far : ℕ → ℕ → ℕ → Bool
is_far margin reading end = nat_lt 2000 ((end - reading) - margin)

-- The rule does nothing for two seconds unless it hears something: the service is stopped and this site does not hold
-- the ticket, or the service runs, no renewal is under way, and the margin begins later.
abbrev pub is_idle_at : Margins → ℕ → State → Stage → Bool
is_idle_at m reading s (Down since) = not s.here
is_idle_at m reading s Up =
    s.here && (is_none s.renewal && (is_far m.margin reading s.until && is_far m.margin reading s.armed))
is_idle_at m reading s stage = false

abbrev pub is_idle : Margins → ℕ → State → Bool
is_idle m reading s = is_idle_at m reading s s.stage

-- the time until the next request, which is at most a second
abbrev pub until_due : Option ℕ → ℕ → ℕ
until_due (Some asked) reading = 1000 - (reading - asked)
until_due None reading = 100

-- How long a turn from this seat waits. It waits until the next request if the last one was answered, no run is under
-- way, and the rule does nothing before. Otherwise it waits for a tenth of a second.
abbrev pub wait_of : Following → Seat → ℕ
wait_of f seat =
    if seat.told && (not seat.running && is_idle f.margins seat.reading seat.follower.state)
    then until_due seat.asked seat.reading else 100
