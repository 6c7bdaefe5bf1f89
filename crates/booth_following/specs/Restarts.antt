-- A service that is restarted if its lease has another term than at its start.
use Rattle.std.specs.Prelude.{ℕ, ◌==◌, ◌&&◌, Bool, true, false, not, if◌then◌else◌}
use Rattle.booth_follow_rule.specs.declared.news.News.{News}
use Rattle.booth_follow_rule.specs.declared.news.News.TheVariants as news
use Rattle.booth_follow_rule.specs.declared.news.Shown.TheVariants.{Elsewhere}
use Rattle.booth_follow_rule.specs.declared.state.FollowDeed.{FollowDeed}
use Rattle.booth_follow_rule.specs.declared.state.FollowDeed.TheVariants as deeds
use Rattle.booth_follow_rule.specs.declared.state.Stage.{Stage}
use Rattle.booth_follow_rule.specs.declared.state.Stage.TheVariants.{Up}
use Rattle.booth_follow_rule.specs.declared.state.Word.TheVariants.{Start}
use Rattle.booth_following.specs.declared.following.Following.{Following}
use Rattle.booth_following.specs.declared.following.Seat.{Seat}

-- the service was started or taken over, and it is not being stopped
abbrev pub is_up : Stage → Bool
is_up Up = true
is_up stage = false

-- the lease has another term than at the start; 0 is no term
abbrev pub is_another : ℕ → ℕ → Bool
is_another started term = not (term == 0) && not (term == started)

-- The service runs with another term than this one, which its lease has now, and it is restarted for that.
abbrev pub is_outdated : Following → Seat → ℕ → Bool
is_outdated f seat term = f.restarts && (is_up seat.follower.state.stage && is_another seat.started term)

-- What the rule learns of what is said: about an outdated service, that this site does not hold the ticket. So the
-- rule stops it. While it stops it is not outdated, and the rule learns what is said. So it then starts it again.
abbrev pub learnt : Bool → News → News
learnt outdated (news.List shown) = if outdated then news.List Elsewhere else news.List shown
learnt outdated said = said

-- the term at the last start of the service, after an action
abbrev pub started_after : ℕ → ℕ → FollowDeed → ℕ
started_after started term (deeds.Run Start number until) = term
started_after started term deed = started
