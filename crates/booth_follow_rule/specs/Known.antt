-- What is known after some moments and the actions that followed them, by whatever rule: it contains no stage.
use Rattle.std.specs.Prelude.{ℕ, Bool, true, false, ◌==◌, max, List, [], ◌∷◌, Option, Some, None, if◌then◌else◌}
use Rattle.booth_follow_rule.specs.declared.margins.Margins.{Margins}
use Rattle.booth_follow_rule.specs.declared.news.News.{News}
use Rattle.booth_follow_rule.specs.declared.news.News.TheVariants as news
use Rattle.booth_follow_rule.specs.declared.news.RunEnd.TheVariants.{Done, Failed}
use Rattle.booth_follow_rule.specs.declared.news.Shown.TheVariants.{Here, Elsewhere}
use Rattle.booth_follow_rule.specs.declared.state.FollowDeed.{FollowDeed}
use Rattle.booth_follow_rule.specs.declared.state.FollowDeed.TheVariants as deeds
use Rattle.booth_follow_rule.specs.declared.state.Renewal.{Renewal}
use Rattle.booth_follow_rule.specs.declared.state.State.{State}
use Rattle.booth_follow_rule.specs.declared.state.Word.{Word}
use Rattle.booth_follow_rule.specs.declared.state.Word.TheVariants.{Check, Renew, Start, Stop, Kill}
use Rattle.booth_follow_rule.specs.Rule.{Moment, follow_step, opening, state_after}

-- a moment, and the action that followed it
pub record Row : Type 0 where
  pub at : Moment
  pub deed : FollowDeed

-- The service was started or taken over, and no stop or kill has succeeded since; or one has, and no start was made
-- since.
pub data Service : Type 0 where
  Unknown : Service
  Started : Service
  Over : Service

-- What the last list since the service ended shows, with the end in the last list that named this site; the armed
-- end, which is that of the last renewal that succeeded, or 0 if the service ended since, and the latest of those;
-- the last renewal that has not succeeded, and whether it failed; whether the follower was asked to end; the last
-- word for which the program was run except renewals, and the number of that run; the number of the last run; the
-- service, and the reading at which it ended; the reading of the first of the last kills; the last reading; whether
-- the follower has left.
pub record Known : Type 0 where
  pub here : Bool
  pub end : ℕ
  pub armed : ℕ
  pub latest : ℕ
  pub renewal : Option Renewal
  pub asked : Bool
  pub last : Option Word
  pub run : ℕ
  pub number : ℕ
  pub service : Service
  pub over_at : ℕ
  pub killed_at : ℕ
  pub seen : ℕ
  pub left : Bool

-- What is known at first. An end that an earlier follower left counts as received and armed.
abbrev pub nothing_known : Known
nothing_known = record {
  here = false;
  end = 0;
  armed = 0;
  latest = 0;
  renewal = None;
  asked = false;
  last = None;
  run = 0;
  number = 0;
  service = Unknown;
  over_at = 0;
  killed_at = 0;
  seen = 0;
  left = false;
}

abbrev pub known_first : Option ℕ → Known
known_first None = nothing_known
known_first (Some end) = record nothing_known { here = true; end = end; armed = end; latest = end }

-- ---- the effect of news

-- a renewal succeeded: its end is armed
abbrev pub told_armed : Known → ℕ → Option Renewal → Known
told_armed k run (Some r) =
    if run == r.run then record k { armed = r.end; latest = max k.latest r.end; renewal = None } else k
told_armed k run None = k

-- the service has ended
abbrev pub told_over : Known → ℕ → Known
told_over k reading = record k { here = false; armed = 0; renewal = None; service = Over; over_at = reading }

-- a renewal failed
abbrev pub told_failed : Known → ℕ → Option Renewal → Known
told_failed k run (Some r) = if run == r.run then record k { renewal = Some (record r { failed = true }) } else k
told_failed k run None = k

-- the last run succeeded: if it was a stop or a kill, the service has ended
abbrev pub told_done : Known → ℕ → Service → Option Word → Known
told_done k reading Over last = k
told_done k reading service (Some Stop) = told_over k reading
told_done k reading service (Some Kill) = told_over k reading
told_done k reading service last = k

-- a run succeeded, and `told_armed` has already noted its renewal
abbrev pub told_ended : Known → ℕ → ℕ → Known
told_ended k reading run = if run == k.run then told_done k reading k.service k.last else k

abbrev pub told : Known → ℕ → News → Known
told k reading (news.List (Here until)) = record k { here = true; end = until }
told k reading (news.List Elsewhere) = record k { here = false }
told k reading (news.End run Done) = told_ended (told_armed k run k.renewal) reading run
told k reading (news.End run Failed) = told_failed k run k.renewal
told k reading news.Stop = record k { asked = true }
told k reading news.Nothing = k

-- ---- the effect of actions

-- a kill after a kill that did not help belongs to the same kills
abbrev pub killed_from : Option Word → ℕ → ℕ → ℕ
killed_from (Some Kill) before reading = before
killed_from last before reading = reading

abbrev pub done_at : Known → ℕ → FollowDeed → Known
done_at k reading (deeds.Run Check number until) =
    record k { last = Some Check; run = number; number = number; service = Started; seen = reading }
done_at k reading (deeds.Run Renew number until) = record k {
  renewal = Some (record { run = number; end = until; since = reading; failed = false });
  number = number;
  seen = reading;
}
done_at k reading (deeds.Run Start number until) =
    record k { last = Some Start; run = number; number = number; service = Started; seen = reading }
done_at k reading (deeds.Run Stop number until) =
    record k { last = Some Stop; run = number; number = number; seen = reading }
done_at k reading (deeds.Run Kill number until) = record k {
  last = Some Kill;
  run = number;
  number = number;
  killed_at = killed_from k.last k.killed_at reading;
  seen = reading;
}
done_at k reading deeds.Leave = record k { left = true; seen = reading }
done_at k reading deeds.Nothing = record k { seen = reading }

-- ---- rows

-- what is known at a row before its action, and after it
abbrev pub known_at : Known → Row → Known
known_at k row = told k row.at.reading row.at.heard

abbrev pub known_after : Known → Row → Known
known_after k row = done_at (known_at k row) row.at.reading row.deed

-- P holds of each row, with what is known before it
abbrev pub AllRows : (Known → Row → Type 0) → Known → List Row → Type 0
AllRows P k [] = Unit {0}
AllRows P k (row ∷ rows) = P k row × AllRows P (known_after k row) rows

-- the rows of a follower in this state
unfoldable pub rows_from : Margins → State → List Moment → List Row
rows_from m s [] = []
rows_from m s (p ∷ ps) = record { at = p; deed = (follow_step m s p).deed } ∷ rows_from m (state_after m s p) ps

-- all rows of a follower whose predecessor left this end
abbrev pub rows_of : Margins → Option ℕ → List Moment → List Row
rows_of m left moments = rows_from m (opening left) moments
