-- The rule: the action after a moment, and the actions after a list of moments.
use Rattle.std.specs.Prelude.{ℕ, Bool, true, false, not, ◌+◌, ◌%◌, ◌^◌, ◌-◌, min, ◌&&◌, ◌||◌, ◌==◌, nat_le, nat_lt, List, [], ◌∷◌, Option, Some, None, if◌then◌else◌}
use Rattle.booth_follow_rule.specs.declared.margins.Margins.{Margins}
use Rattle.booth_follow_rule.specs.declared.margins.TheConstants.{RETRY, RISE}
use Rattle.booth_follow_rule.specs.declared.news.News.{News}
use Rattle.booth_follow_rule.specs.declared.news.News.TheVariants as news
use Rattle.booth_follow_rule.specs.declared.news.RunEnd.{RunEnd}
use Rattle.booth_follow_rule.specs.declared.news.RunEnd.TheVariants.{Done, Failed}
use Rattle.booth_follow_rule.specs.declared.news.Shown.TheVariants.{Here, Elsewhere}
use Rattle.booth_follow_rule.specs.declared.state.FollowDeed.{FollowDeed}
use Rattle.booth_follow_rule.specs.declared.state.FollowDeed.TheVariants as deeds
use Rattle.booth_follow_rule.specs.declared.state.Renewal.{Renewal}
use Rattle.booth_follow_rule.specs.declared.state.Stage.{Stage}
use Rattle.booth_follow_rule.specs.declared.state.Stage.TheVariants.{Opening, Down, Up, Stopping, Killing, Ended}
use Rattle.booth_follow_rule.specs.declared.state.State.{State}
use Rattle.booth_follow_rule.specs.declared.state.Word.{Word}
use Rattle.booth_follow_rule.specs.declared.state.Word.TheVariants.{Check, Renew, Start, Stop, Kill}
use Rattle.booth_follow_rule.specs.declared.steps.Step.{Step}

-- a reading, and the news before it
pub record Moment : Type 0 where
  pub reading : ℕ
  pub heard : News

-- ---- news

-- a newly armed end moves the reading by which a service must have stopped
abbrev pub moved : Stage → ℕ → Stage
moved (Stopping by) end = Stopping end
moved stage end = stage

-- from now on the service may run until this end
abbrev pub arms : State → ℕ → State
arms s end = record s { armed = end; renewal = None; stage = moved s.stage end }

-- the run with this number ended with status 0: if it was the renewal's, its end is armed
abbrev pub renewed : State → ℕ → Option Renewal → State
renewed s run (Some r) = if run == r.run then arms s r.end else s
renewed s run None = s

-- the run with this number failed: if it was the renewal's, the next one may come sooner
abbrev pub not_renewed : State → ℕ → Option Renewal → State
not_renewed s run (Some r) = if run == r.run then record s { renewal = Some (record r { failed = true }) } else s
not_renewed s run None = s

abbrev pub hears : State → News → State
hears s (news.List (Here until)) = record s { here = true; until = until }
hears s (news.List Elsewhere) = record s { here = false }
hears s news.Stop = record s { asked = true }
hears s news.Nothing = s
hears s (news.End run Done) = renewed s run s.renewal
hears s (news.End run Failed) = not_renewed s run s.renewal

-- how the run with this number ended, if it did
abbrev pub end_of : ℕ → News → Option RunEnd
end_of number (news.End run how) = if run == number then Some how else None
end_of number heard = None

-- ---- actions

abbrev pub no_deed : State → Stage → Step
no_deed s stage = record { deed = deeds.Nothing; state = record s { stage = stage } }

abbrev pub leaves : State → Step
leaves s = record { deed = deeds.Leave; state = record s { stage = Ended } }

-- the number after this one, which is 0 after the last
abbrev pub next_number : ℕ → ℕ
next_number number = (number + 1) % 2 ^ 64

-- the program is run for this word, with the armed end
abbrev pub runs : State → Word → Stage → Step
runs s word stage = record {
  deed = deeds.Run word (next_number s.number) s.armed;
  state = record s { number = next_number s.number; run = next_number s.number; stage = stage };
}

-- the program is run for a renewal, with the end in the last list
abbrev pub renews : ℕ → State → Step
renews reading s = record {
  deed = deeds.Run Renew (next_number s.number) s.until;
  state = record s {
    number = next_number s.number;
    renewal = Some (record { run = next_number s.number; end = s.until; since = reading; failed = false });
  };
}

-- The service has been stopped since this reading. Earlier news allow no start, and no end is armed.
abbrev pub rests : ℕ → State → Step
rests reading s = record {
  deed = deeds.Nothing;
  state = record s { here = false; armed = 0; renewal = None; stage = Down reading };
}

-- at a reading, an end is more than this time away
abbrev pub leaves_more : ℕ → ℕ → ℕ → Bool
leaves_more time reading end = nat_lt (reading + time) end

-- this much time after a reading
abbrev pub after : ℕ → ℕ → ℕ
after reading time = min (reading + time) (2 ^ 64 - 1)

-- The service must have stopped the time of a kill before the armed end. If that time has come, it is killed.
abbrev pub ends_service : Margins → ℕ → State → Step
ends_service m reading s =
    if leaves_more m.kill reading s.armed then runs s Stop (Stopping s.armed) else runs s Kill (Killing None)

-- this site holds the ticket for longer than the margin
abbrev pub is_held : Margins → ℕ → State → Bool
is_held m reading s = s.here && leaves_more m.margin reading s.until

-- and the service may run for longer than the margin
abbrev pub is_kept : Margins → ℕ → State → Bool
is_kept m reading s = is_held m reading s && leaves_more m.margin reading s.armed

-- this much time has passed since a reading
abbrev pub has_passed : ℕ → ℕ → ℕ → Bool
has_passed time since reading = nat_le (since + time) reading

-- a pause has passed since a reading
abbrev pub is_rested : Margins → ℕ → ℕ → Bool
is_rested m since reading = has_passed m.pause since reading

-- how long after a renewal was run the next one may be run: a pause, and less if it failed
abbrev pub wait_of : Margins → Renewal → ℕ
wait_of m r = if r.failed then RETRY else m.pause

-- a renewal may be run if none is running or failed, or if the last one was run long enough ago
abbrev pub may_renew : Margins → ℕ → Option Renewal → Bool
may_renew m reading None = true
may_renew m reading (Some r) = has_passed (wait_of m r) r.since reading

-- a list that names this site has an end that is more than a quarter of a second after the armed one, and a renewal may
-- be run
abbrev pub is_renewable : Margins → ℕ → State → Bool
is_renewable m reading s = s.here && (leaves_more RISE s.armed s.until && may_renew m reading s.renewal)

-- if no other action is due, a renewal is
abbrev pub goes_on : Margins → ℕ → State → Step
goes_on m reading s = if is_renewable m reading s then renews reading s else no_deed s s.stage

-- ---- the stages

-- A service that an earlier follower left without an end is stopped, and this stop has as much time as a stop before an
-- end.
abbrev pub stops_first : Margins → ℕ → State → Step
stops_first m reading s =
    if s.armed == 0 then runs s Stop (Stopping (after reading m.margin)) else ends_service m reading s

-- A service that an earlier follower left with an end continues, if it runs.
abbrev pub opens : Margins → ℕ → State → Step
opens m reading s =
    if s.asked || not (is_kept m reading s) then stops_first m reading s else runs s Check Up

-- a start follows a renewal
abbrev pub starts : Margins → ℕ → State → Step
starts m reading s = if leaves_more m.margin reading s.armed then runs s Start Up else goes_on m reading s

abbrev pub while_down : Margins → ℕ → ℕ → State → Step
while_down m reading since s =
    if s.asked then leaves s
    else (if is_held m reading s && is_rested m since reading then starts m reading s else no_deed s s.stage)

-- the run for the service ended in a way that shows that it does not run
abbrev pub has_failed : Option RunEnd → Bool
has_failed (Some Failed) = true
has_failed how = false

abbrev pub while_up : Margins → ℕ → Option RunEnd → State → Step
while_up m reading how s =
    if s.asked || (has_failed how || not (is_kept m reading s)) then ends_service m reading s else goes_on m reading s

abbrev pub while_stopping : Margins → ℕ → Option RunEnd → ℕ → State → Step
while_stopping m reading (Some Done) by s = rests reading s
while_stopping m reading (Some Failed) by s = runs s Kill (Killing None)
while_stopping m reading None by s =
    if leaves_more m.kill reading by then goes_on m reading s else runs s Kill (Killing None)

abbrev pub kills_on : Margins → ℕ → Option ℕ → State → Step
kills_on m reading None s = no_deed s s.stage
kills_on m reading (Some since) s =
    if is_rested m since reading then runs s Kill (Killing None) else no_deed s s.stage

abbrev pub while_killing : Margins → ℕ → Option RunEnd → Option ℕ → State → Step
while_killing m reading (Some Done) failed s = rests reading s
while_killing m reading (Some Failed) failed s = no_deed s (Killing (Some reading))
while_killing m reading None failed s = kills_on m reading failed s

-- The action at a reading, by the stage, after the news before it.
abbrev pub step_at : Margins → ℕ → Option RunEnd → State → Stage → Step
step_at m reading how s Opening = opens m reading s
step_at m reading how s (Down since) = while_down m reading since s
step_at m reading how s Up = while_up m reading how s
step_at m reading how s (Stopping by) = while_stopping m reading how by s
step_at m reading how s (Killing failed) = while_killing m reading how failed s
step_at m reading how s Ended = no_deed s s.stage

-- ---- one moment and all

abbrev pub follow_step : Margins → State → Moment → Step
follow_step m s p = step_at m p.reading (end_of s.run p.heard) (hears s p.heard) (hears s p.heard).stage

abbrev pub state_after : Margins → State → Moment → State
state_after m s p = (follow_step m s p).state

-- A follower before any news. If an earlier one left the service running until an end, it keeps to that end.
abbrev pub opening : Option ℕ → State
opening None = record {
  here = false;
  until = 0;
  armed = 0;
  renewal = None;
  asked = false;
  number = 0;
  run = 0;
  stage = Opening;
}
opening (Some end) = record {
  here = true;
  until = end;
  armed = end;
  renewal = None;
  asked = false;
  number = 0;
  run = 0;
  stage = Opening;
}

-- the actions to which these moments lead, one for each
unfoldable pub deeds_from : Margins → State → List Moment → List FollowDeed
deeds_from m s [] = []
deeds_from m s (p ∷ ps) = (follow_step m s p).deed ∷ deeds_from m (state_after m s p) ps

abbrev pub follow_deeds : Margins → Option ℕ → List Moment → List FollowDeed
follow_deeds m left moments = deeds_from m (opening left) moments
