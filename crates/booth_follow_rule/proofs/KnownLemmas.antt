-- A follower's deeds are let by what is known.
use Rattle.std.proofs.Common.{◌≡◌, ◌≢◌, ◌<◌, ◌≤◌, ◌+◌, ◌⊎◌, ℕ, Bool, true, false, not, ◌&&◌, ◌||◌, ◌==◌, cond, max, map, List, [], ◌∷◌, Option, Some, None, refl, sym, ap, subst, inl, inr}
use Rattle.std.proofs.lemmas.Bool.{cond_both, and_parts}
use Rattle.booth_follow_rule.specs.declared.margins.Margins.{Margins}
use Rattle.booth_follow_rule.specs.declared.news.News.{News}
use Rattle.booth_follow_rule.specs.declared.news.News.TheVariants as news
use Rattle.booth_follow_rule.specs.declared.news.RunEnd.{RunEnd}
use Rattle.booth_follow_rule.specs.declared.news.RunEnd.TheVariants.{Done, Failed}
use Rattle.booth_follow_rule.specs.declared.news.Shown.TheVariants.{Here, Elsewhere}
use Rattle.booth_follow_rule.specs.declared.state.FollowDeed.{FollowDeed}
use Rattle.booth_follow_rule.specs.declared.state.Renewal.{Renewal}
use Rattle.booth_follow_rule.specs.declared.state.Stage.{Stage}
use Rattle.booth_follow_rule.specs.declared.state.Stage.TheVariants.{Opening, Down, Up, Stopping, Killing, Ended}
use Rattle.booth_follow_rule.specs.declared.state.State.{State}
use Rattle.booth_follow_rule.specs.declared.state.Word.TheVariants.{Check, Start, Stop, Kill}
use Rattle.booth_follow_rule.specs.declared.steps.Step.{Step}
use Rattle.booth_follow_rule.specs.Known.{AllRows, Known, Row, Service, Unknown, Started, Over, done_at, known_first, rows_from, told, told_armed, told_done, told_ended, told_failed}
use Rattle.booth_follow_rule.specs.Laws.{DeedsAreLet, GoesOn, IsAwaited, IsDue, IsLet, IsQuietLet, IsRenewable, IsRenewedBeside, IsRowLet, IsStopLet}
use Rattle.booth_follow_rule.specs.Rule.{Moment, arms, deeds_from, end_of, ends_service, follow_step, goes_on, has_failed, hears, is_held, is_kept, is_renewable, is_rested, leaves, leaves_more, no_deed, not_renewed, opening, renewed, renews, rests, runs, starts, state_after, step_at, stops_first}
use Rattle.booth_follow_rule.proofs.StateLemmas.{Extra, IsSound, IsSoundAt, begun, begun_by, clash, due, due_first, failed_is, held, is_zero, kept, known_as, last_of, left_of, less, no_more, no_zero, not_due, not_due_first, not_failed, not_kept, not_less, not_renewable, renewable, service_of, test_both, test_held, test_no_more}

-- ---- one step

-- the step is let, and leads to what is known of where the follower then stands
abbrev Goes : Margins → ℕ → Option RunEnd → Service → Known → Step → Type 0
Goes m reading how was now step =
    IsLet m reading how was now step.deed
    × ((e : Extra) × (done_at now reading step.deed ≡ known_as step.state e) × IsSound step.state e)

abbrev with_stage : State → Stage → State
with_stage s stage = record s { stage = stage }

abbrev with_started : Extra → Bool → Extra
with_started e started = record e { started = started }

-- the step from a stage at which this is known
abbrev GoesAt : Margins → ℕ → Option RunEnd → State → Extra → Stage → Type 0
GoesAt m reading how s e stage =
    Goes m reading how (service_of stage e.started) (known_as (with_stage s stage) e)
    (step_at m reading how (with_stage s stage) stage)

-- no deed but a renewal, where one is due
on_goes : (m : Margins) (reading : ℕ) (how : Option RunEnd) (was : Service) (s : State) (e : Extra) → IsSound s e → left_of s.stage ≡ false →
    IsRenewedBeside m reading how (known_as s e) (service_of s.stage e.started) (last_of s.stage e.killed e.checked) →
    ((IsRenewable m reading (known_as s e) → ⊥)
    → IsQuietLet m reading how was (known_as s e) (left_of s.stage) (service_of s.stage e.started) (last_of s.stage e.killed e.checked)) →
    Goes m reading how was (known_as s e) (goes_on m reading s)
on_goes m reading how was s e sound here beside quiet =
    cond_both (is_renewable m reading s) (renews reading s) (no_deed s s.stage) (λ (step : Step). Goes m reading how was (known_as s e) step)
    (λ test. ((here, refl, refl, (renewable m reading s e test, beside)), (record e { seen = reading }, refl, sound)))
    (λ test. (quiet (not_renewable m reading s e test), (record e { seen = reading }, refl, sound)))

-- ---- at first

first_due : (m : Margins) (reading : ℕ) (how : Option RunEnd) (s : State) (e : Extra) → (s.asked || not (is_kept m reading s)) ≡ true →
    IsDue m reading how (known_as s e)
first_due m reading how s e test = by_due (due_first s.asked (is_kept m reading s) test)
  where
    by_due : (s.asked ≡ true) ⊎ (is_kept m reading s ≡ false) → IsDue m reading how (known_as s e)
    by_due (inl asked) = inl asked
    by_due (inr not) = inr (inr (not_kept m reading s e not))

opening_goes : (m : Margins) (reading : ℕ) (how : Option RunEnd) (s : State) (e : Extra) → GoesAt m reading how s e Opening
opening_goes m reading how s e =
    let h : State = with_stage s Opening in
    let now : Known = known_as h e in
    cond_both (s.asked || not (is_kept m reading h)) (stops_first m reading h) (runs h Check Up) (λ (step : Step). Goes m reading how Unknown now step)
    (λ test. cond_both (s.armed == 0) (runs h Stop (Stopping _)) (ends_service m reading h) (λ (step : Step). Goes m reading how Unknown now step)
    (λ none. ((refl, refl, refl, (λ is. cc, inl (is_zero s.armed none))), (record e { seen = reading; started = false }, refl, λ is. absurd cc)))
    (λ some. cond_both (leaves_more m.kill reading s.armed) (runs h Stop (Stopping s.armed)) (runs h Kill (Killing None)) (λ (step : Step). Goes m reading how Unknown now step)
    (λ time. (
      (refl, refl, refl, (λ is. cc, inr (first_due m reading how h e test, less (reading + m.kill) s.armed time))),
      (record e { seen = reading; started = false }, refl, λ is. refl),
    ))
    (λ time. (
      (refl, refl, refl, (λ is. cc, (no_zero s.armed some, (first_due m reading how h e test, not_less (reading + m.kill) s.armed time)))),
      (record e { killed_at = reading; seen = reading; started = false }, refl, tt),
    ))))
    (λ test. let is = not_due_first s.asked (is_kept m reading h) test in (
      (refl, refl, refl, record { first = refl; not_asked = is.0; kept = kept m reading h e is.1 }),
      (record e { seen = reading; checked = true }, refl, tt),
    ))

-- ---- while it is stopped

down_goes : (m : Margins) (reading : ℕ) (how : Option RunEnd) (s : State) (e : Extra) (since : ℕ) → GoesAt m reading how s e (Down since)
down_goes m reading how s e since =
    let h : State = with_stage s (Down since) in
    let now : Known = known_as h e in
    cond_both s.asked (leaves h) _ (λ (step : Step). Goes m reading how Over now step)
    (λ asked. ((refl, refl, asked), (record e { over_at = since; seen = reading }, refl, tt)))
    (λ not_asked. cond_both (is_held m reading h && is_rested m since reading) (starts m reading h) (no_deed h (Down since)) (λ (step : Step). Goes m reading how Over now step)
    (λ test. let both = and_parts (is_held m reading h) (is_rested m since reading) test in
    let awaited : IsAwaited m reading now = record { not_asked = not_asked; rested = no_more (since + m.pause) reading both.1; held = held m reading h e both.0 } in
    cond_both (leaves_more m.margin reading s.armed) (runs h Start Up) (goes_on m reading h) (λ (step : Step). Goes m reading how Over now step)
    (λ armed. (
      (refl, refl, refl, record { over = refl; awaited = awaited; armed = less (reading + m.margin) s.armed armed }),
      (record e { over_at = since; seen = reading; checked = false }, refl, tt),
    ))
    (λ unarmed. let late = not_less (reading + m.margin) s.armed unarmed in
    on_goes m reading how Over h e tt refl (awaited, late) (λ none over. (not_asked, λ is. (late, none)))))
    (λ test. (
      λ over. (
        not_asked,
        λ is. absurd (clash (is_held m reading h && is_rested m since reading) test
            (test_both (is_held m reading h) (is_rested m since reading) (test_held m reading h e is.held) (test_no_more (since + m.pause) reading is.rested))),
      ),
      (record e { seen = reading }, refl, tt),
    )))

-- ---- while it runs

up_due : (m : Margins) (reading : ℕ) (how : Option RunEnd) (s : State) (e : Extra) → (s.asked || (has_failed how || not (is_kept m reading s))) ≡ true →
    IsDue m reading how (known_as s e)
up_due m reading how s e test = by_due (due s.asked (has_failed how) (is_kept m reading s) test)
  where
    by_due : (s.asked ≡ true) ⊎ ((has_failed how ≡ true) ⊎ (is_kept m reading s ≡ false)) → IsDue m reading how (known_as s e)
    by_due (inl asked) = inl asked
    by_due (inr (inl failed)) = inr (inl (failed_is how failed))
    by_due (inr (inr not)) = inr (inr (not_kept m reading s e not))

-- a service that was started or taken over: its stop, its kill, a renewal, and nothing
stop_of : (m : Margins) (reading : ℕ) (how : Option RunEnd) (now : Known) (checked : Bool) → IsDue m reading how now × (reading + m.kill < now.armed) →
    IsStopLet m reading how now (begun_by checked)
stop_of m reading how now true h = h
stop_of m reading how now false h = h

abbrev with_checked : Extra → Bool → Extra
with_checked e checked = record e { checked = checked }

up_killed : (m : Margins) (reading : ℕ) (how : Option RunEnd) (s : State) (e : Extra) (checked : Bool) →
    (IsDue m reading how (known_as (with_stage s Up) (with_checked e checked)) × (s.armed ≤ reading + m.kill)) →
    Goes m reading how Started (known_as (with_stage s Up) (with_checked e checked)) (runs (with_stage s Up) Kill (Killing None))
up_killed m reading how s e true why =
    ((refl, refl, refl, (λ over. cc, why)), (record e { killed_at = reading; seen = reading; checked = true; started = true }, refl, tt))
up_killed m reading how s e false why =
    ((refl, refl, refl, (λ over. cc, why)), (record e { killed_at = reading; seen = reading; checked = false; started = true }, refl, tt))

renewal_of : (m : Margins) (reading : ℕ) (how : Option RunEnd) (now : Known) (checked : Bool) → GoesOn m reading how now →
    IsRenewedBeside m reading how now Started (begun_by checked)
renewal_of m reading how now true h = h
renewal_of m reading how now false h = h

quiet_of : (m : Margins) (reading : ℕ) (how : Option RunEnd) (was : Service) (now : Known) (checked : Bool) → GoesOn m reading how now →
    (IsRenewable m reading now → ⊥) → IsQuietLet m reading how was now false Started (begun_by checked)
quiet_of m reading how was now true h none = (h, none)
quiet_of m reading how was now false h none = (h, none)

up_goes : (m : Margins) (reading : ℕ) (how : Option RunEnd) (s : State) (e : Extra) → GoesAt m reading how s e Up
up_goes m reading how s e =
    let h : State = with_stage s Up in
    let now : Known = known_as h e in
    cond_both (s.asked || (has_failed how || not (is_kept m reading h))) (ends_service m reading h) (goes_on m reading h) (λ (step : Step). Goes m reading how Started now step)
    (λ test. cond_both (leaves_more m.kill reading s.armed) (runs h Stop (Stopping s.armed)) (runs h Kill (Killing None)) (λ (step : Step). Goes m reading how Started now step)
    (λ time. (
      (refl, refl, refl, (λ over. cc, stop_of m reading how now e.checked (up_due m reading how h e test, less (reading + m.kill) s.armed time))),
      (record e { seen = reading; started = true }, refl, λ started. refl),
    ))
    (λ time. up_killed m reading how s e e.checked (up_due m reading how h e test, not_less (reading + m.kill) s.armed time)))
    (λ test. let is = not_due s.asked (has_failed how) (is_kept m reading h) test in
    let goes : GoesOn m reading how now = record { not_asked = is.0; not_failed = not_failed how is.1; kept = kept m reading h e is.2 } in
    on_goes m reading how Started h e tt refl (renewal_of m reading how now e.checked goes) (quiet_of m reading how Started now e.checked goes))

-- what started it, or whether it runs, was done
up_done : (m : Margins) (reading : ℕ) (s : State) (e : Extra) (checked : Bool) →
    Goes m reading (Some Done) Started (told_done (known_as (with_stage s Up) (with_checked e checked)) reading Started (begun_by checked))
    (step_at m reading (Some Done) (with_stage s Up) Up)
up_done m reading s e true = up_goes m reading (Some Done) s (with_checked e true)
up_done m reading s e false = up_goes m reading (Some Done) s (with_checked e false)

begun_not_over : (started : Bool) → begun started ≢ Over
begun_not_over true = λ h. cc
begun_not_over false = λ h. cc

-- ---- while it stops

-- a kill of a service whose stop is awaited
stop_killed : (m : Margins) (reading : ℕ) (how : Option RunEnd) (s : State) (e : Extra) (by : ℕ) →
    ((how ≡ Some Failed) ⊎ ((begun e.started ≡ Unknown) ⊎ (s.armed ≤ reading + m.kill))) →
    Goes m reading how (begun e.started) (known_as (with_stage s (Stopping by)) e) (runs (with_stage s (Stopping by)) Kill (Killing None))
stop_killed m reading how s e by why =
    ((refl, refl, refl, (begun_not_over e.started, why)), (record e { killed_at = reading; seen = reading }, refl, tt))

-- a service whose stop is awaited, and there is time
stop_awaited : (m : Margins) (reading : ℕ) (s : State) (e : Extra) (by : ℕ) (started : Bool) → (started ≡ true → by ≡ s.armed) → reading + m.kill < by →
    Goes m reading None (begun started) (known_as (with_stage s (Stopping by)) (with_started e started)) (goes_on m reading (with_stage s (Stopping by)))
stop_awaited m reading s e by true sound time =
    let left : reading + m.kill < s.armed = subst (λ (n : ℕ). reading + m.kill < n) (sound refl) time in
    on_goes m reading None Started (with_stage s (Stopping by)) (with_started e true) sound refl (λ is. left) (λ none. (λ is. left, none))
stop_awaited m reading s e by false sound time =
    on_goes m reading None Unknown (with_stage s (Stopping by)) (with_started e false) sound refl (λ is. absurd cc) (λ none. (λ is. absurd cc, none))

stop_late : (m : Margins) (reading : ℕ) (armed by : ℕ) (started : Bool) → (started ≡ true → by ≡ armed) → by ≤ reading + m.kill →
    (begun started ≡ Unknown) ⊎ (armed ≤ reading + m.kill)
stop_late m reading armed by true sound late = inr (subst (λ (n : ℕ). n ≤ reading + m.kill) (sound refl) late)
stop_late m reading armed by false sound late = inl refl

stopping_goes : (m : Margins) (reading : ℕ) (s : State) (e : Extra) (by : ℕ) → (e.started ≡ true → by ≡ s.armed) → GoesAt m reading None s e (Stopping by)
stopping_goes m reading s e by sound =
    let h : State = with_stage s (Stopping by) in
    cond_both (leaves_more m.kill reading by) (goes_on m reading h) (runs h Kill (Killing None)) (λ (step : Step). Goes m reading None (begun e.started) (known_as h e) step)
    (λ time. stop_awaited m reading s e by e.started sound (less (reading + m.kill) by time))
    (λ time. stop_killed m reading None s e by (inr (stop_late m reading s.armed by e.started sound (not_less (reading + m.kill) by time))))

-- a stop or a kill is done
over_goes : (m : Margins) (reading : ℕ) (s : State) (e : Extra) (by : ℕ) (started : Bool) →
    Goes m reading (Some Done) (begun started) (told_done (known_as (with_stage s (Stopping by)) (with_started e started)) reading (begun started) (Some Stop))
    (rests reading (with_stage s (Stopping by)))
over_goes m reading s e by true = (λ over. absurd cc, (record e { killed = false; seen = reading }, refl, tt))
over_goes m reading s e by false = (λ over. absurd cc, (record e { killed = false; seen = reading }, refl, tt))

killed_goes : (m : Margins) (reading : ℕ) (s : State) (e : Extra) (failed : Option ℕ) (started : Bool) →
    Goes m reading (Some Done) (begun started) (told_done (known_as (with_stage s (Killing failed)) (with_started e started)) reading (begun started) (Some Kill))
    (rests reading (with_stage s (Killing failed)))
killed_goes m reading s e failed true = (λ over. absurd cc, (record e { killed = true; seen = reading }, refl, tt))
killed_goes m reading s e failed false = (λ over. absurd cc, (record e { killed = true; seen = reading }, refl, tt))

-- it is being killed, and nothing is done
kill_awaited : (m : Margins) (reading : ℕ) (how : Option RunEnd) (s : State) (e : Extra) (failed next : Option ℕ) (started : Bool) →
    Goes m reading how (begun started) (known_as (with_stage s (Killing failed)) (with_started e started)) (no_deed (with_stage s (Killing failed)) (Killing next))
kill_awaited m reading how s e failed next true = (tt, (record e { seen = reading; started = true }, refl, tt))
kill_awaited m reading how s e failed next false = (tt, (record e { seen = reading; started = false }, refl, tt))

kill_again : (m : Margins) (reading : ℕ) (s : State) (e : Extra) (failed : Option ℕ) →
    Goes m reading None (begun e.started) (known_as (with_stage s (Killing failed)) e) (runs (with_stage s (Killing failed)) Kill (Killing None))
kill_again m reading s e failed = ((refl, refl, refl, (begun_not_over e.started, tt)), (record e { seen = reading }, refl, tt))

killing_goes : (m : Margins) (reading : ℕ) (s : State) (e : Extra) (failed : Option ℕ) → GoesAt m reading None s e (Killing failed)
killing_goes m reading s e None = kill_awaited m reading None s e None None e.started
killing_goes m reading s e (Some since) =
    let h : State = with_stage s (Killing (Some since)) in
    cond_both (is_rested m since reading) (runs h Kill (Killing None)) (no_deed h (Killing (Some since))) (λ (step : Step). Goes m reading None (begun e.started) (known_as h e) step)
    (λ test. kill_again m reading s e (Some since))
    (λ test. kill_awaited m reading None s e (Some since) (Some since) e.started)

ended_goes : (m : Margins) (reading : ℕ) (how : Option RunEnd) (s : State) (e : Extra) → GoesAt m reading how s e Ended
ended_goes m reading how s e = (tt, (record e { seen = reading }, refl, tt))

-- ---- what came

-- no end of the last run came
none_goes : (m : Margins) (reading : ℕ) (s : State) (e : Extra) (stage : Stage) → IsSoundAt stage s.armed e.started → GoesAt m reading None s e stage
none_goes m reading s e Opening sound = opening_goes m reading None s e
none_goes m reading s e (Down since) sound = down_goes m reading None s e since
none_goes m reading s e Up sound = up_goes m reading None s e
none_goes m reading s e (Stopping by) sound = stopping_goes m reading s e by sound
none_goes m reading s e (Killing failed) sound = killing_goes m reading s e failed
none_goes m reading s e Ended sound = ended_goes m reading None s e

failed_goes : (m : Margins) (reading : ℕ) (s : State) (e : Extra) (stage : Stage) → GoesAt m reading (Some Failed) s e stage
failed_goes m reading s e Opening = opening_goes m reading (Some Failed) s e
failed_goes m reading s e (Down since) = down_goes m reading (Some Failed) s e since
failed_goes m reading s e Up = up_goes m reading (Some Failed) s e
failed_goes m reading s e (Stopping by) = stop_killed m reading (Some Failed) s e by (inl refl)
failed_goes m reading s e (Killing failed) = kill_awaited m reading (Some Failed) s e failed (Some reading) e.started
failed_goes m reading s e Ended = ended_goes m reading (Some Failed) s e

done_goes : (m : Margins) (reading : ℕ) (s : State) (e : Extra) (stage : Stage) →
    Goes m reading (Some Done) (service_of stage e.started)
    (told_done (known_as (with_stage s stage) e) reading (service_of stage e.started) (last_of stage e.killed e.checked))
    (step_at m reading (Some Done) (with_stage s stage) stage)
done_goes m reading s e Opening = opening_goes m reading (Some Done) s e
done_goes m reading s e (Down since) = down_goes m reading (Some Done) s e since
done_goes m reading s e Up = up_done m reading s e e.checked
done_goes m reading s e (Stopping by) = over_goes m reading s e by e.started
done_goes m reading s e (Killing failed) = killed_goes m reading s e failed e.started
done_goes m reading s e Ended = ended_goes m reading (Some Done) s e

-- a run ended with 0, which may be the last but for renewals
run_goes : (m : Margins) (reading : ℕ) (s : State) (e : Extra) (stage : Stage) → IsSoundAt stage s.armed e.started → (test : Bool) →
    Goes m reading (cond test (Some Done) None) (service_of stage e.started)
    (cond test (told_done (known_as (with_stage s stage) e) reading (service_of stage e.started) (last_of stage e.killed e.checked)) (known_as (with_stage s stage) e))
    (step_at m reading (cond test (Some Done) None) (with_stage s stage) stage)
run_goes m reading s e stage sound true = done_goes m reading s e stage
run_goes m reading s e stage sound false = none_goes m reading s e stage sound

abbrev until_armed : State → ℕ → State
until_armed s end = record s { armed = end; renewal = None }

abbrev later : Extra → ℕ → Extra
later e end = record e { latest = max e.latest end }

-- the same run was a renewal's
armed_goes : (m : Margins) (reading : ℕ) (s : State) (e : Extra) (end run : ℕ) (stage : Stage) →
    Goes m reading (cond (run == s.run) (Some Done) None) (service_of stage e.started)
    (told_ended (record (known_as (with_stage s stage) e) { armed = end; latest = max e.latest end; renewal = None }) reading run)
    (step_at m reading (cond (run == s.run) (Some Done) None) (arms (with_stage s stage) end) (arms (with_stage s stage) end).stage)
armed_goes m reading s e end run Opening = run_goes m reading (until_armed s end) (later e end) Opening tt (run == s.run)
armed_goes m reading s e end run (Down since) = run_goes m reading (until_armed s end) (later e end) (Down since) tt (run == s.run)
armed_goes m reading s e end run Up = run_goes m reading (until_armed s end) (later e end) Up tt (run == s.run)
armed_goes m reading s e end run (Stopping by) = run_goes m reading (until_armed s end) (later e end) (Stopping end) (λ started. refl) (run == s.run)
armed_goes m reading s e end run (Killing failed) = run_goes m reading (until_armed s end) (later e end) (Killing failed) tt (run == s.run)
armed_goes m reading s e end run Ended = run_goes m reading (until_armed s end) (later e end) Ended tt (run == s.run)

renewal_goes : (m : Margins) (reading : ℕ) (s : State) (e : Extra) → IsSound s e → (run : ℕ) (r : Option Renewal) →
    Goes m reading (cond (run == s.run) (Some Done) None) (service_of s.stage e.started)
    (told_ended (told_armed (known_as s e) run r) reading run)
    (step_at m reading (cond (run == s.run) (Some Done) None) (renewed s run r) (renewed s run r).stage)
renewal_goes m reading s e sound run None = run_goes m reading s e s.stage sound (run == s.run)
renewal_goes m reading s e sound run (Some r) = by_test (run == r.run)
  where
    by_test : (test : Bool) → Goes m reading (cond (run == s.run) (Some Done) None) (service_of s.stage e.started)
        (told_ended (cond test (record (known_as s e) { armed = r.end; latest = max e.latest r.end; renewal = None }) (known_as s e)) reading run)
        (step_at m reading (cond (run == s.run) (Some Done) None) (cond test (arms s r.end) s) (cond test (arms s r.end) s).stage)
    by_test true = armed_goes m reading s e r.end run s.stage
    by_test false = run_goes m reading s e s.stage sound (run == s.run)

-- a run failed, which may be the last but for renewals
fail_goes : (m : Margins) (reading : ℕ) (s : State) (e : Extra) (stage : Stage) → IsSoundAt stage s.armed e.started → (test : Bool) →
    Goes m reading (cond test (Some Failed) None) (service_of stage e.started) (known_as (with_stage s stage) e)
    (step_at m reading (cond test (Some Failed) None) (with_stage s stage) stage)
fail_goes m reading s e stage sound true = failed_goes m reading s e stage
fail_goes m reading s e stage sound false = none_goes m reading s e stage sound

abbrev until_failed : State → Renewal → State
until_failed s r = record s { renewal = Some (record r { failed = true }) }

-- the same run was a renewal's
unrenewed_goes : (m : Margins) (reading : ℕ) (s : State) (e : Extra) → IsSound s e → (run : ℕ) (r : Option Renewal) →
    Goes m reading (cond (run == s.run) (Some Failed) None) (service_of s.stage e.started) (told_failed (known_as s e) run r)
    (step_at m reading (cond (run == s.run) (Some Failed) None) (not_renewed s run r) (not_renewed s run r).stage)
unrenewed_goes m reading s e sound run None = fail_goes m reading s e s.stage sound (run == s.run)
unrenewed_goes m reading s e sound run (Some r) = by_test (run == r.run)
  where
    by_test : (test : Bool) → Goes m reading (cond (run == s.run) (Some Failed) None) (service_of s.stage e.started)
        (cond test (record (known_as s e) { renewal = Some (record r { failed = true }) }) (known_as s e))
        (step_at m reading (cond (run == s.run) (Some Failed) None) (cond test (until_failed s r) s) (cond test (until_failed s r) s).stage)
    by_test true = fail_goes m reading (until_failed s r) e s.stage sound (run == s.run)
    by_test false = fail_goes m reading s e s.stage sound (run == s.run)

-- what follows a moment
moment_goes : (m : Margins) (reading : ℕ) (s : State) (e : Extra) → IsSound s e → (heard : News) →
    Goes m reading (end_of s.run heard) (service_of s.stage e.started) (told (known_as s e) reading heard)
    (step_at m reading (end_of s.run heard) (hears s heard) (hears s heard).stage)
moment_goes m reading s e sound news.Nothing = none_goes m reading s e s.stage sound
moment_goes m reading s e sound news.Stop = none_goes m reading (record s { asked = true }) e s.stage sound
moment_goes m reading s e sound (news.List Elsewhere) = none_goes m reading (record s { here = false }) e s.stage sound
moment_goes m reading s e sound (news.List (Here until)) = none_goes m reading (record s { here = true; until = until }) e s.stage sound
moment_goes m reading s e sound (news.End run Failed) = unrenewed_goes m reading s e sound run s.renewal
moment_goes m reading s e sound (news.End run Done) = renewal_goes m reading s e sound run s.renewal

-- ---- all rows

rows_let : (m : Margins) (s : State) (e : Extra) → IsSound s e → (ps : List Moment) → AllRows (IsRowLet m) (known_as s e) (rows_from m s ps)
unfolding rows_from
rows_let m s e sound [] = tt
rows_let m s e sound (p ∷ ps) =
    let goes = moment_goes m p.reading s e sound p.heard in
    let next : State = state_after m s p in (
      goes.0,
      subst (λ (k : Known). AllRows (IsRowLet m) k (rows_from m next ps)) (sym goes.1.1) (rows_let m next goes.1.0 goes.1.2 ps),
    )

rows_deeds : (m : Margins) (s : State) (ps : List Moment) → map (λ (row : Row). row.deed) (rows_from m s ps) ≡ deeds_from m s ps
unfolding rows_from deeds_from
rows_deeds m s [] = refl
rows_deeds m s (p ∷ ps) = ap (λ (ds : List FollowDeed). (follow_step m s p).deed ∷ ds) (rows_deeds m (state_after m s p) ps)

rows_moments : (m : Margins) (s : State) (ps : List Moment) → map (λ (row : Row). row.at) (rows_from m s ps) ≡ ps
unfolding rows_from
rows_moments m s [] = refl
rows_moments m s (p ∷ ps) = ap (λ (qs : List Moment). p ∷ qs) (rows_moments m (state_after m s p) ps)

abbrev first_extra : ℕ → Extra
first_extra latest = record { latest = latest; over_at = 0; killed_at = 0; seen = 0; killed = false; checked = false; started = false }

rows_first : (m : Margins) (left : Option ℕ) (ps : List Moment) → AllRows (IsRowLet m) (known_first left) (rows_from m (opening left) ps)
rows_first m None ps = rows_let m (opening None) (first_extra 0) tt ps
rows_first m (Some end) ps = rows_let m (opening (Some end)) (first_extra end) tt ps

pub deeds_let : DeedsAreLet
deeds_let = record {
  rows = rows_first;
  deeds = λ m left ps. rows_deeds m (opening left) ps;
  moments = λ m left ps. rows_moments m (opening left) ps;
}
