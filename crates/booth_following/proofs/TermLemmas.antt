-- A service is ended if its lease has another term than at its start.
use Rattle.std.proofs.Common.{◌≡◌, ◌∙◌, ◌&&◌, ◌||◌, ℕ, Bool, true, false, cond, None, ap, refl, sym, subst}
use Rattle.booth_follow_rule.specs.declared.margins.Margins.{Margins}
use Rattle.booth_follow_rule.specs.declared.news.News.{News}
use Rattle.booth_follow_rule.specs.declared.news.News.TheVariants as news
use Rattle.booth_follow_rule.specs.declared.news.Shown.{Shown}
use Rattle.booth_follow_rule.specs.declared.news.Shown.TheVariants.{Here, Elsewhere}
use Rattle.booth_follow_rule.specs.declared.state.FollowDeed.{FollowDeed}
use Rattle.booth_follow_rule.specs.declared.state.Stage.{Stage}
use Rattle.booth_follow_rule.specs.declared.state.Stage.TheVariants.{Up, Stopping, Killing}
use Rattle.booth_follow_rule.specs.declared.state.State.{State}
use Rattle.booth_follow_rule.specs.declared.state.Word.TheVariants.{Stop, Kill}
use Rattle.booth_follow_rule.specs.Rule.{ends_service, follow_step, goes_on, leaves_more, runs, step_at}
use Rattle.booth_following.specs.declared.following.Following.{Following}
use Rattle.booth_following.specs.declared.following.Seat.{Seat}
use Rattle.booth_following.specs.Laws.{EndsService, ServicesHaveTheirTerms}
use Rattle.booth_following.specs.Restarts.{is_another, is_outdated, is_up, learnt, started_after}
use Rattle.booth_following.specs.Turns.{IsToldIn, Turn, deed_of, term_heard}

-- ---- what the rule does

by_stop_or_kill : (s : State) (more : Bool) →
    EndsService (cond more (runs s Stop (Stopping s.armed)) (runs s Kill (Killing None))).deed
by_stop_or_kill s true = tt
by_stop_or_kill s false = tt

if_asked_or_not : (m : Margins) (reading : ℕ) (s : State) (asked : Bool) →
    EndsService (cond (asked || true) (ends_service m reading s) (goes_on m reading s)).deed
if_asked_or_not m reading s true = by_stop_or_kill s (leaves_more m.kill reading s.armed)
if_asked_or_not m reading s false = by_stop_or_kill s (leaves_more m.kill reading s.armed)

-- a service that runs is ended at a stage
at_stage : (m : Margins) (reading : ℕ) (s : State) (stage : Stage) → stage ≡ Up →
    EndsService (step_at m reading None (record s { here = false }) stage).deed
at_stage m reading s stage is =
    subst (λ (now : Stage). EndsService (step_at m reading None (record s { here = false }) now).deed) (sym is)
    (if_asked_or_not m reading (record s { here = false }) s.asked)

elsewhere : (m : Margins) (reading : ℕ) (s : State) → s.stage ≡ Up →
    EndsService (follow_step m s (record { reading = reading; heard = news.List Elsewhere })).deed
elsewhere m reading s is = at_stage m reading s s.stage is

-- ---- what it learns

learnt_here : (outdated : Bool) (said : News) (until : ℕ) → learnt outdated said ≡ news.List (Here until) →
    said ≡ news.List (Here until)
learnt_here true (news.List shown) until is = let e : news.List Elsewhere ≡ news.List (Here until) = is in absurd cc
learnt_here false (news.List shown) until is = is
learnt_here outdated (news.End run how) until is = is
learnt_here outdated news.Stop until is = is
learnt_here outdated news.Nothing until is = is

learnt_same : (said : News) → learnt false said ≡ said
learnt_same (news.List shown) = refl
learnt_same (news.End run how) = refl
learnt_same news.Stop = refl
learnt_same news.Nothing = refl

pub said_here : (f : Following) (seat : Seat) (t : Turn) (until : ℕ) → IsToldIn f seat t → t.heard ≡ news.List (Here until) →
    t.said ≡ news.List (Here until)
said_here f seat t until told heard =
    learnt_here (is_outdated f seat (term_heard t.standing seat.term)) t.said until (sym told.2 ∙ heard)

-- ---- turns

ends : (f : Following) (seat : Seat) (t : Turn) (shown : Shown) → f.restarts ≡ true → IsToldIn f seat t → t.said ≡ news.List shown →
    seat.follower.state.stage ≡ Up → is_another seat.started (term_heard t.standing seat.term) ≡ true → EndsService (deed_of seat t)
ends f seat t shown restarts told said up another =
    let term : ℕ = term_heard t.standing seat.term in
    let outdated : is_outdated f seat term ≡ true =
    ap (λ (b : Bool). b && (is_up seat.follower.state.stage && is_another seat.started term)) restarts
    ∙ ap (λ (stage : Stage). is_up stage && is_another seat.started term) up ∙ another in
    let heard : t.heard ≡ news.List Elsewhere =
    told.2 ∙ ap (λ (b : Bool). learnt b t.said) outdated ∙ ap (λ (n : News). learnt true n) said in
    subst (λ (n : News). EndsService (follow_step seat.follower.margins seat.follower.state (record { reading = t.reading; heard = n })).deed) (sym heard)
    (elsewhere seat.follower.margins t.reading seat.follower.state up)

pub terms : ServicesHaveTheirTerms
terms = record {
  starts = λ f seat t number until deed.
      ap (λ (d : FollowDeed). started_after seat.started (term_heard t.standing seat.term) d) deed;
  ends = ends;
  here = said_here;
  same = λ f seat t off told.
      told.2 ∙ ap (λ (b : Bool). learnt (b && (is_up seat.follower.state.stage && is_another seat.started (term_heard t.standing seat.term))) t.said) off
      ∙ learnt_same t.said;
}
