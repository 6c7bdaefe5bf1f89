-- The followers of the example: what they are, and when their services may run.
use Rattle.std.proofs.Common.{◌≡◌, ◌≢◌, ℕ, ◌<◌, ◌≤◌, true, List, [], ◌∷◌, ◌++◌, refl, sym, subst, ⊎_elim, arith}
use Rattle.std.specs.Prelude.{None, nat_le, nat_lt, slice_index}
use Rattle.std.specs.List.{range_with_len}
use Rattle.std.proofs.lemmas.Bool.{leb-true, ltb-true}
use Rattle.std.proofs.lemmas.List.FromFn.{get_or-range_with_len}
use Rattle.booth_conf.specs.declared.members.Member.{Member}
use Rattle.booth_node.specs.Held.{IsAutomatic}
use Rattle.booth_node.specs.Records.{Has}
use Rattle.booth_node.specs.World.{AtEach, IsSecondWorld, IsWorld, clock_at, id_at, members_of}
use Rattle.booth_world.specs.Tellers.{address_at}
use Rattle.booth_follow_rule.specs.Known.{AllRows, Over, Started, known_first, rows_from}
use Rattle.booth_follow_rule.specs.Laws.{IsPrompt, known_from}
use Rattle.booth_follow_rule.specs.Margins.{margins_of}
use Rattle.booth_following.specs.Hearing.{part_in}
use Rattle.booth_following.specs.Laws.{rows_in}
use Rattle.booth_following.specs.Lists.{line_start}
use Rattle.booth_following.specs.Standing.{standing_in}
use Rattle.booth_following.specs.Turns.{AreTurns, first_seat, seat_from}
use Rattle.booth_examples.proofs.CheckLemmas.{begin_free, second_worlds_are, worlds_are}
use Rattle.booth_examples.proofs.Clocks.{exact_clocks}
use Rattle.booth_examples.proofs.Computing.{worlds_compute}
use Rattle.booth_examples.proofs.HoldingLemmas.{automatic_is}
use Rattle.booth_examples.specs.WorldExamples.{site_one, site_two}
use Rattle.booth_services.specs.ServiceExample.{answered, asked_to_end, asks_second, before_first, before_second, begins_first, ended, first_answer, follower_with, following_of, is_moved, moved, quiet, second_answer, sends_first, sends_second, served, serves_next, serves_on, stops_in_time, unpledged}
use Rattle.booth_services.specs.Services.{GaveBack, IsFollowerAt, IsTurnAt, MayServe, StopsBeforeReleases, TimedTurn, turns_of}
use Rattle.booth_services.proofs.ListLemmas.{has_at}
use Rattle.booth_services.proofs.MoveLemmas.{moves_are_safe, none_given_back}
use Rattle.booth_services.proofs.ReleaseTests.{ReleasesFrom, releases_are}
use Rattle.booth_services.proofs.ServiceLemmas.{services_are_apart}
use Rattle.booth_services.proofs.TurnTests.{AllAt, IsExact, all_at, is_timed, prompt_rows, silent_at, told_at}

-- ---- the world

pub moved_is_world : IsWorld moved
unfolding worlds_compute
moved_is_world =
    worlds_are moved (begin_free moved (λ m. unpledged) (λ m name. refl) (λ m. refl))
    (exact_clocks moved refl refl (λ m. refl)) refl

pub moved_is_second : IsSecondWorld moved
moved_is_second = second_worlds_are moved refl

pub served_is_automatic : IsAutomatic moved served
unfolding worlds_compute
served_is_automatic = automatic_is moved served refl

reads_true : (n t : ℕ) → t < n → slice_index (range_with_len 0 n) t ≡ t
reads_true n t below = omega (arith, get_or-range_with_len 0 n t 0 below)

exact : (m : ℕ) → IsExact moved m
exact m = record { span = refl; reads = λ time within. reads_true 60000 time within }

-- ---- followers

and_then : {A B : Type 0} → A → B → A × B
and_then a b = (a, b)

first_sent : Has moved.entries sends_first
first_sent = has_at before_first sends_first (is_moved ++ asks_second ++ sends_second ∷ [])

second_sent : Has moved.entries sends_second
second_sent = has_at before_second sends_second []

abbrev AreAt : ℕ → Member → List TimedTurn → Type 0
AreAt m member turns = AllAt (IsTurnAt moved m (following_of member) None) [] turns

silent : (m : ℕ) (member : Member) (before : List TimedTurn) (t : TimedTurn) → is_timed before t ≡ true → t.turn.bytes ≡ []
    → IsTurnAt moved m (following_of member) None before t
silent m member before t timed none = silent_at moved m (following_of member) None (exact m) before t timed none

stops_at : AreAt 0 site_one stops_in_time.turns
stops_at =
    and_then (silent 0 site_one _ _ refl refl)
    (and_then (silent 0 site_one _ _ refl refl)
    (and_then (silent 0 site_one _ _ refl refl)
    (and_then (told_at moved 0 (following_of site_one) None (exact 0) _ _ refl sends_first first_sent refl refl refl)
    (and_then (silent 0 site_one _ _ refl refl)
    (and_then (silent 0 site_one _ _ refl refl)
    (and_then (silent 0 site_one _ _ refl refl)
    (and_then (silent 0 site_one _ _ refl refl)
    (and_then (silent 0 site_one _ _ refl refl)
    tt))))))))

goes_on_at : AreAt 0 site_one serves_on.turns
goes_on_at =
    and_then (silent 0 site_one _ _ refl refl)
    (and_then (silent 0 site_one _ _ refl refl)
    (and_then (silent 0 site_one _ _ refl refl)
    (and_then (told_at moved 0 (following_of site_one) None (exact 0) _ _ refl sends_first first_sent refl refl refl)
    (and_then (silent 0 site_one _ _ refl refl)
    (and_then (silent 0 site_one _ _ refl refl)
    (and_then (silent 0 site_one _ _ refl refl)
    (and_then (silent 0 site_one _ _ refl refl)
    tt)))))))

next_at : AreAt 1 site_two serves_next.turns
next_at =
    and_then (silent 1 site_two _ _ refl refl)
    (and_then (silent 1 site_two _ _ refl refl)
    (and_then (silent 1 site_two _ _ refl refl)
    (and_then (told_at moved 1 (following_of site_two) None (exact 1) _ _ refl sends_second second_sent refl refl refl)
    (and_then (silent 1 site_two _ _ refl refl)
    tt))))

-- their turns are turns of a following
abbrev AreTold : Member → List TimedTurn → Type 0
AreTold member turns = AreTurns (following_of member) (first_seat (following_of member) None) (turns_of turns)

stops_told : AreTold site_one stops_in_time.turns
unfolding AreTurns seat_from standing_in part_in worlds_compute
stops_told =
    and_then (refl, refl, refl)
    (and_then (refl, refl, refl)
    (and_then (refl, refl, refl)
    (and_then (refl, refl, refl)
    (and_then (refl, refl, refl)
    (and_then (refl, refl, refl)
    (and_then (refl, refl, refl)
    (and_then (refl, refl, refl)
    (and_then (refl, refl, refl)
    tt))))))))

goes_on_told : AreTold site_one serves_on.turns
unfolding AreTurns seat_from standing_in part_in worlds_compute
goes_on_told =
    and_then (refl, refl, refl)
    (and_then (refl, refl, refl)
    (and_then (refl, refl, refl)
    (and_then (refl, refl, refl)
    (and_then (refl, refl, refl)
    (and_then (refl, refl, refl)
    (and_then (refl, refl, refl)
    (and_then (refl, refl, refl)
    tt)))))))

next_told : AreTold site_two serves_next.turns
unfolding AreTurns seat_from standing_in part_in worlds_compute
next_told =
    and_then (refl, refl, refl)
    (and_then (refl, refl, refl)
    (and_then (refl, refl, refl)
    (and_then (refl, refl, refl)
    (and_then (refl, refl, refl)
    tt))))

-- their environment is prompt
abbrev ArePrompt : Member → List TimedTurn → Type 0
ArePrompt member turns = AllRows (IsPrompt 1000 500) (known_first None) (rows_in (following_of member) None (turns_of turns))

stops_promptly : ArePrompt site_one stops_in_time.turns
unfolding rows_from
stops_promptly = prompt_rows 1000 500 (known_first None) (rows_in (following_of site_one) None (turns_of stops_in_time.turns)) refl

goes_on_promptly : ArePrompt site_one serves_on.turns
unfolding rows_from
goes_on_promptly = prompt_rows 1000 500 (known_first None) (rows_in (following_of site_one) None (turns_of serves_on.turns)) refl

next_promptly : ArePrompt site_two serves_next.turns
unfolding rows_from
next_promptly = prompt_rows 1000 500 (known_first None) (rows_in (following_of site_two) None (turns_of serves_next.turns)) refl

-- what is left of a follower
is_follower : (m : ℕ) (member : Member) (turns : List TimedTurn) → m < members_of moved
    → (following_of member).line ≡ line_start served.name (address_at moved m) → (following_of member).me ≡ id_at moved m
    → AreTold member turns → AreAt m member turns → ArePrompt member turns → IsFollowerAt moved served m (follower_with member turns)
is_follower m member turns below line me told at prompt = record {
  below = below;
  line = line;
  ticket_is = refl;
  me_is = me;
  left = tt;
  told = told;
  at = λ before after t whole. all_at (IsTurnAt moved m (following_of member) None) [] turns at before after t whole;
  room = leb-true 2500 2500 refl;
  margin = leb-true 2500 5000 refl;
  prompt = prompt;
}

pub first_follows : IsFollowerAt moved served 0 stops_in_time
first_follows = is_follower 0 site_one stops_in_time.turns (ltb-true 0 3 refl) refl refl stops_told stops_at stops_promptly

pub other_follows : IsFollowerAt moved served 0 serves_on
other_follows = is_follower 0 site_one serves_on.turns (ltb-true 0 3 refl) refl refl goes_on_told goes_on_at goes_on_promptly

pub next_follows : IsFollowerAt moved served 1 serves_next
next_follows = is_follower 1 site_two serves_next.turns (ltb-true 1 3 refl) refl refl next_told next_at next_promptly

-- ---- their services

-- a clock that reads the time reads no more than this
reads_to : (m time most : ℕ) → nat_lt time 60000 ≡ true → nat_le time most ≡ true → clock_at moved m time ≤ most
reads_to m time most within e =
    subst (λ (n : ℕ). n ≤ most) (sym ((exact m).reads time (ltb-true time 60000 within))) (leb-true time most e)

pub first_serves : MayServe moved 0 stops_in_time 6000
unfolding known_from rows_from
first_serves = record {
  before = quiet 100 ∷ ended 200 1 ∷ quiet 5200 ∷ answered 5310 site_one first_answer 20300 1 ∷ ended 5400 2 ∷ [];
  last = ended 5500 3;
  after = asked_to_end 6400 ∷ ended 6450 4 ∷ quiet 6500 ∷ [];
  whole = refl;
  started = refl;
  since = leb-true 5500 6000 refl;
  within = ltb-true 6000 60000 refl;
  soon = reads_to 0 6000 6500 refl refl;
}

pub other_serves : MayServe moved 0 serves_on 7700
unfolding known_from rows_from
other_serves = record {
  before = begins_first ++ quiet 6400 ∷ [];
  last = quiet 7300;
  after = [];
  whole = refl;
  started = refl;
  since = leb-true 7300 7700 refl;
  within = ltb-true 7700 60000 refl;
  soon = reads_to 0 7700 8300 refl refl;
}

pub next_serves : MayServe moved 1 serves_next 7700
unfolding known_from rows_from
next_serves = record {
  before = quiet 100 ∷ ended 200 1 ∷ quiet 7550 ∷ answered 7610 site_two second_answer 26600 2 ∷ [];
  last = ended 7650 2;
  after = [];
  whole = refl;
  started = refl;
  since = leb-true 7650 7700 refl;
  within = ltb-true 7700 60000 refl;
  soon = reads_to 1 7700 8650 refl refl;
}

-- ---- the release

-- site one releases its lease at 7501 ms and not before, and site two releases none
first_releases : AtEach moved (ReleasesFrom moved served.name 0 1 (2 ∷ []) refl 7501)
unfolding worlds_compute
first_releases = releases_are moved served.name 0 1 (2 ∷ []) refl 7501 refl

next_releases : AtEach moved (ReleasesFrom moved served.name 1 0 (2 ∷ []) refl 60000)
unfolding worlds_compute
next_releases = releases_are moved served.name 1 0 (2 ∷ []) refl 60000 refl

-- the service of the first follower is known to be over behind this reading
abbrev IsOverBehind : List TimedTurn → TimedTurn → Type 0
IsOverBehind before t =
    (known_from (known_first None) (rows_in (following_of site_one) None (turns_of (before ++ t ∷ [])))).service ≡ Started
    → t.turn.reading ≤ 6400

over_then : Over ≡ Started → ⊥
over_then e = absurd cc

is_over : AllAt IsOverBehind [] stops_in_time.turns
unfolding known_from rows_from
is_over =
    and_then (λ started. leb-true 100 6400 refl)
    (and_then (λ started. leb-true 200 6400 refl)
    (and_then (λ started. leb-true 5200 6400 refl)
    (and_then (λ started. leb-true 5310 6400 refl)
    (and_then (λ started. leb-true 5400 6400 refl)
    (and_then (λ started. leb-true 5500 6400 refl)
    (and_then (λ started. leb-true 6400 6400 refl)
    (and_then (λ started. absurd (over_then started))
    (and_then (λ started. absurd (over_then started))
    tt))))))))

pub first_stops : StopsBeforeReleases moved served 0 stops_in_time
first_stops before after entry whole own time later under back =
    let serving = under.relies.serving in
    let released = first_releases before after entry whole own under.kept back in
    let last = all_at IsOverBehind [] stops_in_time.turns is_over serving.before serving.after serving.last serving.whole serving.started in
    let soon = serving.soon in
    let clock = (exact 0).reads time serving.within in
    absurd (omega (arith, released, later, last, soon, clock))

pub next_stops : StopsBeforeReleases moved served 1 serves_next
next_stops before after entry whole own time later under back =
    let released = next_releases before after entry whole own under.kept back in
    let within = moved_is_world.form.within before after entry whole in
    absurd (omega (arith, released, within))

two : ◌≢◌ {A = ℕ} 0 1
two e = absurd (omega (arith, e))

pub never_both : (time : ℕ) → MayServe moved 0 stops_in_time time → MayServe moved 1 serves_next time → ⊥
never_both time one other =
    moves_are_safe moved moved_is_world served served_is_automatic 0 1 two stops_in_time serves_next first_follows next_follows first_stops next_stops time
    one other

pub gave_back : GaveBack moved served 0 serves_on 7700
gave_back =
    ⊎_elim (λ (given : GaveBack moved served 0 serves_on 7700). given)
    (λ (given : GaveBack moved served 1 serves_next 7700). absurd (none_given_back moved moved_is_world served 1 serves_next next_stops 7700 given))
    (services_are_apart moved moved_is_world served served_is_automatic 0 1 two serves_on serves_next other_follows next_follows 7700 other_serves next_serves)

pub defaults_are : margins_of served.times.expire served.times.renewal None None ≡ (following_of site_one).margins
defaults_are = refl
