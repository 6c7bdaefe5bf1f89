-- Nothing comes after the end of a move, and every move comes to it.
use Rattle.std.proofs.Common.{◌≡◌, ◌<◌, ◌≤◌, ◌+◌, ◌*◌, ℕ, Bool, true, false, List, [], ◌∷◌, length, Some, None, ap, ◌∙◌, inl, inr, arith}
use Rattle.booth_talk.specs.declared.wait.TheConstants.{MOST_PAIRS}
use Rattle.booth_move.specs.declared.deeds.MoveDeed.{MoveDeed}
use Rattle.booth_move.specs.declared.deeds.MoveDeed.TheVariants as deeds
use Rattle.booth_move.specs.declared.stage.Request.{Request}
use Rattle.booth_move.specs.declared.stage.Stage.{Stage}
use Rattle.booth_move.specs.declared.stage.Stage.TheVariants.{Opening, Revoking, Granting, Pausing, Ended}
use Rattle.booth_move.specs.Bound.{Lessens, on_left, pairs_left, request_left, wait_left}
use Rattle.booth_move.specs.Deeds.{deeds_from, move_step}
use Rattle.booth_move.specs.Move.{IsSoundStage, MoveSetup, Pair}
use Rattle.booth_move.specs.Waiting.{sent}
use Rattle.booth_move.proofs.RowLemmas.{step_row}
use Rattle.booth_move.proofs.SoundLemmas.{step_sound}
use Rattle.booth_move.specs.Laws.{AreNothing, EndsOnce, EveryMoveEnds, HasEnd, NothingAfterTheEnd}
use Rattle.booth_move.specs.Rows.{Follows, GoesOn}

-- ---- after the end

ended_from : (setup : MoveSetup) (ps : List Pair) → AreNothing (deeds_from setup Ended ps)
unfolding deeds_from
ended_from setup [] = tt
ended_from setup (p ∷ ps) = ended_from setup ps

-- what is known of the deeds from a stage
abbrev EndsFrom : Stage → List MoveDeed → Type 0
EndsFrom Ended ds = AreNothing ds
EndsFrom stage ds = EndsOnce ds

nothing_ends_once : (ds : List MoveDeed) → AreNothing ds → EndsOnce ds
nothing_ends_once [] are = tt
nothing_ends_once (deeds.Nothing ∷ ds) are = nothing_ends_once ds are
nothing_ends_once (d ∷ ds) are = absurd are

once_row : (setup : MoveSetup) (stage : Stage) (p : Pair) (d : MoveDeed) (next : Stage) (ds : List MoveDeed) →
    Follows setup stage p d next → EndsFrom next ds → EndsFrom stage (d ∷ ds)
once_row setup (Opening start) p (deeds.Revoke None number) (Revoking next on) ds h once = once
once_row setup (Revoking last sent_on) p deeds.Nothing (Revoking next on) ds h once = once
once_row setup (Revoking last sent_on) p (deeds.Revoke (Some place) number) (Revoking next on) ds h once = once
once_row setup (Revoking last sent_on) p (deeds.Grant number) (Granting next again) ds h once = once
once_row setup (Revoking last sent_on) p (deeds.End end) Ended ds h once = once
once_row setup (Granting last repeats) p deeds.Nothing (Granting next again) ds h once = once
once_row setup (Granting last repeats) p deeds.Nothing (Pausing next again) ds h once = once
once_row setup (Granting last repeats) p (deeds.Grant number) (Granting next again) ds h once = once
once_row setup (Granting last repeats) p (deeds.End end) Ended ds h once = once
once_row setup (Pausing last repeats) p deeds.Nothing (Pausing next again) ds h once = once
once_row setup (Pausing last repeats) p (deeds.Grant number) (Granting next again) ds h once = once
once_row setup (Pausing last repeats) p (deeds.End end) Ended ds h once = once
once_row setup Ended p deeds.Nothing Ended ds h once = once
once_row setup stage p d next ds h once = absurd h

once_end : (stage : Stage) → EndsFrom stage []
once_end (Opening start) = tt
once_end (Revoking last sent_on) = tt
once_end (Granting last repeats) = tt
once_end (Pausing last repeats) = tt
once_end Ended = tt

once_from : (setup : MoveSetup) (ps : List Pair) (stage : Stage) → IsSoundStage stage → EndsFrom stage (deeds_from setup stage ps)
unfolding deeds_from
once_from setup [] stage sound = once_end stage
once_from setup (p ∷ ps) stage sound =
    let next : Stage = (move_step setup stage p).stage in
    once_row setup stage p (move_step setup stage p).deed next (deeds_from setup next ps) (step_row setup stage p sound)
    (once_from setup ps next (step_sound setup stage p sound))

pub ends_once : NothingAfterTheEnd
ends_once setup start pairs = once_from setup pairs (Opening start) tt

-- ---- the pairs that are left

-- the move has not ended
abbrev IsGoing : Stage → Type 0
IsGoing Ended = ⊥
IsGoing stage = Unit {0}

-- what a step leaves of the pairs
abbrev Leaves : Stage → MoveDeed → Stage → Type 0
Leaves old (deeds.End end) new = Unit {0}
Leaves old deed new = IsGoing old → IsGoing new × (pairs_left new + 1 ≤ pairs_left old)

some_left : (begun : Bool) (pairs : ℕ) → pairs < MOST_PAIRS → 1 ≤ wait_left begun pairs
some_left true pairs below = omega (arith, below)
some_left false pairs below = omega (arith, below)

one_less : (begun : Bool) (pairs : ℕ) → pairs + 1 < MOST_PAIRS → wait_left begun (pairs + 1) + 1 ≤ wait_left begun pairs
one_less true pairs below = omega (arith, below)
one_less false pairs below = omega (arith, below)

-- a request with another's wait
left_as : (next other : Request) → next ≡ other → request_left next ≡ request_left other
left_as next other is = ap (λ (r : Request). request_left r) is

goes_less : (wait : Bool) (last : Request) (p : Pair) (next : Request) → last.pairs < MOST_PAIRS → GoesOn wait last p next →
    request_left next + 1 ≤ request_left last
goes_less wait last p next below (inl more) =
    let less : wait_left last.begun (last.pairs + 1) + 1 ≤ wait_left last.begun last.pairs = one_less last.begun last.pairs more.1 in
    let is : request_left next ≡ wait_left last.begun (last.pairs + 1) = left_as next (record last { pairs = last.pairs + 1 }) more.2 in
    omega (arith, less, is)
goes_less wait last p next below (inr begun) =
    let is : request_left next ≡ wait_left true 0 = left_as next (record last { pairs = 0; begun = true }) begun.2 in
    let was : request_left last ≡ wait_left false last.pairs = ap (λ (b : Bool). wait_left b last.pairs) begun.1 in
    omega (arith, is, was, below)

-- a new request has all its pairs
left_new : (next : Request) (number reading : ℕ) → next ≡ sent number reading → request_left next ≡ 2 * MOST_PAIRS
left_new next number reading is = left_as next (sent number reading) is ∙ omega arith

-- so many pairs follow where there is one more before
then_more : (left next n : ℕ) → next + 1 ≤ left → left ≤ n + 1 → next ≤ n
then_more left next n less le = omega (arith, less, le)

-- each row lessens the pairs that are left
leaves_row : (setup : MoveSetup) (stage : Stage) (p : Pair) (d : MoveDeed) (next : Stage) → IsSoundStage stage →
    Follows setup stage p d next → Leaves stage d next
leaves_row setup (Opening start) p (deeds.Revoke None number) (Revoking next on) sound h = λ going. (tt, by_on on)
  where
    new : request_left next ≡ 2 * MOST_PAIRS
    new = left_new next number start h.1

    by_on : (on : Bool) → pairs_left (Revoking next on) + 1 ≤ 1 + 36 * MOST_PAIRS
    by_on true = omega (arith, new)
    by_on false = omega (arith, new)
leaves_row setup (Revoking last sent_on) p deeds.Nothing (Revoking next on) sound h =
    let less : request_left next + 1 ≤ request_left last = goes_less setup.wait last p next sound h.0 in
    let same : on_left on ≡ on_left sent_on = ap (λ (b : Bool). on_left b) h.1 in
    λ going. (tt, omega (arith, less, same))
leaves_row setup (Revoking last sent_on) p (deeds.Revoke (Some place) number) (Revoking next on) sound h =
    let new : request_left next ≡ 2 * MOST_PAIRS = left_new next number p.reading h.2.is in
    let now : on_left on ≡ 0 = ap (λ (b : Bool). on_left b) h.3 in
    let was : on_left sent_on ≡ 2 * MOST_PAIRS = ap (λ (b : Bool). on_left b) h.1 in
    let some : 1 ≤ request_left last = some_left last.begun last.pairs sound in
    λ going. (tt, omega (arith, new, now, was, some))
leaves_row setup (Revoking last sent_on) p (deeds.Grant number) (Granting next again) sound h =
    let new : request_left next ≡ 2 * MOST_PAIRS = left_new next number p.reading h.1.is in
    let some : 1 ≤ request_left last = some_left last.begun last.pairs sound in
    let none : again ≡ 0 = h.2 in
    λ going. (tt, omega (arith, new, none, some))
leaves_row setup (Revoking last sent_on) p (deeds.End end) Ended sound h = tt
leaves_row setup (Granting last repeats) p deeds.Nothing (Granting next again) sound h =
    let less : request_left next + 1 ≤ request_left last = goes_less setup.wait last p next sound.0 h.0 in
    let same : again ≡ repeats = h.1 in
    λ going. (tt, omega (arith, less, same))
leaves_row setup (Granting last repeats) p deeds.Nothing (Pausing next again) sound h =
    let none : next.pairs ≡ 0 = ap (λ (r : Request). r.pairs) h.3 in
    let some : 1 ≤ request_left last = some_left last.begun last.pairs sound.0 in
    let same : again ≡ repeats = h.4 in
    let fewer : repeats < 10 = h.2 in
    λ going. (tt, omega (arith, none, some, same, fewer))
leaves_row setup (Granting last repeats) p (deeds.Grant number) (Granting next again) sound h =
    let new : request_left next ≡ 2 * MOST_PAIRS = left_new next number p.reading h.1.is in
    let some : 1 ≤ request_left last = some_left last.begun last.pairs sound.0 in
    let more : again ≡ repeats + 1 = h.1.one_more in
    let fewer : repeats < 10 = h.1.fewer in
    λ going. (tt, omega (arith, new, some, more, fewer))
leaves_row setup (Granting last repeats) p (deeds.End end) Ended sound h = tt
leaves_row setup (Pausing last repeats) p deeds.Nothing (Pausing next again) sound h =
    let one : next.pairs ≡ last.pairs + 1 = ap (λ (r : Request). r.pairs) h.2 in
    let below : last.pairs + 1 < MOST_PAIRS = h.1 in
    let same : again ≡ repeats = h.3 in
    λ going. (tt, omega (arith, one, below, same))
leaves_row setup (Pausing last repeats) p (deeds.Grant number) (Granting next again) sound h =
    let new : request_left next ≡ 2 * MOST_PAIRS = left_new next number p.reading h.is in
    let below : last.pairs < MOST_PAIRS = sound.0 in
    let more : again ≡ repeats + 1 = h.one_more in
    let fewer : repeats < 10 = h.fewer in
    λ going. (tt, omega (arith, new, below, more, fewer))
leaves_row setup (Pausing last repeats) p (deeds.End end) Ended sound h = tt
leaves_row setup Ended p deeds.Nothing Ended sound h = λ going. absurd going
leaves_row setup stage p d next sound h = absurd h

-- where there are enough pairs, the end is among the deeds
end_step : (stage : Stage) (d : MoveDeed) (next : Stage) (n : ℕ) (ds : List MoveDeed) → Leaves stage d next → IsGoing stage →
    pairs_left stage ≤ n + 1 → (IsGoing next → pairs_left next ≤ n → HasEnd ds) → HasEnd (d ∷ ds)
end_step stage (deeds.End end) next n ds less going le ends = tt
end_step stage deeds.Nothing next n ds less going le ends =
    let l = less going in ends l.0 (then_more (pairs_left stage) (pairs_left next) n l.1 le)
end_step stage (deeds.Revoke to number) next n ds less going le ends =
    let l = less going in ends l.0 (then_more (pairs_left stage) (pairs_left next) n l.1 le)
end_step stage (deeds.Grant number) next n ds less going le ends =
    let l = less going in ends l.0 (then_more (pairs_left stage) (pairs_left next) n l.1 le)

left_going : (stage : Stage) → IsSoundStage stage → IsGoing stage → 1 ≤ pairs_left stage
left_going (Opening start) sound going = omega arith
left_going (Revoking last sent_on) sound going = let some : 1 ≤ request_left last = some_left last.begun last.pairs sound in omega (arith, some)
left_going (Granting last repeats) sound going = let some : 1 ≤ request_left last = some_left last.begun last.pairs sound.0 in omega (arith, some)
left_going (Pausing last repeats) sound going = omega arith
left_going Ended sound going = absurd going

none_too_few : (left : ℕ) → 1 ≤ left → left ≤ 0 → ⊥
none_too_few left some le = omega (arith, some, le)

end_from : (setup : MoveSetup) (ps : List Pair) (stage : Stage) → IsSoundStage stage → IsGoing stage → pairs_left stage ≤ length ps →
    HasEnd (deeds_from setup stage ps)
unfolding deeds_from
end_from setup [] stage sound going le = absurd (none_too_few (pairs_left stage) (left_going stage sound going) le)
end_from setup (p ∷ ps) stage sound going le =
    let next : Stage = (move_step setup stage p).stage in
    end_step stage (move_step setup stage p).deed next (length ps) (deeds_from setup next ps)
    (leaves_row setup stage p (move_step setup stage p).deed next sound (step_row setup stage p sound)) going (omega (arith, le)) (λ goes few. end_from setup ps next (step_sound setup stage p sound) goes few)

-- where a pair is left, the move goes on
goes_with : (stage : Stage) → 1 ≤ pairs_left stage → IsGoing stage
goes_with (Opening start) some = tt
goes_with (Revoking last sent_on) some = tt
goes_with (Granting last repeats) some = tt
goes_with (Pausing last repeats) some = tt
goes_with Ended some = absurd (none_too_few 0 some (omega arith))

less_with : (old next : Stage) → IsSoundStage next → (IsGoing old → IsGoing next × (pairs_left next + 1 ≤ pairs_left old)) →
    1 ≤ pairs_left old → (1 ≤ pairs_left next) × (pairs_left next + 1 ≤ pairs_left old)
less_with old next sound leaves some = let l = leaves (goes_with old some) in (left_going next sound l.0, l.1)

as_lessens : (old : Stage) (d : MoveDeed) (next : Stage) → IsSoundStage next → Leaves old d next → Lessens old d next
as_lessens old (deeds.End end) next sound leaves = tt
as_lessens old deeds.Nothing next sound leaves = less_with old next sound leaves
as_lessens old (deeds.Revoke to number) next sound leaves = less_with old next sound leaves
as_lessens old (deeds.Grant number) next sound leaves = less_with old next sound leaves

pub lessens : (setup : MoveSetup) (stage : Stage) (p : Pair) → IsSoundStage stage →
    Lessens stage (move_step setup stage p).deed (move_step setup stage p).stage
lessens setup stage p sound =
    as_lessens stage (move_step setup stage p).deed (move_step setup stage p).stage (step_sound setup stage p sound)
    (leaves_row setup stage p (move_step setup stage p).deed (move_step setup stage p).stage sound (step_row setup stage p sound))

pub every_end : EveryMoveEnds
every_end setup start pairs le = end_from setup pairs (Opening start) tt tt le
