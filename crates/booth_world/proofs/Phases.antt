-- A member that answered a round in time is in a phase near the round's, or its promise has passed.
use Rattle.std.proofs.Common.{◌≡◌, ◌⊎◌, ℕ, ◌+◌, ◌-◌, ◌*◌, ◌<◌, ◌≤◌, List, ap, ◌∙◌, inl, inr, arith, length, mul-le-mul_left}
use native.Mathlib.Decide.{dec_le}
use Rattle.std.specs.Prelude.{slice_index}
use Rattle.booth_node.specs.Clock.{IsClock}
use Rattle.booth_world.specs.Facts.{Round, Answer}
use Rattle.booth_world.specs.States.{Cluster, HasClocks, IsTimed, HasPhases, reads, promise_time, lasts_in}
use Rattle.booth_world.proofs.Invariant.{InTime, ClockGood, AnswerFact, RoundFact}
use Rattle.booth_world.proofs.Majority.{Order, order_of}

-- if the slowest clock counts this time between two true times, each clock does
counted : (ticks lasts early late : ℕ) (clock : List ℕ) → 0 < ticks → IsClock ticks clock → early ≤ late → late < length clock
    → 1000000 * (ticks * (lasts + 1)) ≤ 999000 * (late - early) → slice_index clock early + lasts ≤ slice_index clock late
counted ticks lasts early late clock some is order within long =
    let slow = is.not_slow early late order within in
    let rise = is.rising.rises early late order within in
    by_order (slice_index clock early) (slice_index clock late) rise slow (dec_le (slice_index clock early + lasts) (slice_index clock late))
  where
    by_order : (a b : ℕ) → a ≤ b → 999000 * (late - early) ≤ ticks * (1000000 * (b - a) + 1000000) → Dec (a + lasts ≤ b) → a + lasts ≤ b
    by_order a b rise slow (yes l) = l
    by_order a b rise slow (no n) =
        let less : b - a + 1 ≤ lasts = omega (arith, n, rise) in
        absurd (omega (arith, slow, long, some, mul-le-mul_left ticks less))

-- true times that are so far apart come one after the other
pub after_close : (c : Cluster) → IsTimed c → HasPhases c → (p q : ℕ) → p + 2 ≤ q → (c.phase p).closes < (c.phase q).opens
after_close c timed phases p q apart =
    let far = phases.spaced p q apart in
    let some = timed.ticking in
    let one : c.ticks * 1 ≤ c.ticks * (lasts_in c p + 1) = mul-le-mul_left c.ticks (omega arith) in
    omega (arith, far, some, one)

-- between the closing of a phase and the opening of the second phase after it, each clock counts a promise
pub passed : (c : Cluster) → HasClocks c → IsTimed c → HasPhases c → (m p q early late : ℕ) → m < c.members → p + 2 ≤ q → late < c.span
    → early ≤ (c.phase p).closes → (c.phase q).opens ≤ late → reads c m early + lasts_in c p ≤ reads c m late
passed c clocks timed phases m p q early late below apart within closed opened =
    let far = phases.spaced p q apart in
    let gap = after_close c timed phases p q apart in
    let long = clocks.long m below in
    counted c.ticks (lasts_in c p) early late (c.clock m) timed.ticking (timed.clocks m below) (omega arith) (omega arith) (omega (arith, far, gap, closed, opened))

pub near_or_passed :
    (c : Cluster) → HasClocks c → HasPhases c → (now m reading at phase : ℕ) (a : Answer) (rounds : List Round)
    → m < c.members → now < c.span → ClockGood c now m reading at → AnswerFact c now rounds a → RoundFact c now a.round
    → a.member ≡ m → InTime c a → (c.phase phase).opens ≤ at → now ≤ (c.phase phase).closes
    → (lasts_in c a.round.phase ≤ promise_time c phase) ⊎ (a.reading + lasts_in c a.round.phase ≤ reading)
near_or_passed c clocks phases now m reading at phase a rounds below within clock af rf member in_time opened closed =
    by_order (order_of a.round.phase phase)
  where
    by_order : Order a.round.phase phase → (lasts_in c a.round.phase ≤ promise_time c phase) ⊎ (a.reading + lasts_in c a.round.phase ≤ reading)
    by_order (Order.Near near) = inl (phases.lasting a.round.phase phase near)
    by_order (Order.Before apart) =
        let there : a.reading ≡ reads c m a.at = af.clock ∙ ap (λ (y : ℕ). reads c y a.at) member in
        let here = clock.clock in
        let past = clock.past in
        let p = passed c clocks in_time.1 phases m a.round.phase phase a.at at below apart (omega arith) in_time.0 opened in
        inr (omega arith)
    by_order (Order.After apart) =
        let gap = after_close c in_time.1 phases phase a.round.phase apart in
        let first = rf.opens in
        let later = af.later in
        let past = af.past in
        absurd (omega (arith, gap, first, later, past, closed))
