-- After two steps a later holder may have a smaller term. The steps lead from member 0 alone to both members, and from
-- both to member 1 alone. In the phase between them no member gains a lease, so no member learns the term of the first.
use Rattle.std.specs.Prelude.{◌++◌, ℕ, zero, suc, ◌+◌, ◌*◌, ◌<◌, true, List, [], ◌∷◌, Option, Some, None}
use Rattle.booth_rec.specs.declared.record.Lease.{Lease}
use Rattle.booth_world.specs.Facts.{Round, Seats}
use Rattle.booth_world.specs.States.{Pledge, Promise, KeptRecord, Phase, Cluster, HasClocks, IsTimed, HasPhases, opening}
use Rattle.booth_world.specs.Steps.{WorldStep, Elects, Promises, Answers, Gains, HasKept, Learns, Starts, ReadsClock, MemberDoes, Passes, IsRun, AreSecond, world_of}
use Rattle.booth_world.specs.Held.{IsHeldBy}

abbrev pub true_clock : List ℕ
true_clock = 0 ∷ 1 ∷ 2 ∷ 3 ∷ 4 ∷ 5 ∷ 6 ∷ 7 ∷ []

-- Member 0 alone, then both members, then member 1 alone.
abbrev pub seats_of : ℕ → Seats
seats_of zero = record { size = 1; number = λ p. 0; place = λ m. m }
seats_of (suc zero) = record { size = 2; number = λ p. p; place = λ m. m }
seats_of (suc (suc p)) = record { size = 1; number = λ p. 1; place = λ m. 0 }

abbrev pub phase_of : ℕ → Phase
phase_of p = record {
  seats = seats_of p;
  times = record { expire = 1; after = 0; timeout = 1; retries = 1; renewal = 1 };
  opens = 3 * p;
  closes = 3 * p;
  lasts = 3;
}

abbrev pub pledged : Option ℕ → Option Promise → Pledge
pledged bound promise = record { bound = bound; promise = promise; abstain = 0 }

-- A record of version 2.
abbrev pub has : ℕ → Option Lease → Option ℕ → Option Promise → KeptRecord
has term lease bound promise = record { term = term; lease = lease; pledge = Some (pledged bound promise) }

-- Member 0 begins with term 4, and member 1 with term 0.
abbrev pub first_term : ℕ → ℕ
first_term zero = 4
first_term (suc m) = 0

abbrev pub two : Cluster
two = record {
  members = 2;
  is_site = λ m. true;
  phase = phase_of;
  ticks = 1;
  span = 8;
  clock = λ m. true_clock;
  begins = λ m. record { second = true; kept = has (first_term m) None None None };
  goes_on = true;
}

abbrev pub round_of : ℕ → ℕ → ℕ → ℕ → Round
round_of m term time phase = record { site = m; term = term; number = 0; opened = time; at = time; phase = phase }

abbrev pub promise_of_own : ℕ → ℕ → ℕ → Promise
promise_of_own m term time = record { to = m; term = term; until = time + 3 }

abbrev pub lease_of_own : ℕ → ℕ → Lease
lease_of_own term time = record { term = term; until = time + 1 }

abbrev pub held_record : ℕ → ℕ → ℕ → KeptRecord
held_record m term time = has term (Some (lease_of_own term time)) (Some m) (Some (promise_of_own m term time))

-- A member starts in a phase, takes the next term, and gains a lease by its own answer.
abbrev pub gains_alone : ℕ → ℕ → ℕ → ℕ → List WorldStep
gains_alone m before time phase =
    MemberDoes m ReadsClock ∷ MemberDoes m (Starts (has before None None None) true phase)
    ∷ MemberDoes m (Learns (before + 1)) ∷ MemberDoes m (HasKept (has (before + 1) None None None))
    ∷ MemberDoes m Elects ∷ MemberDoes m (Promises m (before + 1))
    ∷ MemberDoes m (HasKept (has (before + 1) None (Some m) (Some (promise_of_own m (before + 1) time))))
    ∷ MemberDoes m (Answers (round_of m (before + 1) time phase) (promise_of_own m (before + 1) time))
    ∷ MemberDoes m (Gains (round_of m (before + 1) time phase) (m ∷ []))
    ∷ MemberDoes m (HasKept (held_record m (before + 1) time)) ∷ []

abbrev pub early : List WorldStep
early = gains_alone 0 4 0 0

abbrev pub late : List WorldStep
late = Passes 6 ∷ gains_alone 1 0 6 2

-- All premises of the law on later terms hold but one: the phases of the two leases are two steps apart. The later
-- lease has the smaller term.
pub record SmallerTermTwoStepsOn : Type 0 where
  pub clocks : HasClocks two
  pub timed : IsTimed two
  pub phases : HasPhases two
  pub run : IsRun two (opening two) (early ++ late)
  pub second : AreSecond (early ++ late)
  pub first_holds : IsHeldBy two (world_of two early) 0 (held_record 0 5 0)
  pub second_holds : IsHeldBy two (world_of two (early ++ late)) 1 (held_record 1 1 6)
  pub smaller : (lease_of_own 1 6).term < (lease_of_own 5 0).term
