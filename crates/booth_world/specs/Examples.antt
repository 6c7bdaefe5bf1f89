-- Small runs of version 1 in which a ticket is held: they show that the laws are not empty.
use Rattle.std.specs.Prelude.{ℕ, zero, suc, ◌+◌, ◌++◌, nat_lt, true, false, List, [], ◌∷◌, Some, None}
use Rattle.booth_base.specs.declared.address.MemberId.{MemberId}
use Rattle.booth_base.specs.declared.name.Name.{Name}
use Rattle.booth_base.specs.declared.times.Times.{Times}
use Rattle.booth_rec.specs.Record.{no_record}
use Rattle.booth_wire.specs.declared.message.Setup.{Setup}
use Rattle.booth_raft.specs.StartAndLearn.{started}
use Rattle.booth_world.specs.Calls.{Caller}
use Rattle.booth_world.specs.Facts.{Round, Release}
use Rattle.booth_world.specs.OnePhase.{all_seats, only_phase}
use Rattle.booth_world.specs.States.{KeptRecord, none_kept, Cluster, begins_bare}
use Rattle.booth_world.specs.Steps.{WorldStep, Elects, Renews, Promises, Answers, Gains, TriesKeep, HasKept, Releases, Clears, Learns, Crashes, Starts, ReadsClock, MemberDoes, Passes}

-- ---- three members, whose clocks differ by as much as the drift allows over so short a time

-- The readings of three clocks: one jumps ahead, one stands still briefly, and one is exact.
abbrev pub ahead : List ℕ
ahead = 0 ∷ 1 ∷ 2 ∷ 3 ∷ 5 ∷ 6 ∷ 7 ∷ 8 ∷ []

abbrev pub behind : List ℕ
behind = 1 ∷ 2 ∷ 3 ∷ 4 ∷ 4 ∷ 5 ∷ 6 ∷ 7 ∷ []

abbrev pub exact : List ℕ
exact = 0 ∷ 1 ∷ 2 ∷ 3 ∷ 4 ∷ 5 ∷ 6 ∷ 7 ∷ []

abbrev pub clock_of : ℕ → List ℕ
clock_of zero = ahead
clock_of (suc zero) = behind
clock_of (suc (suc m)) = exact

abbrev pub example_times : Times
example_times = record { expire = 2; after = 1; timeout = 1; retries = 1; renewal = 1 }

abbrev pub three : Cluster
three = record {
  members = 3;
  is_site = λ m. nat_lt m 2;
  phase = only_phase 8 1 (all_seats 3) example_times;
  ticks = 1;
  span = 8;
  clock = clock_of;
  begins = λ m. begins_bare;
  goes_on = true;
}

-- ---- the steps of the members

abbrev pub unleased : ℕ → KeptRecord
unleased term = record { term = term; lease = None; pledge = None }

abbrev pub won_by : Round → KeptRecord
won_by round = record {
  term = round.term;
  lease = Some (record { term = round.term; until = round.opened + 2 });
  pledge = None;
}

-- All members start, in version 1, and have written nothing.
abbrev pub start : List WorldStep
start =
    MemberDoes 0 (Starts none_kept false 0) ∷ MemberDoes 1 (Starts none_kept false 0)
    ∷ MemberDoes 2 (Starts none_kept false 0) ∷ []

abbrev pub all_read_at : ℕ → List WorldStep
all_read_at time =
    Passes time ∷ MemberDoes 0 ReadsClock ∷ MemberDoes 1 ReadsClock ∷ MemberDoes 2 ReadsClock ∷ []

-- A member promises a round until a reading, and answers it.
abbrev pub answers : ℕ → Round → ℕ → List WorldStep
answers m round until =
    MemberDoes m (Promises round.site round.term)
    ∷ MemberDoes m (Answers round (record { to = round.site; term = round.term; until = until }))
    ∷ []

-- A site starts a new term, and opens its first round.
abbrev pub election : ℕ → ℕ → List WorldStep
election s term =
    MemberDoes s (Learns term) ∷ MemberDoes s (TriesKeep (unleased term))
    ∷ MemberDoes s (HasKept (unleased term)) ∷ MemberDoes s Elects ∷ []

-- A site gains a lease with its own answer and the last member's answer, and writes it.
abbrev pub gain : Round → List WorldStep
gain round =
    MemberDoes round.site (Gains round (round.site ∷ 2 ∷ []))
    ∷ MemberDoes round.site (TriesKeep (won_by round))
    ∷ MemberDoes round.site (HasKept (won_by round))
    ∷ []

-- ---- a ticket is granted, renewed, released, and granted at the other site

abbrev pub first_round : Round
first_round = record { site = 0; term = 1; number = 0; opened = 7; at = 6; phase = 0 }

abbrev pub second_round : Round
second_round = record { site = 0; term = 1; number = 1; opened = 8; at = 7; phase = 0 }

abbrev pub third_round : Round
third_round = record { site = 1; term = 2; number = 0; opened = 7; at = 7; phase = 0 }

abbrev pub first_release : Release
first_release = record { site = 0; term = 1; at = 7 }

abbrev pub granted : List WorldStep
granted =
    start ++ all_read_at 6 ++ election 0 1 ++ answers 0 first_round 12 ++ answers 2 first_round 11
    ++ gain first_round

abbrev pub renewed : List WorldStep
renewed =
    all_read_at 7 ++ (MemberDoes 0 (Renews first_round) ∷ [])
    ++ answers 0 second_round 13 ++ answers 2 second_round 12 ++ gain second_round

abbrev pub released : List WorldStep
released =
    MemberDoes 0 (TriesKeep (unleased 1)) ∷ MemberDoes 0 (HasKept (unleased 1))
    ∷ MemberDoes 0 Releases ∷ MemberDoes 2 (Clears first_release) ∷ []

abbrev pub granted_elsewhere : List WorldStep
granted_elsewhere =
    election 1 2 ++ answers 1 third_round 12 ++ answers 2 third_round 12 ++ gain third_round

-- ---- a holder crashes, and starts again from its record

abbrev pub crashed_and_started : List WorldStep
crashed_and_started =
    MemberDoes 0 Crashes ∷ MemberDoes 2 Crashes
    ∷ MemberDoes 0 (Starts (won_by first_round) false 0) ∷ MemberDoes 2 (Starts none_kept false 0) ∷ []

-- ---- a member whose view agrees with its state

-- The id of the member with this index is the place's number.
abbrev pub id_of_place : ℕ → MemberId
id_of_place m = record { 0 = m }

abbrev pub first_setup : Name → Setup
first_setup ticket = record {
  ticket = ticket;
  me = id_of_place 0;
  place = 0;
  members = 3;
  site = true;
  rank = 0;
  times = example_times;
  second = false;
  steady = false;
}

abbrev pub first_caller : Name → Caller
first_caller ticket = record {
  id_of = id_of_place;
  place = 0;
  setup = first_setup ticket;
  view = started (first_setup ticket) no_record 0;
}
