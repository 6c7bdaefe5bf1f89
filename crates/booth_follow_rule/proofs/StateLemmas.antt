-- What is known of a follower that stands so, and what its tests say of it.
use Rattle.std.proofs.Common.{◌≡◌, ◌≢◌, ◌<◌, ◌≤◌, ◌+◌, ◌⊎◌, ℕ, Bool, true, false, not, ◌&&◌, ◌||◌, ◌==◌, Option, Some, None, refl, inl, inr, arith}
use Rattle.std.specs.Prelude.{nat_lt, nat_le}
use Rattle.std.proofs.lemmas.Bool.{and_parts}
use Rattle.std.proofs.lemmas.Bool.Decides.{nat_tests}
use Rattle.booth_follow_rule.specs.declared.margins.Margins.{Margins}
use Rattle.booth_follow_rule.specs.declared.news.RunEnd.{RunEnd}
use Rattle.booth_follow_rule.specs.declared.news.RunEnd.TheVariants.{Done, Failed}
use Rattle.booth_follow_rule.specs.declared.state.Renewal.{Renewal}
use Rattle.booth_follow_rule.specs.declared.state.Stage.{Stage}
use Rattle.booth_follow_rule.specs.declared.state.Stage.TheVariants.{Opening, Down, Up, Stopping, Killing, Ended}
use Rattle.booth_follow_rule.specs.declared.state.State.{State}
use Rattle.booth_follow_rule.specs.declared.state.Word.{Word}
use Rattle.booth_follow_rule.specs.declared.state.Word.TheVariants.{Check, Start, Stop, Kill}
use Rattle.booth_follow_rule.specs.Known.{Known, Service, Unknown, Started, Over}
use Rattle.booth_follow_rule.specs.declared.margins.TheConstants.{RISE}
use Rattle.booth_follow_rule.specs.Laws.{IsHeld, IsKept, IsRenewable, IsRenewalRested}
use Rattle.booth_follow_rule.specs.Rule.{has_failed, is_held, is_kept, is_renewable, may_renew, wait_of}

-- ---- tests

pub less : (a b : ℕ) → nat_lt a b ≡ true → a < b
less a b h = grind (arith, nat_tests)

pub not_less : (a b : ℕ) → nat_lt a b ≡ false → b ≤ a
not_less a b h = grind (arith, nat_tests)

pub test_less : (a b : ℕ) → a < b → nat_lt a b ≡ true
test_less a b h = grind (arith, nat_tests)

pub no_more : (a b : ℕ) → nat_le a b ≡ true → a ≤ b
no_more a b h = grind (arith, nat_tests)

pub test_no_more : (a b : ℕ) → a ≤ b → nat_le a b ≡ true
test_no_more a b h = grind (arith, nat_tests)

pub is_zero : (a : ℕ) → (a == 0) ≡ true → a ≡ 0
is_zero a h = grind (arith, nat_tests)

pub no_zero : (a : ℕ) → (a == 0) ≡ false → a ≢ 0
no_zero a h is = grind (arith, nat_tests, is)

pub test_both : (a b : Bool) → a ≡ true → b ≡ true → (a && b) ≡ true
test_both true b p q = q
test_both false b p q = absurd cc

pub clash : (b : Bool) → b ≡ false → b ≡ true → ⊥
clash true p q = cc
clash false p q = cc

-- what the test for the end of a service says
pub due : (asked failed held : Bool) → (asked || (failed || not held)) ≡ true → (asked ≡ true) ⊎ ((failed ≡ true) ⊎ (held ≡ false))
due true failed held e = inl refl
due false true held e = inr (inl refl)
due false false true e = absurd cc
due false false false e = inr (inr refl)

pub not_due : (asked failed held : Bool) → (asked || (failed || not held)) ≡ false → (asked ≡ false) × (failed ≡ false) × (held ≡ true)
not_due true failed held e = absurd cc
not_due false true held e = absurd cc
not_due false false true e = (refl, refl, refl)
not_due false false false e = absurd cc

pub due_first : (asked held : Bool) → (asked || not held) ≡ true → (asked ≡ true) ⊎ (held ≡ false)
due_first true held e = inl refl
due_first false true e = absurd cc
due_first false false e = inr refl

pub not_due_first : (asked held : Bool) → (asked || not held) ≡ false → (asked ≡ false) × (held ≡ true)
not_due_first true held e = absurd cc
not_due_first false true e = (refl, refl)
not_due_first false false e = absurd cc

pub failed_is : (how : Option RunEnd) → has_failed how ≡ true → how ≡ Some Failed
failed_is None h = absurd cc
failed_is (Some Done) h = absurd cc
failed_is (Some Failed) h = refl

pub not_failed : (how : Option RunEnd) → has_failed how ≡ false → how ≢ Some Failed
not_failed None h = λ is. cc
not_failed (Some Done) h = λ is. cc
not_failed (Some Failed) h = absurd cc

-- ---- what is known of a follower that stands so

-- what the state does not tell: the latest armed end, when the service was over, when it was killed, the last reading,
-- whether it ended by a kill, whether it was taken over by a check, and whether this follower started it
pub record Extra : Type 0 where
  pub latest : ℕ
  pub over_at : ℕ
  pub killed_at : ℕ
  pub seen : ℕ
  pub killed : Bool
  pub checked : Bool
  pub started : Bool

abbrev pub ended_by : Bool → Option Word
ended_by true = Some Kill
ended_by false = Some Stop

abbrev pub begun_by : Bool → Option Word
begun_by true = Some Check
begun_by false = Some Start

abbrev pub begun : Bool → Service
begun true = Started
begun false = Unknown

abbrev pub last_of : Stage → Bool → Bool → Option Word
last_of Opening killed checked = None
last_of (Down since) killed checked = ended_by killed
last_of Up killed checked = begun_by checked
last_of (Stopping by) killed checked = Some Stop
last_of (Killing failed) killed checked = Some Kill
last_of Ended killed checked = ended_by killed

abbrev pub service_of : Stage → Bool → Service
service_of Opening started = Unknown
service_of (Down since) started = Over
service_of Up started = Started
service_of (Stopping by) started = begun started
service_of (Killing failed) started = begun started
service_of Ended started = Over

abbrev pub over_of : Stage → ℕ → ℕ
over_of (Down since) over_at = since
over_of stage over_at = over_at

abbrev pub left_of : Stage → Bool
left_of Ended = true
left_of stage = false

abbrev pub known_as : State → Extra → Known
known_as s e = record {
  here = s.here;
  end = s.until;
  armed = s.armed;
  latest = e.latest;
  renewal = s.renewal;
  asked = s.asked;
  last = last_of s.stage e.killed e.checked;
  run = s.run;
  number = s.number;
  service = service_of s.stage e.started;
  over_at = over_of s.stage e.over_at;
  killed_at = e.killed_at;
  seen = e.seen;
  left = left_of s.stage;
}

-- the end of a stop is the armed one, where this follower made the start
abbrev pub IsSoundAt : Stage → ℕ → Bool → Type 0
IsSoundAt (Stopping by) armed started = started ≡ true → by ≡ armed
IsSoundAt stage armed started = Unit {0}

abbrev pub IsSound : State → Extra → Type 0
IsSound s e = IsSoundAt s.stage s.armed e.started

-- ---- tests of a state

pub held : (m : Margins) (reading : ℕ) (s : State) (e : Extra) → is_held m reading s ≡ true → IsHeld m reading (known_as s e)
held m reading s e h =
    let both = and_parts s.here (nat_lt (reading + m.margin) s.until) h in record { here = both.0; in_time = less (reading + m.margin) s.until both.1 }

pub test_held : (m : Margins) (reading : ℕ) (s : State) (e : Extra) → IsHeld m reading (known_as s e) → is_held m reading s ≡ true
test_held m reading s e h = test_both s.here (nat_lt (reading + m.margin) s.until) h.here (test_less (reading + m.margin) s.until h.in_time)

pub kept : (m : Margins) (reading : ℕ) (s : State) (e : Extra) → is_kept m reading s ≡ true → IsKept m reading (known_as s e)
kept m reading s e h =
    let both = and_parts (is_held m reading s) (nat_lt (reading + m.margin) s.armed) h in
    record { held = held m reading s e both.0; armed = less (reading + m.margin) s.armed both.1 }

pub not_kept : (m : Margins) (reading : ℕ) (s : State) (e : Extra) → is_kept m reading s ≡ false → IsKept m reading (known_as s e) → ⊥
not_kept m reading s e not h =
    clash (is_kept m reading s) not
    (test_both (is_held m reading s) (nat_lt (reading + m.margin) s.armed) (test_held m reading s e h.held) (test_less (reading + m.margin) s.armed h.armed))

pub renewal_rested : (m : Margins) (reading : ℕ) (r : Option Renewal) → may_renew m reading r ≡ true → IsRenewalRested m reading r
renewal_rested m reading None h = tt
renewal_rested m reading (Some r) h = no_more (r.since + wait_of m r) reading h

pub test_rested : (m : Margins) (reading : ℕ) (r : Option Renewal) → IsRenewalRested m reading r → may_renew m reading r ≡ true
test_rested m reading None h = refl
test_rested m reading (Some r) h = test_no_more (r.since + wait_of m r) reading h

pub renewable : (m : Margins) (reading : ℕ) (s : State) (e : Extra) → is_renewable m reading s ≡ true → IsRenewable m reading (known_as s e)
renewable m reading s e h =
    let both = and_parts s.here (nat_lt (s.armed + RISE) s.until && may_renew m reading s.renewal) h in
    let rest = and_parts (nat_lt (s.armed + RISE) s.until) (may_renew m reading s.renewal) both.1 in
    record { here = both.0; later = less (s.armed + RISE) s.until rest.0; rested = renewal_rested m reading s.renewal rest.1 }

pub not_renewable : (m : Margins) (reading : ℕ) (s : State) (e : Extra) → is_renewable m reading s ≡ false → IsRenewable m reading (known_as s e) → ⊥
not_renewable m reading s e not h =
    clash (is_renewable m reading s) not
    (test_both s.here (nat_lt (s.armed + RISE) s.until && may_renew m reading s.renewal) h.here
    (test_both (nat_lt (s.armed + RISE) s.until) (may_renew m reading s.renewal) (test_less (s.armed + RISE) s.until h.later) (test_rested m reading s.renewal h.rested)))
