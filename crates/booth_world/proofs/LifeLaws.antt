-- Learning a term, crashing, starting and the passing of time keep what holds.
use Rattle.std.proofs.Common.{◌≡◌, ◌⊎◌, ℕ, ◌+◌, ◌<◌, ◌≤◌, List, [], ◌∷◌, Bool, true, false, refl, sym, ap, ◌∙◌, subst, inl, inr, length, arith, ⊎_elim}
use Rattle.std.specs.Prelude.{Option, Some, None}
use native.Mathlib.Nat.{le_of_eq, le_refl}
use Rattle.booth_world.specs.Facts.{Has, Answer, Release, Facts}
use Rattle.booth_world.specs.States.{Pledge, Promise, IsWithin, KeptRecord, MemberState, WorldState, Cluster, HasClocks, HasPhases, reads, promise_time, lasts_in}
use Rattle.booth_world.specs.Lives.{pledge_at_start, IsSilent, MayRead, MayStart, starting}
use Rattle.booth_world.specs.Steps.{Learns, Crashes, Starts, ReadsClock, Passes, MayStep, happens}
use Rattle.booth_world.proofs.Lists.{none_is}
use Rattle.booth_world.proofs.Invariant.{Covers, StateGuard, RecordsCover, Guard, Stands, PromiseGood, PledgesGood, Good, LeaseGood, IsOverOrGood}
use Rattle.booth_world.proofs.Phases.{near_or_passed}
use Rattle.booth_world.proofs.Stays.{Law, facts_stay, only_one, not_up, stands_by, stands_beside}

pub learns : (c : Cluster) (now : ℕ) (f : Facts) (m : ℕ) (x : MemberState) (term : ℕ) → Law c now f m x (Learns term)
learns c now f m x term i g below may timely =
    facts_stay c now f m _ g (record {
      clock = i.clock;
      session = i.session;
      may = i.may;
      term = λ up k h. let l = i.term up k h in let n = may.above in omega arith;
      round = λ r e. absurd (none_is r e);
      lease = i.lease;
      promise = λ p e. let q = i.promise p e in let n = may.above in record { within = omega arith; rested = q.rested };
      within = record { bound_below = λ s e. absurd (none_is s e); promise_below = i.within.promise_below };
      pledges = i.pledges;
      answers = i.answers;
    })

-- crash
guard_crashed : (c : Cluster) (a : Answer) (x : MemberState) → StateGuard c a x → StateGuard c a (record x { up = false })
guard_crashed c a x g = inl refl

pub crashes : (c : Cluster) (now : ℕ) (f : Facts) (m : ℕ) (x : MemberState) → Law c now f m x Crashes
crashes c now f m x i g below may timely =
    facts_stay c now f m _ g (record {
      clock = i.clock;
      session = λ up. absurd (not_up up);
      may = i.may;
      term = λ up k h. absurd (not_up up);
      round = i.round;
      lease = i.lease;
      promise = i.promise;
      within = i.within;
      pledges = i.pledges;
      answers = λ a h e. let b = i.answers a h e in record { past = b.past; stands = λ timed. stands_beside c f.releases a x.reading (StateGuard c a x) (StateGuard c a (record x { up = false })) (RecordsCover c a x.may) (λ g. Stands.Guarded (guard_crashed c a x g)) (b.stands timed) };
    })

-- start

-- what holds of each record that may be kept, and of a silent one, holds of what a start reads
pub of_read : (site : Bool) (may : List KeptRecord) (k : KeptRecord) (Q : Type 0)
    → MayRead site may k → (Has may k → Q) → (IsSilent site may k → Q) → Q
of_read site may k Q read kept silent = ⊎_elim (λ (h : Has may k). kept h) (λ (s : IsSilent site may k). silent s) read

-- a silent record has no pledge
pub no_pledge_read : (site : Bool) (may : List KeptRecord) (k : KeptRecord) (p : Pledge) → IsSilent site may k → k.pledge ≡ Some p → ⊥
no_pledge_read site may k p silent e = none_is p (sym silent.unpledged ∙ e)

-- the rounds and the releases of a member are of no later term than what it reads: of an arbitrator there are none
pub read_reaches :
    (c : Cluster) (m : ℕ) (x : MemberState) (k : KeptRecord) (term : ℕ)
    → MayRead (c.is_site m) x.may k → ((y : KeptRecord) → Has x.may y → term ≤ y.term) → c.is_site m ≡ true → term ≤ k.term
read_reaches c m x k term read least site =
    of_read (c.is_site m) x.may k (term ≤ k.term) read (λ h. least k h)
    (λ silent. let y = silent.reaches site in let l = least y.0 y.1 in let n = y.2 in omega arith)

-- a promise at the start is that of the record
promise_at_start :
    (c : Cluster) (phase reading : ℕ) (o : Option Pledge) (term : ℕ) (p : Promise)
    → ((pledge : Pledge) → o ≡ Some pledge → (q : Promise) → pledge.promise ≡ Some q → PromiseGood term reading pledge.abstain q)
    → (pledge_at_start c phase reading o).promise ≡ Some p → PromiseGood term reading (pledge_at_start c phase reading o).abstain p
promise_at_start c phase reading None term p good e = absurd (none_is p e)
promise_at_start c phase reading (Some pledge) term p good e = good pledge refl p e

-- so are the members that are named
pub within_at_start :
    (c : Cluster) (phase reading : ℕ) (o : Option Pledge) → ((pledge : Pledge) → o ≡ Some pledge → IsWithin c.members pledge.bound pledge.promise)
    → IsWithin c.members (pledge_at_start c phase reading o).bound (pledge_at_start c phase reading o).promise
within_at_start c phase reading None named = record { bound_below = λ s e. absurd (none_is s e); promise_below = λ p e. absurd (none_is p e) }
within_at_start c phase reading (Some pledge) named = named pledge refl

-- an answer is covered at the start by the record, or else by the abstention
covers_at_start :
    (c : Cluster) (phase reading : ℕ) (o : Option Pledge) (a : Answer) → lasts_in c a.round.phase ≤ promise_time c phase → a.reading ≤ reading
    → ((p : Pledge) → o ≡ Some p → Covers c a p.abstain p.promise)
    → Covers c a (pledge_at_start c phase reading o).abstain (pledge_at_start c phase reading o).promise
covers_at_start c phase reading None a near past by_record = Covers.Abstains (omega arith)
covers_at_start c phase reading (Some pledge) a near past by_record = by_record pledge refl

-- after a start an answer stands by the record, or the abstention
start_stands :
    (c : Cluster) (z : List Release) (a : Answer) (site : Bool) (x : MemberState) (k : KeptRecord) (second : Bool) (phase : ℕ)
    → MayRead site x.may k → (lasts_in c a.round.phase ≤ promise_time c phase) ⊎ (a.reading + lasts_in c a.round.phase ≤ x.reading)
    → a.reading ≤ x.reading → Guard c a x → Stands c z a x.reading (Guard c a (starting c x k second phase))
start_stands c z a site x k second phase read (inr over) past guard = Stands.Passed over
start_stands c z a site x k second phase read (inl near) past guard =
    let covered : (p : Pledge) → k.pledge ≡ Some p → Covers c a p.abstain p.promise =
    λ p e. of_read site x.may k (Covers c a p.abstain p.promise) read (λ h. guard.1 k h p e) (λ silent. absurd (no_pledge_read site x.may k p silent e)) in
    Stands.Guarded (
      inr (covers_at_start c phase x.reading k.pledge a near past covered),
      λ w hw. subst (λ (y : KeptRecord). (p : Pledge) → y.pledge ≡ Some p → Covers c a p.abstain p.promise) (only_one k w hw) covered,
    )

-- the pledge of what is read is good, and names members
pledge_read :
    (c : Cluster) (m : ℕ) (x : MemberState) (k : KeptRecord) → MayRead (c.is_site m) x.may k → PledgesGood c.members x.second x.reading x.may
    → (pledge : Pledge) → k.pledge ≡ Some pledge → (p : Promise) → pledge.promise ≡ Some p → PromiseGood k.term x.reading pledge.abstain p
pledge_read c m x k read good pledge e p has =
    of_read (c.is_site m) x.may k (PromiseGood k.term x.reading pledge.abstain p) read (λ h. good.good k h pledge e p has)
    (λ silent. absurd (no_pledge_read (c.is_site m) x.may k pledge silent e))

pub named_read :
    (c : Cluster) (m : ℕ) (x : MemberState) (k : KeptRecord) → MayRead (c.is_site m) x.may k → PledgesGood c.members x.second x.reading x.may
    → (pledge : Pledge) → k.pledge ≡ Some pledge → IsWithin c.members pledge.bound pledge.promise
named_read c m x k read good pledge e =
    of_read (c.is_site m) x.may k (IsWithin c.members pledge.bound pledge.promise) read (λ h. good.named k h pledge e)
    (λ silent. absurd (no_pledge_read (c.is_site m) x.may k pledge silent e))

-- a start in version 1 is one after version 1
start_pledges :
    (c : Cluster) (m : ℕ) (x : MemberState) (k : KeptRecord) (second : Bool) → MayStart c m x k second → PledgesGood c.members x.second x.reading x.may
    → PledgesGood c.members second x.reading (k ∷ [])
start_pledges c m x k second may good = record {
  first = λ first w hw. subst (λ (y : KeptRecord). y.pledge ≡ None) (only_one k w hw)
      (of_read (c.is_site m) x.may k (k.pledge ≡ None) may.read (λ h. good.first (by_version x.second refl first) k h) (λ silent. silent.unpledged));
  good = λ w hw. subst (λ (y : KeptRecord). (pledge : Pledge) → y.pledge ≡ Some pledge → (p : Promise) → pledge.promise ≡ Some p → PromiseGood y.term x.reading pledge.abstain p) (only_one k w hw)
      (pledge_read c m x k may.read good);
  named = λ w hw. subst (λ (y : KeptRecord). (pledge : Pledge) → y.pledge ≡ Some pledge → IsWithin c.members pledge.bound pledge.promise) (only_one k w hw)
      (named_read c m x k may.read good);
}
  where
    by_version : (b : Bool) → x.second ≡ b → second ≡ false → x.second ≡ false
    by_version true was first = absurd (let now = may.stays was in cc)
    by_version false was first = was

pub starts : (c : Cluster) → HasClocks c → HasPhases c → (now : ℕ) (f : Facts) (m : ℕ) (x : MemberState) (k : KeptRecord) (second : Bool) (phase : ℕ) → Law c now f m x (Starts k second phase)
starts c clocks phases now f m x k second phase i g below may timely =
    facts_stay c now f m _ g (record {
      clock = i.clock;
      session = λ up. (timely.0, timely.2);
      may = record {
        some = (k, inl refl);
        own_rounds = λ r h e z hz. subst (λ (y : KeptRecord). r.term ≤ y.term) (only_one k z hz)
            (read_reaches c m x k r.term may.read (i.may.own_rounds r h e) (subst (λ (s : ℕ). c.is_site s ≡ true) e (g.rounds r h).site));
        own_releases = λ r h e z hz. subst (λ (y : KeptRecord). r.term ≤ y.term) (only_one k z hz)
            (read_reaches c m x k r.term may.read (i.may.own_releases r h e) (subst (λ (s : ℕ). c.is_site s ≡ true) e (g.releasers r h)));
      };
      term = λ up z hz. let e = only_one k z hz in le_of_eq (ap (λ (y : KeptRecord). y.term) (sym e));
      round = λ r e. absurd (none_is r e);
      lease = λ z hz l e. let own = ap (λ (y : KeptRecord). y.lease) (only_one k z hz) ∙ e in
          of_read (c.is_site m) x.may k (IsOverOrGood c f.leases f.releases m x.reading l) may.read (λ h. i.lease k h l own) (λ silent. absurd (none_is l (sym silent.free ∙ own)));
      promise = λ p e. promise_at_start c phase x.reading k.pledge k.term p (pledge_read c m x k may.read i.pledges) e;
      within = within_at_start c phase x.reading k.pledge (named_read c m x k may.read i.pledges);
      pledges = start_pledges c m x k second may i.pledges;
      answers = λ a h e. let b = i.answers a h e in record {
        past = b.past;
        stands = λ timed. let fact = g.answers a h in
            let near = near_or_passed c clocks phases now m x.reading x.at phase a f.rounds below g.within i.clock fact (g.rounds a.round fact.round) e timed timely.0 timely.1 in
            stands_by c f.releases a x.reading (Guard c a x) (Guard c a (starting c x k second phase)) (start_stands c f.releases a (c.is_site m) x k second phase may.read near b.past) (b.stands timed);
      };
    })

-- time
stands_later : (c : Cluster) (z : List Release) (a : Answer) (reading later : ℕ) (g : Type 0) → reading ≤ later → Stands c z a reading g → Stands c z a later g
stands_later c z a reading later g l (Stands.Passed h) = Stands.Passed (omega arith)
stands_later c z a reading later g l (Stands.Free f) = Stands.Free f
stands_later c z a reading later g l (Stands.Guarded h) = Stands.Guarded h

pub reads_clock : (c : Cluster) → HasClocks c → (now : ℕ) (f : Facts) (m : ℕ) (x : MemberState) → Law c now f m x ReadsClock
reads_clock c clocks now f m x i g below may timely =
    let within : now < length (c.clock m) = let l = g.within in let e = clocks.long m below in omega arith in
    let rise : x.reading ≤ reads c m now = let r = (clocks.rising m below).rises x.at now i.clock.past within in let e = i.clock.clock in omega arith in
    facts_stay c now f m _ g (record {
      clock = record { clock = refl; past = le_refl _ };
      session = λ up. let l = (i.session up).0 in let p = i.clock.past in (omega arith, (i.session up).1);
      may = i.may;
      term = i.term;
      round = i.round;
      lease = λ k h l e. ⊎_elim
          (λ (over : l.until ≤ x.reading). inl (omega arith))
          (λ (q : LeaseGood c f.leases f.releases m l). inr q)
          (i.lease k h l e);
      promise = λ p e. let q = i.promise p e in let l = q.rested in record { within = q.within; rested = omega arith };
      within = i.within;
      pledges = record {
        first = i.pledges.first;
        named = i.pledges.named;
        good = λ k h pledge e p has. let q = i.pledges.good k h pledge e p has in let l = q.rested in record { within = q.within; rested = omega arith };
      };
      answers = λ a h e. let b = i.answers a h e in let l = b.past in record { past = omega arith; stands = λ timed. stands_later c f.releases a x.reading (reads c m now) (Guard c a x) rise (b.stands timed) };
    })

pub passes : (c : Cluster) (w : WorldState) (time : ℕ) → Good c w → MayStep c w (Passes time) → Good c (happens c w (Passes time))
passes c w time g may =
    let on = may.later in
    record {
      each = λ k. let j = g.each k in record {
        clock = record { clock = j.clock.clock; past = let l = j.clock.past in omega arith };
        session = j.session;
        may = j.may;
        term = j.term;
        round = j.round;
        lease = j.lease;
        promise = j.promise;
        within = j.within;
        pledges = j.pledges;
        answers = j.answers;
      };
      facts = record {
        within = may.within;
        apart = g.facts.apart;
        one_round = g.facts.one_round;
        rounds = λ r h. let q = g.facts.rounds r h in record { below = q.below; site = q.site; clock = q.clock; past = let l = q.past in omega arith; opens = q.opens };
        answers = λ a h. let q = g.facts.answers a h in record { below = q.below; clock = q.clock; round = q.round; later = q.later; past = let l = q.past in omega arith };
        leases = λ r h. let q = g.facts.leases r h in record { round = q.round; past = let l = q.past in omega arith; opened = q.opened; closes = q.closes; majority = q.majority; answered = q.answered };
        releases = λ r h. let l = g.facts.releases r h in omega arith;
        releasers = g.facts.releasers;
      };
    }
