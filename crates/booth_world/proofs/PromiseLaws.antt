-- Promises and answers keep what holds.
use Rattle.std.proofs.Common.{◌≡◌, ◌≢◌, ◌⊎◌, ℕ, ◌+◌, ◌<◌, ◌≤◌, List, Bool, true, false, refl, sym, ap, ◌∙◌, subst, inl, inr, ⊎_elim, arith}
use Rattle.std.specs.Prelude.{Option, Some, None, if◌then◌else◌, ◌==◌, ◌&&◌, nat_eq}
use Rattle.std.specs.Option.{ForSome}
use Rattle.std.proofs.lemmas.Bool.Decides.{nat_tests}
use native.Mathlib.Nat.{le_of_eq, le_refl}
use native.Mathlib.Decide.{ℕ_discrete}
use Rattle.booth_world.specs.Facts.{Has, Round, Answer, Release, Facts}
use Rattle.booth_world.specs.States.{Pledge, Promise, MemberState, Cluster, HasClocks, HasPhases, promise_time, lasts_in}
use Rattle.booth_world.specs.Rounds.{MayPromise, MayAddAnswer, round_left, new_promise, new_answer}
use Rattle.booth_world.specs.Steps.{Promises, Answers, member_after}
use Rattle.booth_world.proofs.Lists.{new_or_old, none_is, some_same}
use Rattle.booth_world.proofs.Invariant.{InTime, Freed, Covers, StateGuard, RecordsCover, Guard, Stands, PromiseGood, PledgesGood, MemberGood, AnswerGood, AnswerFact, Apart, FactsGood}
use Rattle.booth_world.proofs.Phases.{near_or_passed}
use Rattle.booth_world.proofs.Stays.{Law, facts_stay, not_up, stands_by, stands_beside}

pub round_kept : (m s t : ℕ) (x : MemberState) (r : Round) → round_left m x s t ≡ Some r → (x.round ≡ Some r) × (x.term ≡ t)
round_kept m s t x r e = go (s == m) (nat_eq x.term t) refl e
  where
    go : (a b : Bool) → nat_eq x.term t ≡ b → (if a && b then x.round else None) ≡ Some r → (x.round ≡ Some r) × (x.term ≡ t)
    go true true q e = (e, grind (arith, nat_tests))
    go true false q e = absurd (none_is r e)
    go false b q e = absurd (none_is r e)

-- a promise is to the site, or over
to_or_over : (o : Option Promise) (s reading : ℕ) (p : Promise) → o ≡ Some p
    → ForSome o (λ promise. promise.to ≢ s → promise.until ≤ reading) → (p.to ≡ s) ⊎ (p.until ≤ reading)
to_or_over o s reading p e free = by_site (ℕ_discrete p.to s)
  where
    by_site : Dec (p.to ≡ s) → (p.to ≡ s) ⊎ (p.until ≤ reading)
    by_site (yes same) = inl same
    by_site (no other) = inr (free p e other)

-- a member in its session, and its answer that was in time
near_to :
    (c : Cluster) → HasClocks c → HasPhases c → (now : ℕ) (f : Facts) (m : ℕ) (x : MemberState) (a : Answer)
    → MemberGood c now f m x → FactsGood c now f → m < c.members → x.up ≡ true → now ≤ (c.phase x.phase).closes
    → Has f.answers a → a.member ≡ m → InTime c a
    → (lasts_in c a.round.phase ≤ promise_time c x.phase) ⊎ (a.reading + lasts_in c a.round.phase ≤ x.reading)
near_to c clocks phases now f m x a i g below up timely h e timed =
    let fact = g.answers a h in
    near_or_passed c clocks phases now m x.reading x.at x.phase a f.rounds below g.within i.clock fact (g.rounds a.round fact.round) e timed
    (i.session up).0 timely

-- promise
promise_stands :
    (c : Cluster) (z : List Release) (a : Answer) (x : MemberState) (m s t : ℕ)
    → x.term ≤ t → MayPromise c x s t → (lasts_in c a.round.phase ≤ promise_time c x.phase) ⊎ (a.reading + lasts_in c a.round.phase ≤ x.reading)
    → ((p : Promise) → x.promise ≡ Some p → PromiseGood x.term x.reading x.abstain p) → a.reading ≤ x.reading
    → StateGuard c a x → Stands c z a x.reading (StateGuard c a (member_after c 0 m x (Promises s t)))
promise_stands c z a x m s t rise may (inr over) good past guard = Stands.Passed over
promise_stands c z a x m s t rise may (inl near) good past (inl down) = Stands.Guarded (inl down)
promise_stands c z a x m s t rise may (inl near) good past (inr (Covers.Abstains h)) = let l = may.rested in Stands.Passed (omega arith)
promise_stands c z a x m s t rise may (inl near) good past (inr (Covers.Promised p e to term until)) =
    let q = (good p e).within in
    ⊎_elim
    (λ (same : p.to ≡ s). Stands.Guarded (inr (Covers.Promised (new_promise c x s t) refl (sym same ∙ to) (omega arith) (omega arith))))
    (λ (over : p.until ≤ x.reading). Stands.Passed (omega arith))
    (to_or_over x.promise s x.reading p e may.unpromised)

pub promises : (c : Cluster) → HasClocks c → HasPhases c → (now : ℕ) (f : Facts) (m : ℕ) (x : MemberState) (s t : ℕ) → Law c now f m x (Promises s t)
promises c clocks phases now f m x s t i g below may timely =
    let rise : x.term ≤ t = ⊎_elim (λ (l : x.term < t). omega arith) (λ (p : (x.term ≡ t) × ForSome x.bound (λ bound. bound ≡ s)). omega (arith, p.0)) may.unbound in
    facts_stay c now f m _ g (record {
      clock = i.clock;
      session = i.session;
      may = i.may;
      term = λ up k h. let l = i.term up k h in omega arith;
      round = λ r e. let p = round_kept m s t x r e in let q = i.round r p.0 in record { site = q.site; same = q.same ∙ p.1; in_phase = q.in_phase; fact = q.fact; above = q.above; last = λ z h e t. q.last z h e t };
      lease = i.lease;
      promise = λ p e. let q = some_same _ p e in record { within = le_of_eq (ap (λ (y : Promise). y.term) (sym q)); rested = may.rested };
      within = record { bound_below = λ b e. subst (λ (b : ℕ). b < c.members) (some_same s b e) may.below; promise_below = λ p e. subst (λ (p : Promise). p.to < c.members) (some_same _ p e) may.below };
      pledges = i.pledges;
      answers = λ a h e. let b = i.answers a h e in record {
        past = b.past;
        stands = λ timed. stands_beside c f.releases a x.reading (StateGuard c a x) (StateGuard c a (member_after c 0 m x (Promises s t))) (RecordsCover c a x.may)
            (promise_stands c f.releases a x m s t rise may (near_to c clocks phases now f m x a i g below may.up (timely may.up) h e timed) i.promise b.past)
            (b.stands timed);
      };
    })

-- answer
pub answer_apart :
    (c : Cluster) (z : List Release) (b : Answer) (x : MemberState) (site : ℕ) (given : Promise)
    → x.up ≡ true → x.promise ≡ Some given → given.to ≡ site → b.round.site ≢ site
    → PromiseGood x.term x.reading x.abstain given
    → Stands c z b x.reading (StateGuard c b x)
    → (b.reading + lasts_in c b.round.phase ≤ x.reading) ⊎ Freed z b.round
answer_apart c z b x site given up e to other good (Stands.Passed h) = inl h
answer_apart c z b x site given up e to other good (Stands.Free f) = inr f
answer_apart c z b x site given up e to other good (Stands.Guarded (inl h)) = absurd (not_up (sym h ∙ up))
answer_apart c z b x site given up e to other good (Stands.Guarded (inr (Covers.Abstains h))) = let l = good.rested in inl (omega arith)
answer_apart c z b x site given up e to other good (Stands.Guarded (inr (Covers.Promised p q pto term until))) = absurd (other (sym pto ∙ ap (λ (y : Promise). y.to) (some_same p given (sym q ∙ e)) ∙ to))

-- each record of version 2 that may be kept covers the answer
records_cover :
    (c : Cluster) (f : Facts) (m : ℕ) (x : MemberState) (r : Round) (given : Promise) → lasts_in c r.phase ≤ promise_time c x.phase
    → PledgesGood c.members x.second x.reading x.may → MayAddAnswer c f x r given → RecordsCover c (new_answer m x r) x.may
records_cover c f m x r given near good may k h p e = by_version x.second refl
  where
    by_version : (b : Bool) → x.second ≡ b → Covers c (new_answer m x r) p.abstain p.promise
    by_version true second =
        let q = may.kept second k h in
        subst (λ (y : Pledge). Covers c (new_answer m x r) y.abstain y.promise) (some_same q.pledge p (sym q.second ∙ e))
        (Covers.Promised q.given q.stands q.to (le_of_eq (sym q.for_term)) (let l = q.long in omega arith))
    by_version false first = absurd (none_is p (sym (good.first first k h) ∙ e))

pub answers : (c : Cluster) → HasClocks c → HasPhases c → (now : ℕ) (f : Facts) (m : ℕ) (x : MemberState) (r : Round) (given : Promise) → Law c now f m x (Answers r given)
answers c clocks phases now f m x r given i g below may timely =
    let new : Answer = new_answer m x r in
    let fact : AnswerFact c now f.rounds new
    = record { below = below; clock = i.clock.clock; round = may.fact; later = may.later; past = i.clock.past } in
    let near : InTime c new → lasts_in c r.phase ≤ promise_time c x.phase
    = λ timed. ⊎_elim
    (λ (l : lasts_in c r.phase ≤ promise_time c x.phase). l)
    (λ (over : x.reading + lasts_in c r.phase ≤ x.reading). absurd (let some = phases.covered r.phase in omega arith))
    (near_or_passed c clocks phases now m x.reading x.at x.phase new f.rounds below g.within i.clock fact (g.rounds r may.fact) refl timed (i.session may.up).0 (timely may.up)) in
    let good = i.promise given may.stands in
    let here : AnswerGood c f.releases new x.reading (Guard c new x) = record {
      past = le_refl _;
      stands = λ timed. let lasting = near timed in
          let long = may.long in
          Stands.Guarded (inr (Covers.Promised given may.stands may.to (le_of_eq (sym may.for_term)) (omega arith)), records_cover c f m x r given lasting i.pledges may);
    } in
    let apart : (b : Answer) → Has f.answers b → b.member ≡ m → b.round.site ≢ r.site → InTime c b → (b.reading + lasts_in c b.round.phase ≤ x.reading) ⊎ Freed f.releases b.round
    = λ b h e other timed. answer_apart c f.releases b x r.site given may.up may.stands may.to other good
    (stands_by c f.releases b x.reading (Guard c b x) (StateGuard c b x) (λ q. Stands.Guarded q.0) ((i.answers b h e).stands timed)) in
    record {
      self = record {
        clock = i.clock;
        session = i.session;
        may = i.may;
        term = i.term;
        round = i.round;
        lease = i.lease;
        promise = i.promise;
        within = i.within;
        pledges = i.pledges;
        answers = new_or_old (λ (a : Answer). a.member ≡ m → AnswerGood c f.releases a x.reading (Guard c a x)) new f.answers (λ _. here) i.answers;
      };
      others = λ k y other j. record {
        clock = j.clock;
        session = j.session;
        may = j.may;
        term = j.term;
        round = j.round;
        lease = j.lease;
        promise = j.promise;
        within = j.within;
        pledges = j.pledges;
        answers = new_or_old (λ (a : Answer). a.member ≡ k → AnswerGood c f.releases a y.reading (Guard c a y)) new f.answers (λ e. absurd (other (sym e))) j.answers;
      };
      facts = record {
        within = g.within;
        rounds = g.rounds;
        one_round = g.one_round;
        answers = new_or_old (AnswerFact c now f.rounds) new f.answers
            fact
            g.answers;
        leases = λ l h. let q = g.leases l h in record {
          round = q.round;
          past = q.past;
          opened = q.opened;
          closes = q.closes;
          majority = q.majority;
          answered = λ k hk. let a = q.answered k hk in (a.0, inr a.1, a.2, a.3, a.4);
        };
        releases = g.releases;
        releasers = g.releasers;
        apart = λ a b ha hb. ⊎_elim
            (λ (ea : new ≡ a). subst (λ (y : Answer). y.member ≡ b.member → y.round.site ≢ b.round.site → InTime c y → InTime c b → Apart c f.releases y b) ea
            (λ (same : m ≡ b.member) (other : r.site ≢ b.round.site) (ta : InTime c new) (tb : InTime c b). ⊎_elim
            (λ (eb : new ≡ b). absurd (other (ap (λ (y : Answer). y.round.site) eb)))
            (λ (hb' : Has f.answers b). ⊎_elim (λ (p : b.reading + lasts_in c b.round.phase ≤ x.reading). Apart.After p) (λ (p : Freed f.releases b.round). Apart.Second p) (apart b hb' (sym same) (λ e. other (sym e)) tb))
            hb))
            (λ (ha' : Has f.answers a). ⊎_elim
            (λ (eb : new ≡ b). subst (λ (y : Answer). a.member ≡ y.member → a.round.site ≢ y.round.site → InTime c a → InTime c y → Apart c f.releases a y) eb
            (λ (same : a.member ≡ m) (other : a.round.site ≢ r.site) (ta : InTime c a) (tb : InTime c new). ⊎_elim (λ (p : a.reading + lasts_in c a.round.phase ≤ x.reading). Apart.Before p) (λ (p : Freed f.releases a.round). Apart.First p) (apart a ha' same other ta)))
            (λ (hb' : Has f.answers b). g.apart a b ha' hb')
            hb)
            ha;
      };
    }
