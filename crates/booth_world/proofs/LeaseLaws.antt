-- Gains and keeps keep what holds.
use Rattle.std.proofs.Common.{◌≡◌, ℕ, ◌≤◌, List, [], ◌∷◌, Bool, true, false, refl, sym, ap, ◌∙◌, subst, inl, inr, ⊎_elim, arith}
use Rattle.std.specs.Prelude.{Option, Some, None, if◌then◌else◌}
use native.Mathlib.Nat.{le_of_eq, le_refl}
use Rattle.booth_rec.specs.declared.record.Lease.{Lease}
use Rattle.booth_world.specs.Facts.{Has, Round, Answer, Gain, Facts}
use Rattle.booth_world.specs.States.{Pledge, Promise, IsWithin, KeptRecord, MemberState, Cluster}
use Rattle.booth_world.specs.Leases.{IsWon, MayLease, pledge_of, MayKeep}
use Rattle.booth_world.specs.Steps.{Gains, TriesKeep, HasKept}
use Rattle.booth_world.proofs.Lists.{new_or_old, none_is, some_same}
use Rattle.booth_world.proofs.Invariant.{Covers, StateGuard, Guard, Stands, PromiseGood, LeaseGood, IsOverOrGood, MemberGood, LeaseFact, FactsGood}
use Rattle.booth_world.proofs.Stays.{Stays, Law, facts_stay, not_up, stands_by}

-- gain
pub gains : (c : Cluster) (now : ℕ) (f : Facts) (m : ℕ) (x : MemberState) (r : Round) (ms : List ℕ) → Law c now f m x (Gains r ms)
gains c now f m x r ms i g below may timely =
    let new : Gain = record { round = r; at = now; answers = ms } in
    let more : (k : ℕ) (y : MemberState) → MemberGood c now f k y → MemberGood c now (record f { leases = new ∷ f.leases }) k y
    = λ k y j. record {
      clock = j.clock;
      session = j.session;
      may = j.may;
      term = j.term;
      round = j.round;
      promise = j.promise;
      within = j.within;
      pledges = j.pledges;
      answers = j.answers;
      lease = λ z hz l e. ⊎_elim
          (λ (over : l.until ≤ y.reading). inl over)
          (λ (q : LeaseGood c f.leases f.releases k l). inr (record { gained = q.gained; fact = inr q.fact; site = q.site; term = q.term; until = q.until; above = q.above }))
          (j.lease z hz l e);
    } in
    record {
      self = more m x i;
      others = λ k y other j. more k y j;
      facts = record {
        within = g.within;
        rounds = g.rounds;
        one_round = g.one_round;
        answers = g.answers;
        releases = g.releases;
        releasers = g.releasers;
        apart = g.apart;
        leases = new_or_old (LeaseFact c now f.rounds f.answers) new f.leases
            (record {
              round = (i.round r may.open_round).fact;
              past = le_refl _;
              opened = (g.rounds r (i.round r may.open_round).fact).past;
              closes = subst (λ (y : ℕ). now ≤ (c.phase y).closes) (sym (i.round r may.open_round).in_phase) (timely may.up);
              majority = may.majority;
              answered = λ k h. let a = may.answered k h in (a.0, a.1, a.2, a.3, (g.answers a.0 a.1).past);
            })
            g.leases;
      };
    }

-- keep
kept_lease :
    (c : Cluster) (now : ℕ) (f : Facts) (m : ℕ) (x : MemberState) (o : Option Lease) (l : Lease)
    → MemberGood c now f m x → MayLease c f x o → o ≡ Some l → IsOverOrGood c f.leases f.releases m x.reading l
kept_lease c now f m x None l i may e = absurd (none_is l e)
kept_lease c now f m x (Some q) l i may e = subst (λ (y : Lease). IsOverOrGood c f.leases f.releases m x.reading y) (some_same q l e) (⊎_elim
    (λ (old : (k : KeptRecord) × Has x.may k × (k.lease ≡ Some q)). i.lease old.0 old.1 q old.2)
    (λ (won : IsWon c f x q).
    let r = i.round won.gained.round won.open_round in
    inr (record {
      gained = won.gained;
      fact = won.fact;
      site = r.site;
      term = ap (λ (y : Lease). y.term) won.same;
      until = ap (λ (y : Lease). y.until) won.same;
      above = λ z h z_site. let n = r.above z h z_site in let t = ap (λ (y : Lease). y.term) won.same in omega arith;
    }))
    may)

-- the pledge that is kept is the member's
pub record IsPledgeOf (x : MemberState) (p : Pledge) : Type 0 where
  pub second : x.second ≡ true
  pub same : record { bound = x.bound; promise = x.promise; abstain = x.abstain } ≡ p

kept_pledge : (x : MemberState) (p : Pledge) → pledge_of x ≡ Some p → IsPledgeOf x p
kept_pledge x p e = by_version x.second refl e
  where
    by_version : (b : Bool) → x.second ≡ b → (if b then Some (record { bound = x.bound; promise = x.promise; abstain = x.abstain }) else None) ≡ Some p → IsPledgeOf x p
    by_version true second q = record { second = second; same = some_same _ p q }
    by_version false first q = absurd (none_is p q)

no_pledge : (x : MemberState) → x.second ≡ false → pledge_of x ≡ None
no_pledge x first = ap (λ (b : Bool). if b then Some (record { bound = x.bound; promise = x.promise; abstain = x.abstain }) else None) first

-- what covers the answer at its member covers it in the record that is kept
pledge_covers : (c : Cluster) (a : Answer) (x : MemberState) (p : Pledge) → x.up ≡ true → IsPledgeOf x p → StateGuard c a x → Covers c a p.abstain p.promise
pledge_covers c a x p up is guard = ⊎_elim
    (λ (down : x.up ≡ false). absurd (not_up (sym down ∙ up)))
    (λ (covers : Covers c a x.abstain x.promise). subst (λ (y : Pledge). Covers c a y.abstain y.promise) is.same covers)
    guard

-- what is kept beside what may be kept already
joins :
    (c : Cluster) (now : ℕ) (f : Facts) (m : ℕ) (x : MemberState) (k : KeptRecord) (rest : List KeptRecord)
    → MemberGood c now f m x → FactsGood c now f → MayKeep c f m x k → ((y : KeptRecord) → Has rest y → Has x.may y)
    → Stays c now f m f (record x { may = k ∷ rest })
joins c now f m x k rest i g may part =
    let first = i.may.some in
    let least : first.0.term ≤ k.term = let l = i.term may.up first.0 first.1 in let t = may.own_term in omega arith in
    facts_stay c now f m _ g (record {
      clock = i.clock;
      session = i.session;
      may = record {
        some = (k, inl refl);
        own_rounds = λ r h e. new_or_old (λ (z : KeptRecord). r.term ≤ z.term) k rest (let l = i.may.own_rounds r h e first.0 first.1 in omega arith) (λ y hy. i.may.own_rounds r h e y (part y hy));
        own_releases = λ r h e. new_or_old (λ (z : KeptRecord). r.term ≤ z.term) k rest (let l = i.may.own_releases r h e first.0 first.1 in omega arith) (λ y hy. i.may.own_releases r h e y (part y hy));
      };
      term = λ up. new_or_old (λ (z : KeptRecord). z.term ≤ x.term) k rest (le_of_eq may.own_term) (λ y hy. i.term up y (part y hy));
      round = i.round;
      lease = new_or_old (λ (z : KeptRecord). (l : Lease) → z.lease ≡ Some l → IsOverOrGood c f.leases f.releases m x.reading l) k rest (λ l e. kept_lease c now f m x k.lease l i may.lease e) (λ y hy. i.lease y (part y hy));
      promise = i.promise;
      within = i.within;
      pledges = record {
        first = λ first. new_or_old (λ (z : KeptRecord). z.pledge ≡ None) k rest (may.pledge ∙ no_pledge x first) (λ y hy. i.pledges.first first y (part y hy));
        good = new_or_old (λ (z : KeptRecord). (pledge : Pledge) → z.pledge ≡ Some pledge → (p : Promise) → pledge.promise ≡ Some p → PromiseGood z.term x.reading pledge.abstain p) k rest
            (λ pledge e p has. let is = kept_pledge x pledge (sym may.pledge ∙ e) in
            let good = subst (λ (y : Pledge). (p : Promise) → y.promise ≡ Some p → PromiseGood x.term x.reading y.abstain p) is.same i.promise p has in
            let t = may.own_term in
            let l = good.within in record { within = omega arith; rested = good.rested })
            (λ y hy. i.pledges.good y (part y hy));
        named = new_or_old (λ (z : KeptRecord). (pledge : Pledge) → z.pledge ≡ Some pledge → IsWithin c.members pledge.bound pledge.promise) k rest
            (λ pledge e. subst (λ (y : Pledge). IsWithin c.members y.bound y.promise) (kept_pledge x pledge (sym may.pledge ∙ e)).same (record { bound_below = i.within.bound_below; promise_below = i.within.promise_below }))
            (λ y hy. i.pledges.named y (part y hy));
      };
      answers = λ a h e. let b = i.answers a h e in record {
        past = b.past;
        stands = λ timed. stands_by c f.releases a x.reading (Guard c a x) (Guard c a (record x { may = k ∷ rest }))
            (λ q. Stands.Guarded (
              q.0,
              new_or_old (λ (z : KeptRecord). (p : Pledge) → z.pledge ≡ Some p → Covers c a p.abstain p.promise) k rest
                  (λ p has. pledge_covers c a x p may.up (kept_pledge x p (sym may.pledge ∙ has)) q.0)
                  (λ y hy. q.1 y (part y hy)),
            ))
            (b.stands timed);
      };
    })

pub tries : (c : Cluster) (now : ℕ) (f : Facts) (m : ℕ) (x : MemberState) (k : KeptRecord) → Law c now f m x (TriesKeep k)
tries c now f m x k i g below may timely = joins c now f m x k x.may i g may (λ y h. h)

pub keeps : (c : Cluster) (now : ℕ) (f : Facts) (m : ℕ) (x : MemberState) (k : KeptRecord) → Law c now f m x (HasKept k)
keeps c now f m x k i g below may timely = joins c now f m x k [] i g may (λ y n. absurd n)
