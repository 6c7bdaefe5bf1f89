-- Where all sessions are of version 2, a member that answered a round is of the round's term or a later one, and so is
-- each record that it may have kept; in the round's term both are bound to its site. So the answers of one member to
-- two sites have their terms in the order in which they were given.
use Rattle.std.proofs.Common.{◌≡◌, ◌≢◌, ◌⊎◌, ℕ, ◌+◌, ◌<◌, ◌≤◌, List, [], ◌∷◌, Bool, true, refl, sym, ap, ◌∙◌, subst, inl, inr, ⊎_elim, arith}
use Rattle.std.specs.Prelude.{Option, Some, None, if◌then◌else◌}
use Rattle.std.specs.Option.{ForSome}
use native.Mathlib.Nat.{le_of_eq}
use Rattle.booth_world.specs.Facts.{Has, Round, Answer, Release, Facts}
use Rattle.booth_world.specs.States.{Pledge, KeptRecord, MemberState, WorldState, opening, Cluster, HasClocks, HasPhases, lasts_in}
use Rattle.booth_world.specs.Rounds.{new_answer}
use Rattle.booth_world.specs.Leases.{pledge_of, MayKeep}
use Rattle.booth_world.specs.Lives.{pledge_at_start, GoesOn}
use Rattle.booth_world.specs.Steps.{MemberStep, WorldStep, Elects, Renews, Promises, Answers, Gains, TriesKeep, HasKept, Releases, Clears, Learns, Crashes, Starts, ReadsClock, MemberDoes, Passes, May, member_after, facts_after, MayStep, happens, IsRun, after_steps, StartsSecond, AreSecond}
use Rattle.booth_world.proofs.Lists.{put_all, new_or_old, none_is, some_same}
use Rattle.booth_world.proofs.Invariant.{InTime, Freed, StateGuard, Guard, Stands, MemberGood, Good}
use Rattle.booth_world.proofs.Stays.{only_one, not_up, stands_by}
use Rattle.booth_world.proofs.PromiseLaws.{answer_apart}
use Rattle.booth_world.proofs.ReleaseLaws.{freed_more}
use Rattle.booth_world.proofs.WorldGood.{step_good}

-- ---- what holds

-- a term is at least the round's, and in the round's term this one is bound to its site
pub record IsFirm (r : Round) (term : ℕ) (bound : Option ℕ) : Type 0 where
  pub least : r.term ≤ term
  pub same : r.term ≡ term → bound ≡ Some r.site

-- whom a record of version 2 names as bound
abbrev pub bound_kept : Option Pledge → Option ℕ
bound_kept None = None
bound_kept (Some pledge) = pledge.bound

-- a member keeps to its answers
pub record MemberFirm (answers : List Answer) (m : ℕ) (x : MemberState) : Type 0 where
  pub second : x.up ≡ true → x.second ≡ true
  pub state : (a : Answer) → Has answers a → a.member ≡ m → IsFirm a.round x.term x.bound
  pub records : (a : Answer) → Has answers a → a.member ≡ m → (k : KeptRecord) → Has x.may k
      → IsFirm a.round k.term (bound_kept k.pledge)

-- the first of two answers has the smaller term, and its promise is over by the second, or its round is freed
pub record IsEarlier (c : Cluster) (releases : List Release) (a b : Answer) : Type 0 where
  pub below : a.round.term < b.round.term
  pub over : InTime c a → (a.reading + lasts_in c a.round.phase ≤ b.reading) ⊎ Freed releases a.round

-- two answers of one member to two sites came one after the other
abbrev pub Ordered : Cluster → Facts → Type 0
Ordered c f = (a b : Answer) → Has f.answers a → Has f.answers b → a.member ≡ b.member → a.round.site ≢ b.round.site
    → IsEarlier c f.releases a b ⊎ IsEarlier c f.releases b a

pub record Firm (c : Cluster) (w : WorldState) : Type 0 where
  pub each : (m : ℕ) → MemberFirm w.facts.answers m (w.member m)
  pub ordered : Ordered c w.facts

-- ---- one member's step, where the answers are as they were

-- a bound that gave way to a site of the term was that site's
firm_bound : (r : Round) (term : ℕ) (bound : Option ℕ) (s : ℕ) → ForSome bound (λ b. b ≡ s) → IsFirm r term bound → IsFirm r term (Some s)
firm_bound r term bound s free firm = record { least = firm.least; same = λ e. ap (λ (y : ℕ). Some y) (sym (site_of bound free (firm.same e))) }
  where
    site_of : (o : Option ℕ) → ForSome o (λ b. b ≡ s) → o ≡ Some r.site → r.site ≡ s
    site_of None free e = absurd (none_is r.site e)
    site_of (Some b) free e = let q = some_same b r.site e in sym q ∙ free b refl

-- a term above is firm, whoever is bound
firm_above : (r : Round) (term later : ℕ) (bound o : Option ℕ) → IsFirm r term bound → term < later → IsFirm r later o
firm_above r term later bound o firm above = let l = firm.least in record { least = omega arith; same = λ e. absurd (omega (arith, e)) }

-- what a member keeps of its pledge has its bound
bound_of_pledge : (x : MemberState) → x.second ≡ true → bound_kept (pledge_of x) ≡ x.bound
bound_of_pledge x second = ap (λ (b : Bool). bound_kept (if b then Some (record { bound = x.bound; promise = x.promise; abstain = x.abstain }) else None)) second

firm_record : (c : Cluster) (f : Facts) (m : ℕ) (x : MemberState) (k : KeptRecord) (r : Round)
    → MayKeep c f m x k → x.second ≡ true → IsFirm r x.term x.bound → IsFirm r k.term (bound_kept k.pledge)
firm_record c f m x k r may second firm =
    let l = firm.least in
    let t = may.own_term in
    record { least = omega arith; same = λ e. ap bound_kept may.pledge ∙ (bound_of_pledge x second ∙ firm.same (e ∙ t)) }

-- at a start the member is bound as the record is
bound_at_start : (c : Cluster) (phase reading : ℕ) (o : Option Pledge) → (pledge_at_start c phase reading o).bound ≡ bound_kept o
bound_at_start c phase reading None = refl
bound_at_start c phase reading (Some pledge) = refl

-- what goes on is firm
firm_read : (r : Round) (may : List KeptRecord) (k : KeptRecord) → GoesOn may k
    → ((y : KeptRecord) → Has may y → IsFirm r y.term (bound_kept y.pledge)) → IsFirm r k.term (bound_kept k.pledge)
firm_read r may k goes firm = ⊎_elim
    (λ (kept : Has may k). firm k kept)
    (λ (y : (z : KeptRecord) × Has may z × (z.term < k.term)).
    firm_above r (y.0).term k.term (bound_kept (y.0).pledge) (bound_kept k.pledge) (firm y.0 y.1) y.2)
    goes

joins_firm : (c : Cluster) (f : Facts) (m : ℕ) (x : MemberState) (k : KeptRecord) (rest : List KeptRecord)
    → MemberFirm f.answers m x → MayKeep c f m x k → ((y : KeptRecord) → Has rest y → Has x.may y)
    → MemberFirm f.answers m (record x { may = k ∷ rest })
joins_firm c f m x k rest i may part = record {
  second = i.second;
  state = i.state;
  records = λ a h e. new_or_old (λ (z : KeptRecord). IsFirm a.round z.term (bound_kept z.pledge)) k rest
      (firm_record c f m x k a.round may (i.second may.up) (i.state a h e))
      (λ y hy. i.records a h e y (part y hy));
}

member_firm :
    (c : Cluster) (now : ℕ) (f : Facts) (m : ℕ) (x : MemberState) (step : MemberStep)
    → MemberFirm f.answers m x → May c f m x step → StartsSecond (MemberDoes m step) → c.goes_on ≡ true
    → MemberFirm f.answers m (member_after c now m x step)
member_firm c now f m x Elects i may second on =
    record { second = i.second; records = i.records; state = λ a h e. firm_bound a.round x.term x.bound m may.unbound (i.state a h e) }
member_firm c now f m x (Renews before) i may second on = record { second = i.second; state = i.state; records = i.records }
member_firm c now f m x (Promises s t) i may second on = record {
  second = i.second;
  records = i.records;
  state = λ a h e. ⊎_elim
      (λ (above : x.term < t). firm_above a.round x.term t x.bound (Some s) (i.state a h e) above)
      (λ (own : (x.term ≡ t) × ForSome x.bound (λ bound. bound ≡ s)). subst (λ (y : ℕ). IsFirm a.round y (Some s)) own.0 (firm_bound a.round x.term x.bound s own.1 (i.state a h e)))
      may.unbound;
}
member_firm c now f m x (Answers r given) i may second on = i
member_firm c now f m x (Gains r places) i may second on = i
member_firm c now f m x (TriesKeep k) i may second on = joins_firm c f m x k x.may i may (λ y h. h)
member_firm c now f m x (HasKept k) i may second on = joins_firm c f m x k [] i may (λ y n. absurd n)
member_firm c now f m x Releases i may second on = record { second = i.second; state = i.state; records = i.records }
member_firm c now f m x (Clears r) i may second on = record { second = i.second; state = i.state; records = i.records }
member_firm c now f m x (Learns t) i may second on =
    record { second = i.second; records = i.records; state = λ a h e. firm_above a.round x.term t x.bound None (i.state a h e) may.above }
member_firm c now f m x Crashes i may second on = record { second = λ up. absurd (not_up up); state = i.state; records = i.records }
member_firm c now f m x (Starts k is_second phase) i may second on = record {
  second = λ up. second;
  state = λ a h e. subst (λ (y : Option ℕ). IsFirm a.round k.term y) (sym (bound_at_start c phase x.reading k.pledge)) (firm_read a.round x.may k (may.on on) (i.records a h e));
  records = λ a h e z hz. subst (λ (y : KeptRecord). IsFirm a.round y.term (bound_kept y.pledge)) (only_one k z hz) (firm_read a.round x.may k (may.on on) (i.records a h e));
}
member_firm c now f m x ReadsClock i may second on = record { second = i.second; state = i.state; records = i.records }

-- ---- the facts of a step

-- the answers are as they were, and the member's own new one is firm
pub answers_firm :
    (c : Cluster) (now : ℕ) (f : Facts) (m : ℕ) (x : MemberState) (step : MemberStep)
    → MemberFirm f.answers m x → May c f m x step → StartsSecond (MemberDoes m step) → c.goes_on ≡ true
    → MemberFirm (facts_after now m x step f).answers m (member_after c now m x step)
answers_firm c now f m x (Answers r given) i may second on = record {
  second = i.second;
  state = new_or_old (λ (a : Answer). a.member ≡ m → IsFirm a.round x.term x.bound) (new_answer m x r) f.answers
      (λ e. record { least = le_of_eq (sym may.own_term); same = λ same. may.bound }) i.state;
  records = new_or_old (λ (a : Answer). a.member ≡ m → (k : KeptRecord) → Has x.may k → IsFirm a.round k.term (bound_kept k.pledge)) (new_answer m x r) f.answers
      (λ e k hk. let q = may.kept (i.second may.up) k hk in record { least = le_of_eq (sym q.own_term); same = λ same. ap bound_kept q.second ∙ q.bound }) i.records;
}
answers_firm c now f m x Elects i may second on = member_firm c now f m x Elects i may second on
answers_firm c now f m x (Renews before) i may second on = member_firm c now f m x (Renews before) i may second on
answers_firm c now f m x (Promises s t) i may second on = member_firm c now f m x (Promises s t) i may second on
answers_firm c now f m x (Gains r places) i may second on = member_firm c now f m x (Gains r places) i may second on
answers_firm c now f m x (TriesKeep k) i may second on = member_firm c now f m x (TriesKeep k) i may second on
answers_firm c now f m x (HasKept k) i may second on = member_firm c now f m x (HasKept k) i may second on
answers_firm c now f m x Releases i may second on = member_firm c now f m x Releases i may second on
answers_firm c now f m x (Clears r) i may second on = member_firm c now f m x (Clears r) i may second on
answers_firm c now f m x (Learns t) i may second on = member_firm c now f m x (Learns t) i may second on
answers_firm c now f m x Crashes i may second on = member_firm c now f m x Crashes i may second on
answers_firm c now f m x (Starts k is_second phase) i may second on = member_firm c now f m x (Starts k is_second phase) i may second on
answers_firm c now f m x ReadsClock i may second on = member_firm c now f m x ReadsClock i may second on

-- another member's answers are as they were
pub others_firm : (now : ℕ) (f : Facts) (m : ℕ) (x : MemberState) (step : MemberStep) (k : ℕ) (y : MemberState) → k ≢ m
    → MemberFirm f.answers k y → MemberFirm (facts_after now m x step f).answers k y
others_firm now f m x (Answers r given) k y other j = record {
  second = j.second;
  state = new_or_old (λ (a : Answer). a.member ≡ k → IsFirm a.round y.term y.bound) (new_answer m x r) f.answers (λ e. absurd (other (sym e))) j.state;
  records = new_or_old (λ (a : Answer). a.member ≡ k → (z : KeptRecord) → Has y.may z → IsFirm a.round z.term (bound_kept z.pledge)) (new_answer m x r) f.answers (λ e. absurd (other (sym e))) j.records;
}
others_firm now f m x Elects k y other j = j
others_firm now f m x (Renews before) k y other j = j
others_firm now f m x (Promises s t) k y other j = j
others_firm now f m x (Gains r places) k y other j = j
others_firm now f m x (TriesKeep z) k y other j = j
others_firm now f m x (HasKept z) k y other j = j
others_firm now f m x Releases k y other j = j
others_firm now f m x (Clears r) k y other j = j
others_firm now f m x (Learns t) k y other j = j
others_firm now f m x Crashes k y other j = j
others_firm now f m x (Starts z second phase) k y other j = j
others_firm now f m x ReadsClock k y other j = j

earlier_more : (c : Cluster) (z : List Release) (n : Release) (a b : Answer) → IsEarlier c z a b → IsEarlier c (n ∷ z) a b
earlier_more c z n a b e = record { below = e.below; over = λ timed. ⊎_elim (λ (l : a.reading + lasts_in c a.round.phase ≤ b.reading). inl l) (λ (f : Freed z a.round). inr (freed_more z n a.round f)) (e.over timed) }

step_ordered :
    (c : Cluster) (now : ℕ) (f : Facts) (m : ℕ) (x : MemberState) (step : MemberStep)
    → MemberGood c now f m x → MemberFirm f.answers m x → May c f m x step → Ordered c f → Ordered c (facts_after now m x step f)
step_ordered c now f m x (Answers r given) good i may o =
    let new : Answer = new_answer m x r in
    let first : (b : Answer) → Has f.answers b → b.member ≡ m → b.round.site ≢ r.site → IsEarlier c f.releases b new
    = λ b h e other.
    let firm = i.state b h e in
    let l = firm.least in
    let own = may.own_term in
    let differ : b.round.term ≢ x.term = λ same. other (some_same b.round.site r.site (sym (firm.same same) ∙ may.bound)) in
    record {
      below = grind (arith, l, own, differ);
      over = λ timed. answer_apart c f.releases b x r.site given may.up may.stands may.to other (good.promise given may.stands)
          (stands_by c f.releases b x.reading (Guard c b x) (StateGuard c b x) (λ q. Stands.Guarded q.0) ((good.answers b h e).stands timed));
    } in
    λ a b ha hb. ⊎_elim
    (λ (ea : new ≡ a). subst (λ (y : Answer). y.member ≡ b.member → y.round.site ≢ b.round.site → IsEarlier c f.releases y b ⊎ IsEarlier c f.releases b y) ea
    (λ (same : m ≡ b.member) (other : r.site ≢ b.round.site). ⊎_elim
    (λ (eb : new ≡ b). absurd (other (ap (λ (y : Answer). y.round.site) eb)))
    (λ (hb' : Has f.answers b). inr (first b hb' (sym same) (λ e. other (sym e))))
    hb))
    (λ (ha' : Has f.answers a). ⊎_elim
    (λ (eb : new ≡ b). subst (λ (y : Answer). a.member ≡ y.member → a.round.site ≢ y.round.site → IsEarlier c f.releases a y ⊎ IsEarlier c f.releases y a) eb
    (λ (same : a.member ≡ m) (other : a.round.site ≢ r.site). inl (first a ha' same other)))
    (λ (hb' : Has f.answers b). o a b ha' hb')
    hb)
    ha
step_ordered c now f m x Releases good i may o =
    let new : Release = record { site = m; term = x.term; at = now } in
    λ a b ha hb same other. ⊎_elim
    (λ (e : IsEarlier c f.releases a b). inl (earlier_more c f.releases new a b e))
    (λ (e : IsEarlier c f.releases b a). inr (earlier_more c f.releases new b a e))
    (o a b ha hb same other)
step_ordered c now f m x Elects good i may o = o
step_ordered c now f m x (Renews before) good i may o = o
step_ordered c now f m x (Promises s t) good i may o = o
step_ordered c now f m x (Gains r places) good i may o = o
step_ordered c now f m x (TriesKeep k) good i may o = o
step_ordered c now f m x (HasKept k) good i may o = o
step_ordered c now f m x (Clears r) good i may o = o
step_ordered c now f m x (Learns t) good i may o = o
step_ordered c now f m x Crashes good i may o = o
step_ordered c now f m x (Starts k second phase) good i may o = o
step_ordered c now f m x ReadsClock good i may o = o

-- ---- runs

pub step_firm : (c : Cluster) (w : WorldState) (step : WorldStep) → Good c w → Firm c w → MayStep c w step → StartsSecond step → c.goes_on ≡ true → Firm c (happens c w step)
step_firm c w (MemberDoes m step) good firm may second on =
    let x = w.member m in
    record {
      each = put_all (MemberFirm (facts_after w.now m x step w.facts).answers) w.member m (member_after c w.now m x step)
          (answers_firm c w.now w.facts m x step (firm.each m) may.1 second on)
          (λ k other. others_firm w.now w.facts m x step k (w.member k) other (firm.each k));
      ordered = step_ordered c w.now w.facts m x step (good.each m) (firm.each m) may.1 firm.ordered;
    }
step_firm c w (Passes time) good firm may second on = record { each = firm.each; ordered = firm.ordered }

pub opening_firm : (c : Cluster) → Firm c (opening c)
opening_firm c = record {
  each = λ m. record { second = λ up. absurd (not_up up); state = λ a n. absurd n; records = λ a n. absurd n };
  ordered = λ a b n. absurd n;
}

pub run_firm : (c : Cluster) → HasClocks c → HasPhases c → (w : WorldState) (steps : List WorldStep) → Good c w → Firm c w → IsRun c w steps → AreSecond steps → c.goes_on ≡ true → Firm c (after_steps c w steps)
run_firm c clocks phases w [] good firm run second on = firm
run_firm c clocks phases w (step ∷ steps) good firm run second on =
    run_firm c clocks phases (happens c w step) steps (step_good c clocks phases w step good run.0) (step_firm c w step good firm run.0 second.0 on) run.1 second.1 on
