-- In a world of version 2 the later of two holders has the later term.
use Rattle.std.proofs.Common.{zero, suc, refl, ◌≡◌, ◌≢◌, ℕ, ◌+◌, ◌<◌, ◌≤◌, List, ◌++◌, true, sym, ap, ◌∙◌, subst, ⊎_elim, arith}
use Rattle.std.specs.Prelude.{Option, Some, IsSomeAnd}
use Rattle.booth_rec.specs.declared.record.Lease.{Lease}
use native.Mathlib.Nat.{le_refl}
use native.Mathlib.Decide.{dec_le}
use Rattle.booth_world.specs.Facts.{Round}
use Rattle.booth_world.specs.States.{KeptRecord, WorldState, opening, Cluster, HasClocks, IsTimed, HasPhases, IsNear, IsWindow, reads, lasts_in}
use Rattle.booth_world.specs.Steps.{WorldStep, IsRun, AreSecond, after_steps}
use Rattle.booth_world.specs.Held.{IsHeldBy, IsOfPhase}
use Rattle.booth_world.proofs.Lists.{some_same}
use Rattle.booth_world.proofs.Invariant.{InTime, Freed, LeaseGood, RoundFact, LeaseFact, Good}
use Rattle.booth_world.proofs.Majority.{near_share}
use Rattle.booth_world.proofs.Later.{Later, run_later, run_first, run_second, after-append}
use Rattle.booth_world.proofs.Holders.{times_apart, far_phases, lease_in_force, force_good}
use Rattle.booth_world.proofs.WorldGood.{opening_good, run_good}
use Rattle.booth_world.proofs.Firm.{IsEarlier, Firm, opening_firm, run_firm}

-- the lease that holds early, and the one that holds late, with the answers of a member of both majorities
later_term :
    (c : Cluster) → HasClocks c → IsTimed c → HasPhases c → (w z : WorldState) (s t : ℕ) → Good c w → Good c z → Firm c z → Later w z → s ≢ t
    → t < c.members → (l m : Lease) (lg : LeaseGood c w.facts.leases w.facts.releases s l) (mg : LeaseGood c z.facts.leases z.facts.releases t m)
    → reads c t z.now < m.until → IsNear lg.gained.round.phase mg.gained.round.phase
    → l.term < m.term
later_term c clocks timed phases w z s t gw gz firm later other tm l m lg mg m_force near =
    let lw = gw.facts.leases lg.gained lg.fact in
    let lz = gz.facts.leases lg.gained (later.leases lg.gained lg.fact) in
    let mz = gz.facts.leases mg.gained mg.fact in
    let both = near_share c phases.seats lg.gained.round.phase mg.gained.round.phase lg.gained.answers mg.gained.answers near lz.majority mz.majority in
    let p = lz.answered both.0 both.2 in
    let q = mz.answered both.0 both.3 in
    let a = p.0 in
    let b = q.0 in
    let member : a.member ≡ b.member = p.2 ∙ sym q.2 in
    let a_site : a.round.site ≡ s = ap (λ (y : Round). y.site) p.3 ∙ lg.site in
    let b_site : b.round.site ≡ t = ap (λ (y : Round). y.site) q.3 ∙ mg.site in
    let a_term : a.round.term ≡ l.term = ap (λ (y : Round). y.term) p.3 ∙ sym lg.term in
    let b_term : b.round.term ≡ m.term = ap (λ (y : Round). y.term) q.3 ∙ sym mg.term in
    let b_timed : InTime c b = (subst (λ (y : Round). b.at ≤ (c.phase y.phase).closes) (sym q.3) (let l = mz.closes in let on = q.4 in omega arith), timed) in
    ⊎_elim
    (λ (first : IsEarlier c z.facts.releases a b). let n = first.below in omega (arith, a_term, b_term))
    (λ (second : IsEarlier c z.facts.releases b a). absurd (⊎_elim
    (λ (spent : b.reading + lasts_in c b.round.phase ≤ a.reading).
    let early = lw.past in
    let a_early : a.at ≤ w.now = let x = p.4 in omega arith in
    let n = times_apart c clocks timed phases z.now z.now w.now t mg.gained.round z.facts.rounds b a m gz.facts.within gz.facts.within tm mg.site
    (gz.facts.rounds mg.gained.round mz.round) mg.until m_force (gz.facts.answers b q.1) (gz.facts.answers a p.1) q.3 (sym member) a_early spent in
    let on = later.now in omega arith)
    (λ (f : Freed z.facts.releases b.round). let n = mg.above f.release f.fact (f.site ∙ b_site) in let x = f.term in omega (arith, b_term))
    (second.over b_timed)))
    (firm.ordered a b p.1 q.1 member (λ e. other (sym a_site ∙ (e ∙ b_site))))

-- the lease of a record in force is
force_of : (o : Option Lease) (reading : ℕ) (l : Lease) → IsSomeAnd o (λ l. reading < l.until) → o ≡ Some l → reading < l.until
force_of o reading l force is =
    let q = lease_in_force o reading force in
    subst (λ (y : Lease). reading < y.until) (some_same q.0 l (sym q.1 ∙ is)) q.2

-- a good lease, as one of a phase
abbrev of_phase : (c : Cluster) (w : WorldState) (s : ℕ) (l : Lease) (phase : ℕ) → IsOfPhase c w s l phase
    → LeaseGood c w.facts.leases w.facts.releases s l → LeaseGood c w.facts.leases w.facts.releases s l
of_phase c w s l phase is good =
    record { gained = is.gained; fact = is.fact; site = is.site; term = is.term; until = is.until; above = good.above }

pub runs_rise :
    (c : Cluster) → HasClocks c → IsTimed c → HasPhases c → c.goes_on ≡ true → (early late : List WorldStep) → IsRun c (opening c) (early ++ late) → AreSecond (early ++ late)
    → (s t : ℕ) → s ≢ t → (k n : KeptRecord) (first second : Lease) → k.lease ≡ Some first → n.lease ≡ Some second
    → IsHeldBy c (after_steps c (opening c) early) s k → IsHeldBy c (after_steps c (opening c) (early ++ late)) t n
    → (phase other : ℕ) → IsNear phase other
    → IsOfPhase c (after_steps c (opening c) early) s first phase → IsOfPhase c (after_steps c (opening c) (early ++ late)) t second other
    → first.term < second.term
runs_rise c clocks timed phases on_all early late run are s t other k n l m kl nl hs ht phase beside near in_first in_second =
    let w = after_steps c (opening c) early in
    let z = after_steps c (opening c) (early ++ late) in
    let first = run_first c (opening c) early late run in
    let second = run_second c (opening c) early late run in
    let gw = run_good c clocks phases (opening c) early (opening_good c clocks) first in
    let gz = run_good c clocks phases (opening c) (early ++ late) (opening_good c clocks) run in
    let on : Later w z = subst (λ (y : WorldState). Later w y) (sym (after-append c (opening c) early late)) (run_later c w late second) in
    let held_early : reads c s w.now < l.until = force_of k.lease (reads c s w.now) l hs.in_force kl in
    let held_late : reads c t z.now < m.until = force_of n.lease (reads c t z.now) m ht.in_force nl in
    later_term c clocks timed phases w z s t gw gz (run_firm c clocks phases (opening c) (early ++ late) (opening_good c clocks) (opening_firm c) run are on_all) on other ht.below l m
    (of_phase c w s l phase in_first (force_good c clocks w s gw hs.below k hs.may l kl held_early))
    (of_phase c z t m beside in_second (force_good c clocks z t gz ht.below n ht.may m nl held_late))
    held_late (subst (λ (y : ℕ). IsNear y in_second.gained.round.phase) (sym in_first.in_phase) (subst (λ (y : ℕ). IsNear phase y) (sym in_second.in_phase) near))

-- ---- by times alone

-- what opens later opens later
opens_rise : (c : Cluster) → HasPhases c → (p q : ℕ) → p ≤ q → (c.phase p).opens ≤ (c.phase q).opens
opens_rise c phases p zero l = subst (λ (x : ℕ). (c.phase x).opens ≤ (c.phase 0).opens) (sym (zero_of p l)) (le_refl _)
  where
    zero_of : (n : ℕ) → n ≤ 0 → n ≡ 0
    zero_of n l = omega (arith, l)
opens_rise c phases p (suc q) l = by_order (dec_le p q) (λ (k : p ≤ q). opens_rise c phases p q k)
  where
    by_order : Dec (p ≤ q) → (p ≤ q → (c.phase p).opens ≤ (c.phase q).opens) → (c.phase p).opens ≤ (c.phase (suc q)).opens
    by_order (yes k) before =
        let one = before k in
        let next = phases.in_order q in
        let same : q + 1 ≡ suc q = omega arith in
        subst (λ (x : ℕ). (c.phase p).opens ≤ (c.phase x).opens) same (omega (arith, one, next))
    by_order (no n) before =
        let same : p ≡ suc q = omega (arith, l, n) in
        subst (λ (x : ℕ). (c.phase p).opens ≤ (c.phase x).opens) same (le_refl _)

-- a lease that is in force at a time between the opening of a phase and that of the next is of that phase, or of the one
-- before it
in_window : (c : Cluster) → HasClocks c → IsTimed c → HasPhases c → (w : WorldState) (s : ℕ) (l : Lease) (p : ℕ) → Good c w → s < c.members
    → (lg : LeaseGood c w.facts.leases w.facts.releases s l) → reads c s w.now < l.until
    → (c.phase p).opens ≤ w.now → w.now < (c.phase (p + 1)).opens → (lg.gained.round.phase ≤ p) × (p ≤ lg.gained.round.phase + 1)
in_window c clocks timed phases w s l p g below lg force from to = (by_late (dec_le lg.gained.round.phase p), by_early (dec_le p (lg.gained.round.phase + 1)))
  where
    fact : LeaseFact c w.now w.facts.rounds w.facts.answers lg.gained
    fact = g.facts.leases lg.gained lg.fact

    opened : RoundFact c w.now lg.gained.round
    opened = g.facts.rounds lg.gained.round fact.round

    by_late : Dec (lg.gained.round.phase ≤ p) → lg.gained.round.phase ≤ p
    by_late (yes h) = h
    by_late (no n) =
        let rise = opens_rise c phases (p + 1) lg.gained.round.phase (omega (arith, n)) in
        let first = opened.opens in
        let past = opened.past in
        absurd (omega (arith, rise, first, past, to))

    by_early : Dec (p ≤ lg.gained.round.phase + 1) → p ≤ lg.gained.round.phase + 1
    by_early (yes h) = h
    by_early (no n) =
        let apart = far_phases c clocks timed phases w.now w.now s lg.gained.round.phase p lg.gained w.facts.rounds w.facts.answers l g.facts.within below lg.site opened fact
        lg.until force refl (omega (arith, n)) from in
        absurd (omega (arith, apart))

pub runs_rise_within :
    (c : Cluster) → HasClocks c → IsTimed c → HasPhases c → c.goes_on ≡ true → (early late : List WorldStep) → IsRun c (opening c) (early ++ late) → AreSecond (early ++ late)
    → (s t : ℕ) → s ≢ t → (k n : KeptRecord) (first second : Lease) → k.lease ≡ Some first → n.lease ≡ Some second
    → (p : ℕ) → IsWindow c p (after_steps c (opening c) early).now (after_steps c (opening c) (early ++ late)).now
    → IsHeldBy c (after_steps c (opening c) early) s k → IsHeldBy c (after_steps c (opening c) (early ++ late)) t n
    → first.term < second.term
runs_rise_within c clocks timed phases on_all early late run are s t other k n l m kl nl p window hs ht =
    let w = after_steps c (opening c) early in
    let z = after_steps c (opening c) (early ++ late) in
    let first = run_first c (opening c) early late run in
    let second = run_second c (opening c) early late run in
    let gw = run_good c clocks phases (opening c) early (opening_good c clocks) first in
    let gz = run_good c clocks phases (opening c) (early ++ late) (opening_good c clocks) run in
    let on : Later w z = subst (λ (y : WorldState). Later w y) (sym (after-append c (opening c) early late)) (run_later c w late second) in
    let held_early : reads c s w.now < l.until = force_of k.lease (reads c s w.now) l hs.in_force kl in
    let held_late : reads c t z.now < m.until = force_of n.lease (reads c t z.now) m ht.in_force nl in
    let lg = force_good c clocks w s gw hs.below k hs.may l kl held_early in
    let mg = force_good c clocks z t gz ht.below n ht.may m nl held_late in
    let on_now = on.now in
    let a = in_window c clocks timed phases w s l p gw hs.below lg held_early window.0 (let e = window.1 in omega (arith, e, on_now)) in
    let b = in_window c clocks timed phases z t m p gz ht.below mg held_late (let e = window.0 in omega (arith, e, on_now)) window.1 in
    later_term c clocks timed phases w z s t gw gz (run_firm c clocks phases (opening c) (early ++ late) (opening_good c clocks) (opening_firm c) run are on_all) on other ht.below l m
    lg mg held_late (omega (arith, a.0, a.1, b.0, b.1), omega (arith, a.0, a.1, b.0, b.1))
