-- The laws over entries of the hosts of a ticket, by those of its cores.
use Rattle.std.proofs.Common.{◌≡◌, ℕ, ◌<◌, ◌≤◌, List, [], Bool, true, refl, sym, subst, inl, inr, ⊎_elim}
use Rattle.std.specs.Prelude.{Some, IsSomeAnd}
use Rattle.booth_base.specs.Tree.{Does}
use Rattle.booth_rec.specs.declared.record.Record.{Record}
use Rattle.booth_raft.specs.declared.view.View.{View}
use Rattle.booth_raft.specs.declared.view.Waiting.{Waiting}
use Rattle.booth_world.specs.States.{Cluster, IsWindow}
use Rattle.booth_world.specs.Facts.{Has, Release}
use Rattle.booth_world.specs.Cores.{CoreEntry, opening_cores, Cast, cores_after}
use Rattle.booth_world.specs.CoreLaws.{CoreCourse, early_cores, late_cores, IsReleaseIn}
use Rattle.booth_world.specs.Held.{IsApartFrom, GivesBackLease}
use Rattle.booth_world.specs.Turns.{Keeps, TurnTree}
use Rattle.booth_world.specs.Hosts.{HostEntry, opening_hosts, hosts_after}
use Rattle.booth_world.specs.HostLaws.{IsHostReleaseIn, host_may, HostCourse, early_hosts, late_hosts, HostsHoldOne, HostsAreApart, HostTermsNeverFall, LaterHostHasLaterTerm}
use Rattle.booth_world.proofs.AskSteps.{the_value}
use Rattle.booth_world.proofs.CoreRuns.{cores_hold_one, cores_are_apart, core_terms, later_core, tried_is_highest}
use Rattle.booth_world.proofs.CoreReads.{StartsIn, AreStartedBy, start_more, starts_are_second, boots_are_second}
use Rattle.booth_world.proofs.HostSteps.{HostsHold, follow_all, opens_hosts, host_held}

pub hosts_hold_one : HostsHoldOne
hosts_hold_one c cast entries course timed s t hs ht =
    let clocks = course.clocks in
    let f = follow_all c cast clocks course.phases course.is_cast (opening_hosts c cast) (opening_cores c cast) entries (opens_hosts c cast clocks course.phases course.is_cast) course.hosted_early in
    let cores = cores_after c cast (opening_cores c cast) f.0 in
    let hosts = hosts_after c cast (opening_hosts c cast) entries in
    cores_hold_one c cast f.0 (record { clocks = clocks; phases = course.phases; is_cast = course.is_cast; enters_early = f.1; enters_late = tt }) timed s t
    (hs.0, host_held c cast hosts cores s hs.0 f.2 hs.1)
    (ht.0, host_held c cast hosts cores t ht.0 f.2 ht.1)

-- entries of the cores for both parts
record Followed (c : Cluster) (cast : Cast) (early late : List HostEntry) : Type 0 where
  pub first : List CoreEntry
  pub second : List CoreEntry
  pub course : CoreCourse c cast first second
  pub early_holds : HostsHold c cast (early_hosts c cast early) (early_cores c cast first)
  pub late_holds : HostsHold c cast (late_hosts c cast early late) (late_cores c cast first second)
  pub released : (z : Release) → IsReleaseIn c cast (early_cores c cast first) second z → IsHostReleaseIn c cast (early_hosts c cast early) late z
  pub first_starts : AreStartedBy (StartsIn early) first
  pub second_starts : AreStartedBy (StartsIn late) second

followed : (c : Cluster) (cast : Cast) (early late : List HostEntry) → HostCourse c cast early late → Followed c cast early late
followed c cast early late course =
    let clocks = course.clocks in
    let f = follow_all c cast clocks course.phases course.is_cast (opening_hosts c cast) (opening_cores c cast) early (opens_hosts c cast clocks course.phases course.is_cast) course.hosted_early in
    let g = follow_all c cast clocks course.phases course.is_cast (early_hosts c cast early) (cores_after c cast (opening_cores c cast) f.0) late f.2 course.hosted_late in record {
      first = f.0;
      second = g.0;
      course = record { clocks = clocks; phases = course.phases; is_cast = course.is_cast; enters_early = f.1; enters_late = g.1 };
      early_holds = f.2;
      late_holds = g.2;
      released = g.3;
      first_starts = f.5;
      second_starts = g.5;
    }

pub hosts_are_apart : HostsAreApart
hosts_are_apart c cast early late course timed s t other k distance least hs ht =
    let f = followed c cast early late course in
    let w = early_cores c cast f.first in
    let z = late_cores c cast f.first f.second in
    ⊎_elim
    (λ (apart : IsApartFrom c distance s k w.now z.now).
    inl (subst (λ (a : ℕ). IsApartFrom c distance s k a (late_hosts c cast early late).now) f.early_holds.same_now
    (subst (λ (b : ℕ). IsApartFrom c distance s k w.now b) f.late_holds.same_now apart)))
    (λ (b : (release : Release) × IsReleaseIn c cast w f.second release × GivesBackLease s k.lease release).
    inr (b.0, f.released b.0 b.1, b.2))
    (cores_are_apart c cast f.first f.second f.course timed s t other k distance least
    (host_held c cast (early_hosts c cast early) w s k f.early_holds hs)
    (ht.0, host_held c cast (late_hosts c cast early late) z t ht.0 f.late_holds ht.1))

pub host_terms : HostTermsNeverFall
host_terms c cast early late course s term below on at k has =
    let f = followed c cast early late course in
    core_terms c cast f.first f.second f.course s term below on
    (λ k h. at k ((f.early_holds.each s below).only k h))
    k ((f.late_holds.each s below).more k has)

pub later_host : LaterHostHasLaterTerm
later_host c cast early late course timed on es ls s t other k n l m kl nl phase window hs ht =
    let f = followed c cast early late course in
    let IsSecond : Bool → Type 0 = λ second. second ≡ true in
    later_core c cast f.first f.second f.course timed on
    (starts_are_second f.first (start_more (StartsIn early) IsSecond (boots_are_second early es) f.first f.first_starts))
    (starts_are_second f.second (start_more (StartsIn late) IsSecond (boots_are_second late ls) f.second f.second_starts))
    s t other k n l m kl nl phase
    (subst (λ (x : ℕ). IsWindow c phase x (late_cores c cast f.first f.second).now) (sym f.early_holds.same_now)
    (subst (λ (y : ℕ). IsWindow c phase (early_hosts c cast early).now y) (sym f.late_holds.same_now) window))
    (host_held c cast (early_hosts c cast early) (early_cores c cast f.first) s k f.early_holds hs)
    (host_held c cast (late_hosts c cast early late) (late_cores c cast f.first f.second) t n f.late_holds ht)

-- a keep that comes next is of at least the term of each record that may be kept
pub next_is_highest : (c : Cluster) (cast : Cast) (entries : List HostEntry) → HostCourse c cast entries [] → (m : ℕ) → m < c.members
    → (kept : Record) (g : Bool → TurnTree) → ((early_hosts c cast entries).place m).tree ≡ Some (Does (Keeps kept) g)
    → (k : Record) → Has (host_may (early_hosts c cast entries) m) k → k.term ≤ kept.term
next_is_highest c cast entries course m below kept g is k h =
    let f = followed c cast entries [] course in
    let cores = early_cores c cast f.first in
    let place = f.early_holds.each m below in
    let at = place.stands_at (Does (Keeps kept) g) is in
    let next_answer = (at.2 true cores (record { same = refl; said_still = λ l x. x })).0 in
    let view = the_value (λ (v : View). IsSomeAnd v.waiting (λ waits. waits.tried ≡ kept)) (cores.place m).view next_answer.1 in
    let waits = the_value (λ (x : Waiting). x.tried ≡ kept) view.0.waiting view.2 in
    subst (λ (r : Record). k.term ≤ r.term) waits.2
    (tried_is_highest c cast f.first (record { clocks = course.clocks; phases = course.phases; is_cast = course.is_cast; enters_early = f.course.enters_early; enters_late = tt })
    m below view.0 view.1 waits.0 waits.1 k (place.more k h))
