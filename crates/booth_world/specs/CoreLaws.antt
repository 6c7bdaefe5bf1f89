-- The three laws (one holder, holders apart, terms never fall), for a list of entries of the lease cores of one
-- ticket.
use Rattle.std.specs.Prelude.{◌≡◌, ◌≢◌, ◌⊎◌, ℕ, ◌<◌, ◌≤◌, List, [], ◌∷◌, true, None, Some, IsSomeAnd}
use Rattle.booth_rec.specs.declared.record.Lease.{Lease}
use Rattle.booth_rec.specs.declared.record.Record.{Record}
use Rattle.booth_rec.specs.Record.{IsInForce}
use Rattle.booth_raft.specs.declared.view.Rule.{Rule}
use Rattle.booth_raft.specs.declared.view.Rule.TheVariants as rules
use Rattle.booth_world.specs.States.{Cluster, HasClocks, IsTimed, HasPhases, IsDistance, IsWindow, reads}
use Rattle.booth_world.specs.Facts.{Has, Release}
use Rattle.booth_world.specs.Held.{IsApartFrom, GivesBackLease}
use Rattle.booth_world.specs.Cores.{CoreEntry, HasAnswer, StartsWith, Cores, opening_cores, Cast, IsCast, entered, AreEntered, cores_after}

-- ---- releases, by the entries

-- The rules whose write releases a term: a release, and the end of a round.
abbrev pub IsReleasing : Rule → Type 0
IsReleasing (rules.Release reason) = Unit {0}
IsReleasing rules.EndRound = Unit {0}
IsReleasing rule = ⊥

-- The result of a write releases a term if the write succeeded, its record has no lease, and a rule of `IsReleasing`
-- waited for it.
abbrev pub IsReleaseAt : Cores → CoreEntry → Release → Type 0
IsReleaseAt cores (HasAnswer m kept true) release =
    (release ≡ record { site = m; term = kept.term; at = cores.now }) × (kept.lease ≡ None)
    × IsSomeAnd (cores.place m).view (λ view. IsSomeAnd view.waiting (λ waits. IsReleasing waits.rule))
IsReleaseAt cores entry release = ⊥

abbrev pub IsReleaseIn : Cluster → Cast → Cores → List CoreEntry → Release → Type 0
IsReleaseIn c cast cores [] release = ⊥
IsReleaseIn c cast cores (entry ∷ entries) release =
    IsReleaseAt cores entry release
    ⊎ IsReleaseIn c cast (entered c cast cores entry) entries release

-- ---- holders

-- A member holds by a record that it may have written, while the record is in force at the time that the member's
-- clock reads now.
abbrev pub CoreHoldsBy : Cluster → Cores → ℕ → Record → Type 0
CoreHoldsBy c cores s k =
    (s < c.members) × Has (cores.place s).may k × IsInForce k (reads c s cores.now)

abbrev pub CoreHolds : Cluster → Cores → ℕ → Type 0
CoreHolds c cores s = (k : Record) × CoreHoldsBy c cores s k

-- ---- the laws

-- A list of entries from the very beginning, in two parts: the early entries and the late ones.
pub record CoreCourse (c : Cluster) (cast : Cast) (early late : List CoreEntry) : Type 0 where
  pub clocks : HasClocks c
  pub phases : HasPhases c
  pub is_cast : IsCast c cast
  pub enters_early : AreEntered c cast (opening_cores c cast) early
  pub enters_late : AreEntered c cast (cores_after c cast (opening_cores c cast) early) late

abbrev pub early_cores : Cluster → Cast → List CoreEntry → Cores
early_cores c cast early = cores_after c cast (opening_cores c cast) early

abbrev pub late_cores : Cluster → Cast → List CoreEntry → List CoreEntry → Cores
late_cores c cast early late = cores_after c cast (early_cores c cast early) late

-- No two sites ever hold the ticket at the same time.
abbrev pub CoresHoldOne : Type 0
CoresHoldOne =
    (c : Cluster) (cast : Cast) (entries : List CoreEntry) → CoreCourse c cast entries [] → IsTimed c
    → (s t : ℕ) → CoreHolds c (early_cores c cast entries) s
    → CoreHolds c (early_cores c cast entries) t → s ≡ t

-- One site holds by a record, and another site holds later. Then acquire-after lies between each time at which that
-- record was in force and the later time, or an entry between the two released the record's lease.
abbrev pub CoresAreApart : Type 0
CoresAreApart =
    (c : Cluster) (cast : Cast) (early late : List CoreEntry) → CoreCourse c cast early late → IsTimed c
    → (s t : ℕ) → s ≢ t → (k : Record) (distance : ℕ) → IsDistance c distance
    → CoreHoldsBy c (early_cores c cast early) s k → CoreHolds c (late_cores c cast early late) t
    → IsApartFrom c distance s k (early_cores c cast early).now (late_cores c cast early late).now
    ⊎ ((release : Release) × IsReleaseIn c cast (early_cores c cast early) late release
    × GivesBackLease s k.lease release)

-- If each record that a site may have written has at least this term, then so has each record that it may have written
-- later. The same holds for an arbitrator if each start goes on.
abbrev pub CoreTermsNeverFall : Type 0
CoreTermsNeverFall =
    (c : Cluster) (cast : Cast) (early late : List CoreEntry) → CoreCourse c cast early late
    → (s term : ℕ) → s < c.members → (c.is_site s ≡ true) ⊎ (c.goes_on ≡ true)
    → ((k : Record) → Has ((early_cores c cast early).place s).may k → term ≤ k.term)
    → (k : Record) → Has ((late_cores c cast early late).place s).may k → term ≤ k.term

-- ---- version 2 alone

-- A start in this entry is of version 2.
abbrev pub IsSecondStart : CoreEntry → Type 0
IsSecondStart (StartsWith m session kept) = session.second ≡ true
IsSecondStart entry = Unit {0}

abbrev pub AreSecondStarts : List CoreEntry → Type 0
AreSecondStarts [] = Unit {0}
AreSecondStarts (entry ∷ entries) = IsSecondStart entry × AreSecondStarts entries

-- If each start is of version 2 and goes on, and two members hold by leases, one after the other, the later lease has
-- the greater term.
abbrev pub LaterCoreHasLaterTerm : Type 0
LaterCoreHasLaterTerm =
    (c : Cluster) (cast : Cast) (early late : List CoreEntry) → CoreCourse c cast early late
    → IsTimed c → c.goes_on ≡ true
    → AreSecondStarts early → AreSecondStarts late
    → (s t : ℕ) → s ≢ t → (k n : Record) (first second : Lease)
    → k.lease ≡ Some first → n.lease ≡ Some second
    → (phase : ℕ) → IsWindow c phase (early_cores c cast early).now (late_cores c cast early late).now
    → CoreHoldsBy c (early_cores c cast early) s k → CoreHoldsBy c (late_cores c cast early late) t n
    → first.term < second.term
