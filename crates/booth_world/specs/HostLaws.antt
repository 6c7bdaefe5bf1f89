-- The three laws (one holder, holders apart, terms never fall), for a list of entries of the hosts of one ticket.
use Rattle.std.specs.Prelude.{◌≡◌, ◌≢◌, ◌⊎◌, ℕ, ◌<◌, ◌≤◌, List, [], ◌∷◌, Bool, true, None, Some, IsSomeAnd}
use Rattle.booth_base.specs.Tree.{Ends, Does}
use Rattle.booth_rec.specs.declared.record.Lease.{Lease}
use Rattle.booth_rec.specs.declared.record.Record.{Record}
use Rattle.booth_rec.specs.Record.{IsInForce}
use Rattle.booth_wire.specs.declared.command.Cmd.TheVariants.{Revk}
use Rattle.booth_world.specs.States.{Cluster, HasClocks, IsTimed, HasPhases, IsDistance, IsWindow, reads}
use Rattle.booth_world.specs.Facts.{Has, Release}
use Rattle.booth_world.specs.Held.{IsApartFrom, GivesBackLease}
use Rattle.booth_world.specs.Cores.{Cast, IsCast}
use Rattle.booth_world.specs.Rules.{MemberMessage}
use Rattle.booth_world.specs.Turns.{Keeps, Sends, TurnTree}
use Rattle.booth_world.specs.Hosts.{HostEntry, DoesAsk, Boots, Hosts, opening_hosts, pending, hosted, AreHosted, hosts_after}

-- ---- releases, by the entries

-- The first action sends the message that this term was released.
pub record Revokes (term : ℕ) (tree : TurnTree) : Type 0 where
  pub message : MemberMessage
  pub go : Bool → TurnTree
  pub next_is : tree ≡ Does (Sends message) go
  pub revokes : message.head.cmd ≡ Revk
  pub same_term : message.part.term ≡ term

-- If the next write succeeds, the member then informs the other members that the term was released, if there are any.
abbrev pub RevokesAfter : ℕ → ℕ → TurnTree → Type 0
RevokesAfter members term (Ends view) = ⊥
RevokesAfter members term (Does ask go) = 1 < members → Revokes term (go true)

-- This entry wrote a record without a lease, and so released its term.
abbrev pub IsHostReleaseAt : Cluster → Hosts → HostEntry → Release → Type 0
IsHostReleaseAt c hosts (DoesAsk m (Keeps kept) true) release =
    (release ≡ record { site = m; term = kept.term; at = hosts.now }) × (kept.lease ≡ None)
    × IsSomeAnd (hosts.place m).tree (RevokesAfter (c.phase (hosts.place m).session.phase).seats.size kept.term)
IsHostReleaseAt c hosts entry release = ⊥

abbrev pub IsHostReleaseIn : Cluster → Cast → Hosts → List HostEntry → Release → Type 0
IsHostReleaseIn c cast hosts [] release = ⊥
IsHostReleaseIn c cast hosts (entry ∷ entries) release =
    IsHostReleaseAt c hosts entry release
    ⊎ IsHostReleaseIn c cast (hosted c cast hosts entry) entries release

-- ---- holders

-- The records that a member's writes may have left. They include the record of a write that may be done but has no
-- result yet.
abbrev pub host_may : Hosts → ℕ → List Record
host_may hosts m = pending (hosts.place m).tree (hosts.place m).may

-- A member holds by a record that its writes may have left, while the record is in force at the time that the
-- member's clock reads now.
abbrev pub HostHoldsBy : Cluster → Hosts → ℕ → Record → Type 0
HostHoldsBy c hosts s k =
    (s < c.members) × Has (host_may hosts s) k × IsInForce k (reads c s hosts.now)

abbrev pub HostHolds : Cluster → Hosts → ℕ → Type 0
HostHolds c hosts s = (k : Record) × HostHoldsBy c hosts s k

-- ---- the laws

-- A list of entries from the very beginning, in two parts: the early entries and the late ones.
pub record HostCourse (c : Cluster) (cast : Cast) (early late : List HostEntry) : Type 0 where
  pub clocks : HasClocks c
  pub phases : HasPhases c
  pub is_cast : IsCast c cast
  pub hosted_early : AreHosted c cast (opening_hosts c cast) early
  pub hosted_late : AreHosted c cast (hosts_after c cast (opening_hosts c cast) early) late

abbrev pub early_hosts : Cluster → Cast → List HostEntry → Hosts
early_hosts c cast early = hosts_after c cast (opening_hosts c cast) early

abbrev pub late_hosts : Cluster → Cast → List HostEntry → List HostEntry → Hosts
late_hosts c cast early late = hosts_after c cast (early_hosts c cast early) late

-- No two sites ever hold the ticket at the same time.
abbrev pub HostsHoldOne : Type 0
HostsHoldOne =
    (c : Cluster) (cast : Cast) (entries : List HostEntry) → HostCourse c cast entries [] → IsTimed c
    → (s t : ℕ) → HostHolds c (early_hosts c cast entries) s
    → HostHolds c (early_hosts c cast entries) t → s ≡ t

-- One site holds by a record, and another site holds later. Then acquire-after lies between each time at which that
-- record was in force and the later time, or a write between the two released the record's lease.
abbrev pub HostsAreApart : Type 0
HostsAreApart =
    (c : Cluster) (cast : Cast) (early late : List HostEntry) → HostCourse c cast early late → IsTimed c
    → (s t : ℕ) → s ≢ t → (k : Record) (distance : ℕ) → IsDistance c distance
    → HostHoldsBy c (early_hosts c cast early) s k → HostHolds c (late_hosts c cast early late) t
    → IsApartFrom c distance s k (early_hosts c cast early).now (late_hosts c cast early late).now
    ⊎ ((release : Release) × IsHostReleaseIn c cast (early_hosts c cast early) late release
    × GivesBackLease s k.lease release)

-- If each record that a site's writes may have left has at least this term, then so has each record that they may have
-- left later. The same holds for an arbitrator if each start goes on.
abbrev pub HostTermsNeverFall : Type 0
HostTermsNeverFall =
    (c : Cluster) (cast : Cast) (early late : List HostEntry) → HostCourse c cast early late
    → (s term : ℕ) → s < c.members → (c.is_site s ≡ true) ⊎ (c.goes_on ≡ true)
    → ((k : Record) → Has (host_may (early_hosts c cast early) s) k → term ≤ k.term)
    → (k : Record) → Has (host_may (late_hosts c cast early late) s) k → term ≤ k.term

-- ---- version 2 alone

-- A start in this entry is of version 2.
abbrev pub IsSecondBoot : HostEntry → Type 0
IsSecondBoot (Boots m time session kept) = session.second ≡ true
IsSecondBoot entry = Unit {0}

abbrev pub AreSecondBoots : List HostEntry → Type 0
AreSecondBoots [] = Unit {0}
AreSecondBoots (entry ∷ entries) = IsSecondBoot entry × AreSecondBoots entries

-- If each start is of version 2 and goes on, and two members hold by leases, one after the other, the later lease has
-- the greater term.
abbrev pub LaterHostHasLaterTerm : Type 0
LaterHostHasLaterTerm =
    (c : Cluster) (cast : Cast) (early late : List HostEntry) → HostCourse c cast early late
    → IsTimed c → c.goes_on ≡ true
    → AreSecondBoots early → AreSecondBoots late
    → (s t : ℕ) → s ≢ t → (k n : Record) (first second : Lease)
    → k.lease ≡ Some first → n.lease ≡ Some second
    → (phase : ℕ) → IsWindow c phase (early_hosts c cast early).now (late_hosts c cast early late).now
    → HostHoldsBy c (early_hosts c cast early) s k → HostHoldsBy c (late_hosts c cast early late) t n
    → first.term < second.term
