-- The laws of a ticket's world, for every list of steps from the opening state.
use Rattle.std.specs.Prelude.{◌≡◌, ◌≢◌, ◌⊎◌, ◌++◌, ℕ, ◌<◌, true, Some, List}
use Rattle.booth_rec.specs.declared.record.Lease.{Lease}
use Rattle.booth_world.specs.States.{KeptRecord, opening, Cluster, HasClocks, IsTimed, HasPhases, IsNear, IsWindow, distance_in}
use Rattle.booth_world.specs.Steps.{WorldStep, IsRun, AreSecond, world_of}
use Rattle.booth_world.specs.Held.{IsHeldBy, Held, IsOfPhase, ReleasedBetween, IsApart, IsAtLeast}

-- No two sites ever hold the ticket at the same time.
abbrev pub HasOneHolder : Type 0
HasOneHolder =
    (c : Cluster) → HasClocks c → IsTimed c → HasPhases c → (steps : List WorldStep) → IsRun c (opening c) steps
    → (s t : ℕ) → Held c (world_of c steps) s → Held c (world_of c steps) t → s ≡ t

-- The lease by which a member holds was gained in some phase.
abbrev pub HoldersHavePhases : Type 0
HoldersHavePhases =
    (c : Cluster) → HasClocks c → HasPhases c → (steps : List WorldStep) → IsRun c (opening c) steps
    → (s : ℕ) (k : KeptRecord) → IsHeldBy c (world_of c steps) s k
    → (lease : Lease) × (k.lease ≡ Some lease) × (phase : ℕ) × IsOfPhase c (world_of c steps) s lease phase

-- A member holds early by a lease of a phase, and another member holds late. Then the phase's distance lies between
-- each time at which that lease was in force and the late time, or the first member released the lease between the two.
abbrev pub HoldersAreApart : Type 0
HoldersAreApart =
    (c : Cluster) → HasClocks c → IsTimed c → HasPhases c
    → (early late : List WorldStep) → IsRun c (opening c) (early ++ late)
    → (s t : ℕ) → s ≢ t → (k : KeptRecord) (lease : Lease) (phase : ℕ)
    → k.lease ≡ Some lease → IsOfPhase c (world_of c early) s lease phase
    → IsHeldBy c (world_of c early) s k → Held c (world_of c (early ++ late)) t
    → IsApart c (distance_in c phase) s k (world_of c early) (world_of c (early ++ late))
    ⊎ ReleasedBetween (world_of c early) (world_of c (early ++ late)) s k

-- If each record that a site may have written has at least this term, then so has each record that it may have written
-- later. The same holds for an arbitrator if each start goes on.
abbrev pub KeptTermsNeverFall : Type 0
KeptTermsNeverFall =
    (c : Cluster) (early late : List WorldStep) → IsRun c (opening c) (early ++ late)
    → (s term : ℕ) → (c.is_site s ≡ true) ⊎ (c.goes_on ≡ true)
    → IsAtLeast (world_of c early) s term → IsAtLeast (world_of c (early ++ late)) s term

-- If each start is of version 2 and goes on, and two members hold by leases of one phase or of a phase and the next,
-- one after the other, the later lease has the greater term.
abbrev pub LaterHolderHasLaterTerm : Type 0
LaterHolderHasLaterTerm =
    (c : Cluster) → HasClocks c → IsTimed c → HasPhases c → c.goes_on ≡ true
    → (early late : List WorldStep) → IsRun c (opening c) (early ++ late) → AreSecond (early ++ late)
    → (s t : ℕ) → s ≢ t → (k n : KeptRecord) (first second : Lease)
    → k.lease ≡ Some first → n.lease ≡ Some second
    → IsHeldBy c (world_of c early) s k → IsHeldBy c (world_of c (early ++ late)) t n
    → (phase other : ℕ) → IsNear phase other
    → IsOfPhase c (world_of c early) s first phase → IsOfPhase c (world_of c (early ++ late)) t second other
    → first.term < second.term

-- The same, by times alone: both moments lie between the opening of a phase and the opening of the next phase.
abbrev pub LaterInWindow : Type 0
LaterInWindow =
    (c : Cluster) → HasClocks c → IsTimed c → HasPhases c → c.goes_on ≡ true
    → (early late : List WorldStep) → IsRun c (opening c) (early ++ late) → AreSecond (early ++ late)
    → (s t : ℕ) → s ≢ t → (k n : KeptRecord) (first second : Lease)
    → k.lease ≡ Some first → n.lease ≡ Some second
    → (phase : ℕ) → IsWindow c phase (world_of c early).now (world_of c (early ++ late)).now
    → IsHeldBy c (world_of c early) s k → IsHeldBy c (world_of c (early ++ late)) t n
    → first.term < second.term
