-- In a cluster with one configuration all gained leases are of one phase, so their terms tell them apart.
use Rattle.std.proofs.Common.{◌≡◌, ℕ, ◌<◌, true, List, ◌++◌, subst, arith}
use Rattle.booth_base.specs.declared.times.Times.{Times}
use Rattle.booth_rec.specs.declared.record.Lease.{Lease}
use Rattle.booth_world.specs.States.{opening, Cluster, HasClocks}
use Rattle.booth_world.specs.Steps.{WorldStep, IsRun, AreSecond, world_of}
use Rattle.booth_world.specs.Held.{IsOfPhase}
use Rattle.booth_world.specs.OnePhase.{HasOnePhase}
use Rattle.booth_world.specs.Fencing.{HasGained, IsBelow}
use Rattle.booth_world.proofs.Later.{run_first}
use Rattle.booth_world.proofs.FencedLaws.{gained_have_phases, terms_of_one, later_askers}

module _ (c : Cluster) (times : Times) (one : HasOnePhase c times) (clocks : HasClocks c) (on : c.goes_on ≡ true) where
  in_first : (steps : List WorldStep) → IsRun c (opening c) steps → (s : ℕ) (lease : Lease) → HasGained c (world_of c steps) s lease
      → IsOfPhase c (world_of c steps) s lease 0
  in_first steps run s lease has =
      let q = gained_have_phases c steps run s lease has in
      subst (λ (phase : ℕ). IsOfPhase c (world_of c steps) s lease phase) (one.first clocks steps run s lease q.0 q.1) q.1

  pub terms_of_first : (early late : List WorldStep) → IsRun c (opening c) (early ++ late) → AreSecond (early ++ late)
      → (s t : ℕ) (first second : Lease)
      → HasGained c (world_of c early) s first → HasGained c (world_of c (early ++ late)) t second
      → first.term ≡ second.term → s ≡ t
  terms_of_first early late run are s t first second by_s by_t same =
      terms_of_one c one.phases.seats on early late run are s t first second 0 0 (omega arith, omega arith)
      (in_first early (run_first c (opening c) early late run) s first by_s) (in_first (early ++ late) run t second by_t) same

  pub askers_of_first : (early late : List WorldStep) → IsRun c (opening c) (early ++ late) → AreSecond (early ++ late)
      → (s t : ℕ) (first second : Lease)
      → HasGained c (world_of c early) s first → HasGained c (world_of c (early ++ late)) t second
      → IsBelow (world_of c early) t second.term
      → first.term < second.term
  askers_of_first early late run are s t first second by_s by_t below =
      later_askers c one.phases.seats on early late run are s t first second 0 0 (omega arith, omega arith)
      (in_first early (run_first c (opening c) early late run) s first by_s) (in_first (early ++ late) run t second by_t) by_s below
