-- The shadow of a later moment goes on from that of an earlier one.
use Rattle.std.proofs.Common.{◌≡◌, ◌⊎◌, ⊎_elim, inl, inr, ℕ, Bool, true, List, [], ◌∷◌, ◌++◌, refl, sym, ap, ◌∙◌, subst}
use Rattle.booth_node.specs.World.{WorldEntry}
use Rattle.booth_world.specs.CoreLaws.{CoreCourse}
use Rattle.booth_world.specs.Cores.{opening_cores, cores_after}
use Rattle.booth_world.specs.Facts.{Has, Release}
use Rattle.booth_world.specs.Growth.{ShadowsGrow}
use Rattle.booth_world.specs.Hosts.{opening_hosts}
use Rattle.booth_world.specs.Revocations.{AtSome}
use Rattle.booth_world.proofs.Configured.{going_on, setting_of}
use Rattle.booth_world.proofs.CoreReads.{all_read, opening_read, read_more, ReadsIn, start_more, starts_are_second, StartsIn}
use Rattle.booth_world.proofs.CoreRuns.{all_are_second, all_released, runs_of}
use Rattle.booth_world.proofs.CoreSteps.{opens}
use Rattle.booth_world.proofs.HostSteps.{follow_all, opens_hosts}
use Rattle.booth_world.proofs.WorldEntries.{has_clocks}
use Rattle.booth_world.proofs.WorldPhases.{has_phases}
use Rattle.booth_world.proofs.WorldHosts.{after_hosts, append_none}
use Rattle.booth_world.proofs.WorldRuns.{append_both, begins_free, is_cast, IsLeftIn, left_second, reached, reached_later}
use Rattle.booth_world.proofs.WorldShadows.{shadow_by}
use Rattle.booth_world.proofs.WorldSteps.{cast, cluster, Frees, Reads, Trace}

-- ---- at one of the entries before, or of those between

at_first : (before xs ys : List WorldEntry) (P : List WorldEntry → WorldEntry → Type 0) → AtSome before xs P → AtSome before (xs ++ ys) P
at_first before [] ys P at = absurd at
at_first before (x ∷ xs) ys P (inl here) = inl here
at_first before (x ∷ xs) ys P (inr later) = inr (at_first (before ++ x ∷ []) xs ys P later)

at_last : (before xs ys : List WorldEntry) (P : List WorldEntry → WorldEntry → Type 0) → AtSome (before ++ xs) ys P → AtSome before (xs ++ ys) P
at_last before [] ys P at = subst (λ (es : List WorldEntry). AtSome es ys P) (append_none before) at
at_last before (x ∷ xs) ys P at =
    inr (at_last (before ++ x ∷ []) xs ys P (subst (λ (es : List WorldEntry). AtSome es ys P) (sym (append_both before (x ∷ []) xs)) at))

-- ---- the later shadow

pub shadows_grow : ShadowsGrow
shadows_grow w is_world going recs ticket automatic early late between later =
    let setting = going_on w ticket going recs (setting_of w is_world.form ticket automatic.0 automatic.1) in
    let c = cluster w ticket setting in
    let k = cast w ticket setting in
    let clocks = has_clocks w is_world.rising_clocks ticket setting (begins_free w is_world ticket setting) in
    let phases = has_phases w setting.goes_on ticket in
    let seated = is_cast w is_world ticket setting in
    let r = reached w is_world ticket setting early in
    let hosts = after_hosts w is_world ticket setting (opening_hosts c k) r.entries in
    let q = reached_later w is_world ticket setting early late between hosts later r.now_is r.shadow in
    let last = after_hosts w is_world ticket setting hosts q.entries in
    let f = follow_all c k clocks phases seated (opening_hosts c k) (opening_cores c k) r.entries (opens_hosts c k clocks phases seated) r.hosted_all in
    let cores = cores_after c k (opening_cores c k) f.0 in
    let g = follow_all c k clocks phases seated hosts cores q.entries f.2 q.hosted_all in
    let course : CoreCourse c k f.0 g.0 = record { clocks = clocks; phases = phases; is_cast = seated; enters_early = f.1; enters_late = g.1 } in
    let runs = runs_of c k f.0 g.0 course in
    let P : ℕ → ℕ → Type 0 = λ m time. ReadsIn r.entries m time ⊎ ReadsIn q.entries m time in
    let early_read = all_read c k P (opening_cores c k) f.0 (opening_read c k P)
    (read_more c k (ReadsIn r.entries) P (λ m time h. inl h) (opening_cores c k) f.0 f.4) in
    let late_read = all_read c k P cores g.0 early_read (read_more c k (ReadsIn q.entries) P (λ m time h. inr h) cores g.0 g.4) in
    let whole : w.entries ≡ early.before ++ (between ++ late.after) =
    late.whole ∙ ap (λ (es : List WorldEntry). es ++ late.after) later.entries ∙ append_both early.before between late.after in
    let left_first : (trace : Trace) → IsLeftIn w is_world ticket setting [] early.before trace → IsLeftIn w is_world ticket setting [] late.before trace =
    λ trace x. subst (λ (es : List WorldEntry). IsLeftIn w is_world ticket setting [] es trace) (sym later.entries) (at_first [] early.before between _ x) in
    let left_last : (trace : Trace) → IsLeftIn w is_world ticket setting early.before between trace → IsLeftIn w is_world ticket setting [] late.before trace =
    λ trace x. subst (λ (es : List WorldEntry). IsLeftIn w is_world ticket setting [] es trace) (sym later.entries) (at_last [] early.before between _ x) in
    let freed_early : (z : Release) → Has cores.releases z → IsLeftIn w is_world ticket setting [] early.before (Frees z) =
    λ z h. ⊎_elim (λ (none : ⊥). absurd none) (λ in_entries. r.released z (f.3 z in_entries))
    (all_released c k clocks phases seated (opening_cores c k) f.0 [] z tt (opens c k clocks phases seated) f.1 h) in
    let freed_late : (z : Release) → Has (cores_after c k cores g.0).releases z → Has cores.releases z ⊎ IsLeftIn w is_world ticket setting early.before between (Frees z) =
    λ z h. ⊎_elim (λ (old : Has cores.releases z). inl old) (λ in_entries. inr (q.released z (g.3 z in_entries)))
    (all_released c k clocks phases seated cores g.0 runs.first z runs.run_first runs.early_holds g.1 h) in
    record {
      first = shadow_by w is_world ticket setting early hosts cores runs.first (ReadsIn r.entries) r.now_is r.shadow f.2 runs.run_first
          runs.early_holds freed_early
          (all_read c k (ReadsIn r.entries) (opening_cores c k) f.0 (opening_read c k (ReadsIn r.entries)) f.4)
          r.read;
      second = shadow_by w is_world ticket setting late last (cores_after c k cores g.0) (runs.first ++ runs.more) P q.now_is q.shadow g.2
          runs.run_all runs.late_holds
          (λ z h. ⊎_elim (λ (old : Has cores.releases z). left_first (Frees z) (freed_early z old)) (left_last (Frees z)) (freed_late z h))
          late_read
          (λ m time h. ⊎_elim (λ (a : ReadsIn r.entries m time). left_first (Reads m time) (r.read m time a))
          (λ (b : ReadsIn q.entries m time). left_last (Reads m time) (q.read m time b)) h);
      more = runs.more;
      goes_on = refl;
      released = λ z h. ⊎_elim
          (λ (old : Has cores.releases z). inl (subst (λ (rs : List Release). Has rs z) (sym runs.early_holds.same_releases) old))
          (λ (new : IsLeftIn w is_world ticket setting early.before between (Frees z)). inr new)
          (freed_late z (subst (λ (rs : List Release). Has rs z) runs.late_holds.same_releases h));
      all_second = λ all. all_are_second c k f.0 g.0 course runs
          (starts_are_second f.0 (start_more (StartsIn r.entries) (λ (v : Bool). v ≡ true)
          (λ v x. left_second w is_world ticket setting all [] early.before early.after early.whole v (r.started v x)) f.0 f.5))
          (starts_are_second g.0 (start_more (StartsIn q.entries) (λ (v : Bool). v ≡ true)
          (λ v x. left_second w is_world ticket setting all early.before between late.after whole v (q.started v x)) g.0 g.5));
    }
