-- Where a member stands, by what is noted of it.
use Rattle.std.specs.Prelude.{Bool, true, Option, None, Result}
use Rattle.std.proofs.Common.{◌≡◌, ℕ, List, refl, subst}
use Rattle.booth_base.specs.Tree.{Deeds, Does, Ends}
use Rattle.booth_host.specs.declared.host.Arrival.{Arrival}
use Rattle.booth_host.specs.declared.host.Failed.{Failed}
use Rattle.booth_host.specs.declared.entry.Entry.{Entry}
use Rattle.booth_host.specs.declared.entry.Entry.TheVariants as entries
use Rattle.booth_keys.specs.declared.ring.Ring.{Ring}
use Rattle.booth_node.specs.declared.node_config.NodeConfig.{NodeConfig}
use Rattle.booth_node.specs.Reaction.{Ask, IsDone, Keep, Send, Start, react, used}
use Rattle.booth_node.specs.Session.{Doing, Down, Hearing, IsCut, Makes, MayDo, SessionEntry, Stand, Starts, after_entry, did}
use Rattle.booth_node.specs.State.{State}
use Rattle.booth_audit.specs.Hearings.{brought, waits_after}
use Rattle.booth_audit.specs.Holdings.{used_after}
use Rattle.booth_audit.specs.Own.{IsOwn}
use Rattle.booth_audit.proofs.UsedLemmas.{Leaves, react_leaves}

-- ---- where a member stands, by what is noted

-- the reading in use and the bytes that wait are those of where it stands
abbrev pub StandsSo : NodeConfig → ℕ → Option (List ℕ) → Stand → Type 0
StandsSo node last waiting Down = waiting ≡ None
StandsSo node last waiting (Doing other deeds) = (other ≡ node) × (waiting ≡ None) × Leaves last deeds
StandsSo node last waiting (Hearing other old answer bytes) =
    (other ≡ node) × (waiting ≡ brought answer bytes) × (old.last_reading ≡ last)

no_next : (ring : Option Ring) (ask : Ask) (ok : Bool) (wait : ℕ) (answer : Result Arrival Failed) (bytes : List ℕ)
    → IsDone ring ask ok (entries.Next wait answer bytes) → ⊥
no_next ring (Send peer message) ok wait answer bytes done = done
no_next ring (Keep name tried) ok wait answer bytes done = done
no_next ring (Start job) ok wait answer bytes done = done

no_now : (ring : Option Ring) (ask : Ask) (ok : Bool) (reading : ℕ) → IsDone ring ask ok (entries.Now reading) → ⊥
no_now ring (Send peer message) ok reading done = done
no_now ring (Keep name tried) ok reading done = done
no_now ring (Start job) ok reading done = done

module _ (node : NodeConfig) where
  abbrev pub StillSo : Stand → SessionEntry → ℕ → Type 0
  StillSo stand what last = StandsSo node (used_after last what) (waits_after what) (after_entry stand what)

  between_turns : (other : NodeConfig) (old : State) (call : Entry) (last : ℕ) → MayDo (Doing other (Ends old)) (Makes call)
      → other ≡ node → old.last_reading ≡ last → StillSo (Doing other (Ends old)) (Makes call) last
  between_turns other old (entries.Next wait answer bytes) last can same at = (same, refl, at)
  between_turns other old (entries.Open local port records conf_path answer) last can same at = absurd can
  between_turns other old (entries.Now reading) last can same at = absurd can
  between_turns other old (entries.Send to bytes answer) last can same at = absurd can
  between_turns other old (entries.ReadFile path answer) last can same at = absurd can
  between_turns other old (entries.Lock path answer) last can same at = absurd can
  between_turns other old (entries.Kept name answer) last can same at = absurd can
  between_turns other old (entries.Keep name kept answer) last can same at = absurd can
  between_turns other old (entries.Start number name handler local expires answer) last can same at = absurd can
  between_turns other old (entries.Out bytes answer) last can same at = absurd can
  between_turns other old (entries.Err bytes answer) last can same at = absurd can

  in_turn : (other : NodeConfig) (ask : Ask) (go : Bool → Deeds Ask State) (call : Entry) (last : ℕ)
      → MayDo (Doing other (Does ask go)) (Makes call) → other ≡ node → ((ok : Bool) → Leaves last (go ok))
      → StillSo (Doing other (Does ask go)) (Makes call) last
  in_turn other ask go (entries.Next wait answer bytes) last can same leaves =
      absurd (no_next other.ring ask true wait answer bytes can)
  in_turn other ask go (entries.Now reading) last can same leaves = absurd (no_now other.ring ask true reading can)
  in_turn other ask go (entries.Open local port records conf_path answer) last can same leaves = (same, refl, leaves true)
  in_turn other ask go (entries.Send to bytes answer) last can same leaves =
      (same, refl, leaves (did (entries.Send to bytes answer)))
  in_turn other ask go (entries.ReadFile path answer) last can same leaves = (same, refl, leaves true)
  in_turn other ask go (entries.Lock path answer) last can same leaves = (same, refl, leaves true)
  in_turn other ask go (entries.Kept name answer) last can same leaves = (same, refl, leaves true)
  in_turn other ask go (entries.Keep name kept answer) last can same leaves =
      (same, refl, leaves (did (entries.Keep name kept answer)))
  in_turn other ask go (entries.Start number name handler local expires answer) last can same leaves =
      (same, refl, leaves (did (entries.Start number name handler local expires answer)))
  in_turn other ask go (entries.Out bytes answer) last can same leaves = (same, refl, leaves true)
  in_turn other ask go (entries.Err bytes answer) last can same leaves = (same, refl, leaves true)

  at_reading : (other : NodeConfig) (old : State) (answer : Result Arrival Failed) (bytes : List ℕ) (call : Entry) (last : ℕ)
      → MayDo (Hearing other old answer bytes) (Makes call) → other ≡ node → old.last_reading ≡ last
      → StillSo (Hearing other old answer bytes) (Makes call) last
  at_reading other old answer bytes (entries.Now reading) last can same at = (
    same,
    refl,
    subst (λ (n : ℕ). Leaves (used n reading) (react other old (used old.last_reading reading) answer bytes)) at
        (react_leaves other (used old.last_reading reading) old answer bytes),
  )
  at_reading other old answer bytes (entries.Open local port records conf_path done) last can same at = absurd can
  at_reading other old answer bytes (entries.Next wait again more) last can same at = absurd can
  at_reading other old answer bytes (entries.Send to sent done) last can same at = absurd can
  at_reading other old answer bytes (entries.ReadFile path done) last can same at = absurd can
  at_reading other old answer bytes (entries.Lock path done) last can same at = absurd can
  at_reading other old answer bytes (entries.Kept name done) last can same at = absurd can
  at_reading other old answer bytes (entries.Keep name kept done) last can same at = absurd can
  at_reading other old answer bytes (entries.Start number name handler local expires done) last can same at = absurd can
  at_reading other old answer bytes (entries.Out text done) last can same at = absurd can
  at_reading other old answer bytes (entries.Err text done) last can same at = absurd can

  pub stands_on : (stand : Stand) (what : SessionEntry) (last : ℕ) (waiting : Option (List ℕ)) → MayDo stand what
      → IsOwn node what → StandsSo node last waiting stand → StillSo stand what last
  stands_on stand (Starts other reading records) last waiting can own so = (own, refl, refl)
  stands_on stand (IsCut call) last waiting can own so = refl
  stands_on Down (Makes call) last waiting can own so = absurd can
  stands_on (Doing other (Ends old)) (Makes call) last waiting can own so = between_turns other old call last can so.0 so.2
  stands_on (Doing other (Does ask go)) (Makes call) last waiting can own so =
      in_turn other ask go call last can so.0 so.2.1
  stands_on (Hearing other old answer bytes) (Makes call) last waiting can own so =
      at_reading other old answer bytes call last can so.0 so.2
