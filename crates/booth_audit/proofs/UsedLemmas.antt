-- A turn leaves the reading that it uses.
use Rattle.std.specs.Prelude.{Option, None, Some, Result, Ok, Err, slice_get}
use Rattle.std.proofs.Common.{◌≡◌, ℕ, List, [], ◌∷◌, refl}
use Rattle.booth_base.specs.Tree.{Always, Deeds, Does, Ends, ◌>>=◌, each, through}
use Rattle.booth_base.specs.declared.address.Peer.{Peer}
use Rattle.booth_base.proofs.TreeLemmas.{always_then}
use Rattle.booth_host.specs.declared.host.Arrival.{Arrival}
use Rattle.booth_host.specs.declared.host.Arrival.TheVariants as arrivals
use Rattle.booth_host.specs.declared.host.Failed.{Failed}
use Rattle.booth_node.specs.Befalling.{Befalling, comes_due, ends_job, is_asked, is_told}
use Rattle.booth_node.specs.declared.node.Turn.{Turn}
use Rattle.booth_node.specs.declared.node.Turn.TheVariants.{Stopped, Went}
use Rattle.booth_node.specs.declared.node_config.NodeConfig.{NodeConfig}
use Rattle.booth_node.specs.Counting.{accepted}
use Rattle.booth_node.specs.Reaction.{Action, Answers, Ask, Asks, Attends, Drops, Hears as HearsSaid, Rests, action, acts, acts_as, all_places, arrived, due_places, dues, met, react, sends_back, turn_end}
use Rattle.booth_node.specs.State.{State, with_ticket}

-- ---- a turn leaves the reading that it uses

abbrev pub Leaves : ℕ → Deeds Ask State → Type 0
Leaves now deeds = Always (λ (ask : Ask). Unit {0}) (λ (state : State). state.last_reading ≡ now) deeds

any_tree : {A S : Type 0} (t : Deeds A S) → Always (λ (ask : A). Unit {0}) (λ (left : S). Unit {0}) t
any_tree (Ends left) = tt
any_tree (Does ask go) = (tt, λ ok. any_tree (go ok))

-- whatever a tree leaves
leaves_after : {S : Type 0} (now : ℕ) (t : Deeds Ask S) (f : S → Deeds Ask State) → ((left : S) → Leaves now (f left))
    → Leaves now (t >>= f)
leaves_after {S} now t f on =
    always_then (λ (ask : Ask). Unit {0}) (λ (left : S). Unit {0}) (λ (state : State). state.last_reading ≡ now) t f
    (any_tree t) (λ left any. on left)

leaves_then : (now : ℕ) (t : Deeds Ask State) (f : State → Deeds Ask State) → Leaves now t
    → ((state : State) → state.last_reading ≡ now → Leaves now (f state)) → Leaves now (t >>= f)
leaves_then now t f first on =
    always_then (λ (ask : Ask). Unit {0}) (λ (state : State). state.last_reading ≡ now)
    (λ (state : State). state.last_reading ≡ now) t f first on

by_found : {T : Type 0} (now : ℕ) (found : Option T) (f : Option T → Deeds Ask State) → Leaves now (f None)
    → ((x : T) → Leaves now (f (Some x))) → Leaves now (f found)
by_found now None f none some = none
by_found now (Some x) f none some = some x

leaves_through : {B : Type 0} (now : ℕ) (f : B → State → Deeds Ask State) (xs : List B) (state : State)
    → ((x : B) (state : State) → state.last_reading ≡ now → Leaves now (f x state)) → state.last_reading ≡ now
    → Leaves now (through f xs state)
leaves_through now f [] state one at = at
leaves_through now f (x ∷ xs) state one at =
    leaves_then now (f x state) (through f xs) (one x state at) (λ next then_at. leaves_through now f xs next one then_at)

module _ (node : NodeConfig) (now : ℕ) where
  acts_leaves : (state : State) (place : ℕ) (event : Befalling) → state.last_reading ≡ now
      → Leaves now (acts node now state place event)
  acts_leaves state place event at =
      by_found now (slice_get state.tickets place) (λ found. acts_as node now state place event found) at
      (λ ticket. leaves_after now _ (λ done. Ends (with_ticket state place done.common done.left)) (λ done. at))

  all_leave : (event : Befalling) (places : List ℕ) (state : State) → state.last_reading ≡ now
      → Leaves now (through (λ place next. acts node now next place event) places state)
  all_leave event places state at =
      leaves_through now (λ place next. acts node now next place event) places state
      (λ place next then_at. acts_leaves next place event then_at) at

  met_leaves : (state : State) (from : Peer) (action : Action) → state.last_reading ≡ now
      → Leaves now (met node now state from action)
  met_leaves state from (Drops fault) at = at
  met_leaves state from (HearsSaid member ticket head part) at =
      acts_leaves (accepted state member now) ticket (is_told member head part) at
  met_leaves state from (Asks ticket request) at = acts_leaves state ticket (is_asked request) at
  met_leaves state from (Attends ticket request) at = (tt, λ ok. at)
  met_leaves state from (Answers messages) at =
      leaves_after now (each (sends_back from) messages) (λ done. Ends state) (λ done. at)
  met_leaves state from Rests at = at

  arrived_leaves : (state : State) (answer : Result Arrival Failed) (bytes : List ℕ) → state.last_reading ≡ now
      → Leaves now (arrived node now state answer bytes)
  arrived_leaves state (Ok (arrivals.Datagram from)) bytes at =
      met_leaves state from (action node now state.tickets state.common from bytes) at
  arrived_leaves state (Ok (arrivals.Handler job status)) bytes at =
      all_leave (ends_job job _) (all_places state) state at
  arrived_leaves state (Ok arrivals.Quiet) bytes at = at
  arrived_leaves state (Ok arrivals.Stop) bytes at = at
  arrived_leaves state (Err fault) bytes at = at

  dues_leaves : (turn : Turn) (state : State) → state.last_reading ≡ now → Leaves now (dues node now turn state)
  dues_leaves Went state at =
      all_leave comes_due (due_places now state.tickets) state at
  dues_leaves Stopped state at = at

  pub react_leaves : (old : State) (answer : Result Arrival Failed) (bytes : List ℕ)
      → Leaves now (react node old now answer bytes)
  react_leaves old answer bytes =
      leaves_then now (arrived node now (record old { last_reading = now }) answer bytes) (dues node now (turn_end answer))
      (arrived_leaves (record old { last_reading = now }) answer bytes refl) (dues_leaves (turn_end answer))
