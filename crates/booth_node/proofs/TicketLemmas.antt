-- The laws on tickets: a node opens with those of its configuration, and every turn keeps them.
use Rattle.std.proofs.Common.{◌≡◌, ℕ, List, [], ◌∷◌, length, slice_get, refl, sym, subst}
use Rattle.std.specs.Prelude.{Option, Some, None, Result, Ok, Err}
use Rattle.std.proofs.lemmas.List.{length-replicate}
use Rattle.booth_base.specs.declared.address.Peer.{Peer}
use Rattle.booth_base.specs.Tree.{Ends, Leads}
use Rattle.booth_base.proofs.TreeLemmas.{Split, split}
use Rattle.booth_host.specs.declared.entry.Entry.{Entry}
use Rattle.booth_host.specs.declared.host.Arrival.{Arrival}
use Rattle.booth_host.specs.declared.host.Arrival.TheVariants as arrivals
use Rattle.booth_host.specs.declared.host.Failed.{Failed}
use Rattle.booth_ticket.specs.declared.waiters.Waiter.{Waiter}
use Rattle.booth_ticket.specs.Handling.{service_of}
use Rattle.booth_ticket.specs.Ticket.{TicketState}
use Rattle.booth_node.specs.declared.event.Event.{Event}
use Rattle.booth_node.specs.declared.event.Event.TheVariants.{Heard, Asked}
use Rattle.booth_node.specs.declared.node_config.NodeConfig.{NodeConfig}
use Rattle.booth_node.specs.Counting.{accepted, dropped}
use Rattle.booth_node.specs.Laws.{OpensWithItsTickets, KeepsItsTickets}
use Rattle.booth_node.specs.Opening.{AreSetUp, start_reading}
use Rattle.booth_node.specs.Reaction.{Action, Drops, Hears, Asks, Attends, Answers, Rests, IsDone, action, after_attending, acts, acts_as, all_places, arrived, dues, met, react, turn_end}
use Rattle.booth_node.specs.State.{State}
use Rattle.booth_node.proofs.PathLemmas.{sent_back}
use Rattle.booth_node.proofs.SetupLemmas.{started_set_up}
use Rattle.booth_node.proofs.StayLemmas.{acted_at, acted_set_up, dues_stay, each_over_stays, stays_here}

abbrev pub at_moment : State → ℕ → State
at_moment state now = record state { last_reading = now }

-- ---- the tickets

pub opens : OpensWithItsTickets
opens node records reading same = (
  started_set_up node (start_reading reading) 0 node.config.tickets records same,
  length-replicate {A = List Waiter} (length node.config.tickets) [],
)

module _ (node : NodeConfig) (now : ℕ) where
  acts_set_up : (state : State) (place : ℕ) (event : Event) (es : List Entry) (after : State)
      → AreSetUp node state
      → Leads (IsDone node.ring) (acts node now state place event) es (Ends after) → AreSetUp node after
  acts_set_up state place event es after set_up leads = by_ticket (slice_get state.tickets place) refl
    where
      by_ticket : (o : Option TicketState) → slice_get state.tickets place ≡ o → AreSetUp node after
      by_ticket None is =
          (stays_here node state after es set_up
          (subst (λ (o : Option TicketState). Leads (IsDone node.ring)
          (acts_as node now state place event o) es (Ends after))
          is leads)).set_up
      by_ticket (Some ticket) is =
          acted_set_up node now state place event ticket es after set_up is
          (acted_at node now state place event ticket es after is leads)

  met_set_up : (state : State) (from : Peer) (a : Action) (es : List Entry) (after : State)
      → AreSetUp node state
      → Leads (IsDone node.ring) (met node now state from a) es (Ends after) → AreSetUp node after
  met_set_up state from (Drops fault) es after set_up leads =
      (stays_here node (dropped state fault) after es set_up leads).set_up
  met_set_up state from (Hears member ticket head part) es after set_up leads =
      acts_set_up (accepted state member now) ticket (Heard member head part) es after set_up leads
  met_set_up state from (Asks ticket request) es after set_up leads =
      acts_set_up state ticket (Asked request) es after set_up leads
  met_set_up state from (Attends ticket request) [] after set_up leads = absurd cc
  met_set_up state from (Attends ticket request) (e ∷ es) after set_up leads =
      (stays_here node (after_attending state ticket request) after es set_up leads.2).set_up
  met_set_up state from (Answers messages) es after set_up leads =
      subst (λ (s : State). AreSetUp node s) (sym (sent_back node.ring from messages state es after leads).left) set_up
  met_set_up state from Rests es after set_up leads = (stays_here node state after es set_up leads).set_up

  pub arrived_set_up : (state : State) (arrival : Result Arrival Failed) (bytes : List ℕ) (es : List Entry)
      (after : State)
      → AreSetUp node state
      → Leads (IsDone node.ring) (arrived node now state arrival bytes) es (Ends after)
      → AreSetUp node after
  arrived_set_up state (Ok (arrivals.Datagram from)) bytes es after set_up leads =
      met_set_up state from (action node now state.tickets state.common from bytes) es after set_up leads
  arrived_set_up state (Ok (arrivals.Handler job status)) bytes es after set_up leads =
      (each_over_stays node now job (service_of status) (all_places state) state after es set_up leads).set_up
  arrived_set_up state (Ok arrivals.Quiet) bytes es after set_up leads =
      (stays_here node state after es set_up leads).set_up
  arrived_set_up state (Ok arrivals.Stop) bytes es after set_up leads =
      (stays_here node state after es set_up leads).set_up
  arrived_set_up state (Err failed) bytes es after set_up leads =
      (stays_here node state after es set_up leads).set_up

-- the arrival's row of a turn, and then the deadlines'
abbrev pub Parts : NodeConfig → State → ℕ → Result Arrival Failed → List ℕ → List Entry → State → Type 0
Parts node old now arrival bytes entries new =
    Split (IsDone node.ring) (arrived node now (at_moment old now) arrival bytes)
    (dues node now (turn_end arrival)) entries new

pub parts_of : (node : NodeConfig) (old new : State) (now : ℕ) (arrival : Result Arrival Failed)
    (bytes : List ℕ)
    (entries : List Entry) → Leads (IsDone node.ring) (react node old now arrival bytes) entries (Ends new)
    → Parts node old now arrival bytes entries new
parts_of node old new now arrival bytes entries leads =
    split (IsDone node.ring) (arrived node now (at_moment old now) arrival bytes)
    (dues node now (turn_end arrival))
    entries new leads

pub keeps : KeepsItsTickets
keeps node old new now arrival bytes entries set_up leads =
    let parts = parts_of node old new now arrival bytes entries leads in
    (dues_stay node now (turn_end arrival) parts.mid new parts.later
    (arrived_set_up node now (at_moment old now) arrival bytes parts.first parts.mid set_up
    parts.to_mid) parts.to_end).set_up
