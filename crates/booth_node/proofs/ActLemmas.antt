-- What a ticket did is what the node does at its host.
use Rattle.std.specs.Prelude.{Option, Some, Result, is_ok}
use Rattle.std.proofs.Common.{◌≡◌, ℕ, ◌≤◌, slice_get, set, true, List, [], ◌∷◌, refl, sym, ap, ◌∙◌, subst}
use Rattle.booth_base.specs.declared.address.Peer.{Peer}
use Rattle.booth_base.specs.Tree.{Deeds, Ends, ◌>>=◌}
use Rattle.booth_wire.specs.declared.message.Head.{Head}
use Rattle.booth_wire.specs.declared.message.TicketPart.{TicketPart}
use Rattle.booth_wire.specs.Spelling.{Fits}
use Rattle.booth_auth.specs.Sealed.{sealed}
use Rattle.booth_host.specs.declared.entry.Entry.{Entry}
use Rattle.booth_host.specs.declared.entry.Entry.TheVariants as calls
use Rattle.booth_host.specs.declared.host.Failed.{Failed}
use Rattle.booth_host.specs.Past.{GrewBy}
use Rattle.booth_ticket.specs.declared.hands.To.{To}
use Rattle.booth_ticket.specs.Acts.{Say}
use Rattle.booth_ticket.specs.declared.waiters.Waiter.{Waiter}
use Rattle.booth_ticket.specs.Ticket.{TicketState, TicketLeft}
use Rattle.booth_ticket.specs.Waiting.{spare_in, waiting_at}
use Rattle.booth_node.specs.declared.event.Event.{Event}
use Rattle.booth_node.specs.declared.node_config.NodeConfig.{NodeConfig}
use Rattle.booth_node.specs.declared.state.Common.{Common}
use Rattle.booth_attr.specs.Attributes.{Attributes}
use Rattle.booth_node.specs.AttributeRequests.{is_ready}
use Rattle.booth_node.specs.Counting.{accepted, count_send}
use Rattle.booth_node.specs.Jobs.{job_at}
use Rattle.booth_node.specs.Led.{Led}
use Rattle.booth_node.specs.Reaction.{Answered, Ask, IsDone, Lifted, acts, acts_as, befalls, lifted, one_of, peer_of, sends, sent_as}
use Rattle.booth_node.specs.State.{State, state_of_parts, with_ticket}
use Rattle.booth_node.proofs.LedLemmas.{led_as, led_end, led_last, led_then}

module _ {H : Type 0} {past : H → Option (List Entry)} {faults : H → ℕ} {a b : H} where
  -- a send that the hands made
  pub said_to : (node : NodeConfig) (now : ℕ) (name : List ℕ) (common common' : Common) (to : To) (head : Head)
      (part : TicketPart) (peer : Peer) (frame : List ℕ) (answer : Result (Unit {0}) Failed)
      → peer_of node.config to ≡ Some peer → frame ≡ sealed node.ring (sent_as node now head part)
      → Fits (sent_as node now head part) → GrewBy (past a) (past b) (calls.Send peer frame answer ∷ [])
      → faults a ≤ faults b → common' ≡ count_send common to (is_ok answer)
      → Led past faults (IsDone node.ring) (one_of node now name common (Say to head part))
      (record { ok = true; common = common' }) a b
  said_to node now name common common' to head part peer frame answer there spelled fits grew later counted =
      let left : Common → Answered = λ c. record { ok = true; common = c } in
      led_as (ap (λ (o : Option Peer). sends o (sent_as node now head part) common to) (sym there))
      (ap left (sym counted))
      (led_last (is_ok answer) (calls.Send peer frame answer) (λ ok. left (count_send common to ok)) grew later
      (refl, spelled, fits, refl))

  -- one ticket's deeds among the others
  pub acted : (node : NodeConfig) (now place : ℕ) (event : Event) (state : State)
      (before : TicketState) (after : TicketLeft) (waiters : List (List Waiter)) (common : Common)
      (name : List ℕ) (job : Option ℕ)
      → slice_get state.tickets place ≡ Some before → name ≡ before.setup.ticket
      → job ≡ job_at node place state.common
      → waiters ≡ set state.waiters place after.waiters
      → Led past faults (IsDone node.ring)
      (lifted node now name state.common
      (befalls before (waiting_at state.waiters place) (spare_in state.waiters)
      (is_ready node state.attributes place) job event now))
      (record { common = common; left = after }) a b
      → Led past faults (IsDone node.ring) (acts node now state place event)
      (record {
        tickets = set state.tickets place after.ticket;
        waiters = waiters;
        attributes = state.attributes;
        common = common;
        last_reading = state.last_reading;
      }) a b
  acted node now place event state before after waiters common name job there named numbered same led =
      let deeds : List ℕ → Option ℕ → Deeds Ask State = λ n j.
      lifted node now n state.common
      (befalls before (waiting_at state.waiters place) (spare_in state.waiters)
      (is_ready node state.attributes place) j event now)
      >>= (λ (done : Lifted TicketLeft). Ends (with_ticket state place done.common done.left)) in
      let left : List (List Waiter) → State = λ ws. record {
        tickets = set state.tickets place after.ticket;
        waiters = ws;
        attributes = state.attributes;
        common = common;
        last_reading = state.last_reading;
      } in
      led_as
      (ap (λ (n : List ℕ). deeds n job) named ∙ ap (λ (j : Option ℕ). deeds before.setup.ticket j) numbered
      ∙ ap (λ (o : Option TicketState). acts_as node now state place event o) (sym there))
      (ap left (sym same))
      (led_then (λ (done : Lifted TicketLeft). Ends (with_ticket state place done.common done.left)) led led_end)

pub same_state : {ts ts' : List TicketState} {ws ws' : List (List Waiter)} {all all' : Attributes}
    {c c' : Common} (now : ℕ)
    → ts' ≡ ts → ws' ≡ ws → all' ≡ all → c' ≡ c → state_of_parts ts' ws' all' c' now ≡ state_of_parts ts ws all c now
same_state {ts} {ts'} {ws} {ws'} {all} {all'} {c} {c'} now tickets waiters attributes common =
    ap (λ (x : List TicketState). state_of_parts x ws' all' c' now) tickets
    ∙ ap (λ (x : List (List Waiter)). state_of_parts ts x all' c' now) waiters
    ∙ ap (λ (x : Attributes). state_of_parts ts ws x c' now) attributes
    ∙ ap (λ (x : Common). state_of_parts ts ws all x now) common

-- the same, seen from the state before the sender was counted
pub heard_so : {H : Type 0} {past : H → Option (List Entry)} {faults : H → ℕ} {a b : H} (node node' : NodeConfig)
    (now from place : ℕ) (event : Event) (old new left : State) (common : Common)
    → node' ≡ node → new ≡ record old { common = common } → common ≡ (accepted old from now).common
    → Led past faults (IsDone node'.ring) (acts node' now new place event) left a b
    → Led past faults (IsDone node.ring) (acts node now (accepted old from now) place event) left a b
heard_so {past = past} {faults = faults} {a} {b} node node' now from place event old new left common same_node same_state same_common led =
    subst (λ (c : Common). Led past faults (IsDone node.ring) (acts node now (record old { common = c }) place event) left a b)
    same_common
    (subst (λ (s : State). Led past faults (IsDone node.ring) (acts node now s place event) left a b) same_state
    (subst (λ (n : NodeConfig). Led past faults (IsDone n.ring) (acts n now new place event) left a b) same_node led))
