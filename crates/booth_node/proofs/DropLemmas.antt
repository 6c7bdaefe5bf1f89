-- The laws on drops: what a datagram comes to, and that each fault is counted, once.
use Rattle.std.proofs.Common.{◌≡◌, ℕ, List, [], ◌∷◌, slice_get, refl, sym, ap, ◌∙◌, subst}
use Rattle.std.specs.Prelude.{Option, Some, None, Result, Ok, Err}
use Rattle.booth_base.specs.declared.address.Peer.{Peer}
use Rattle.booth_base.specs.Tree.{Ends, Leads, ◌>>=◌}
use Rattle.booth_base.proofs.TreeLemmas.{Split, at_end, split}
use Rattle.booth_wire.specs.PlainMessage.{PlainMessage}
use Rattle.booth_auth.specs.declared.admission.DropFault.{DropFault}
use Rattle.booth_auth.specs.Verdict.{verdict}
use Rattle.booth_host.specs.declared.entry.Entry.{Entry}
use Rattle.booth_host.specs.declared.host.Arrival.{Arrival}
use Rattle.booth_host.specs.declared.host.Arrival.TheVariants as arrivals
use Rattle.booth_host.specs.declared.host.Failed.{Failed}
use Rattle.booth_ticket.specs.declared.handling.Service.{Service}
use Rattle.booth_ticket.specs.Handling.{service_of}
use Rattle.booth_ticket.specs.Ticket.{TicketState}
use Rattle.booth_node.specs.declared.event.Event.{Event}
use Rattle.booth_node.specs.declared.event.Event.TheVariants.{Due, Heard, Asked, Over}
use Rattle.booth_node.specs.declared.node.Turn.{Turn}
use Rattle.booth_node.specs.declared.node.Turn.TheVariants.{Went, Stopped}
use Rattle.booth_node.specs.declared.node_config.NodeConfig.{NodeConfig}
use Rattle.booth_node.specs.Counting.{accepted, dropped}
use Rattle.booth_node.specs.Laws.{IsSettled, NothingRests, DropsAlone, CountsEachFault, drops_by, drops_after}
use Rattle.booth_node.specs.Reaction.{Action, Attends, IsDone, action, after_attending, acts, acts_as, all_places, arrived, demanded, due_places, dues, each_due, each_over, met, turn_end}
use Rattle.booth_node.specs.State.{State}
use Rattle.booth_node.proofs.RoutingLemmas.{ticket_below}
use Rattle.booth_node.proofs.ComesLemmas.{Comes, IsAnsweredAtOnce, IsAsked, IsAttended, IsHeard, comes}
use Rattle.booth_node.proofs.PathLemmas.{sent_back}
use Rattle.booth_node.proofs.StayLemmas.{acted_at, acted_undropped}
use Rattle.booth_node.proofs.TicketLemmas.{at_moment, parts_of}

-- ---- what a datagram comes to

settled : (node : NodeConfig) (from : Peer) (message : PlainMessage) (a : Action) → Comes node from message a
    → IsSettled node a
settled node from message a (IsAnsweredAtOnce to reply is replies) = subst (λ (x : Action). IsSettled node x)
    (sym is) tt
settled node from message a (IsAsked to place request is part named same_from same_number answer) =
    subst (λ (x : Action). IsSettled node x) (sym is)
    (ticket_below node.config.tickets part.ticket place named)
settled node from message a (IsAttended to place request is below number answer) =
    subst (λ (x : Action). IsSettled node x) (sym is) below
settled node from message a (IsHeard to member place part is content known named) =
    subst (λ (x : Action). IsSettled node x) (sym is) (known, named)

pub rests_not : NothingRests
rests_not node now state from bytes = by_verdict (verdict node.config node.ring node.me now bytes) refl
  where
    by_verdict : (v : Result PlainMessage DropFault) → verdict node.config node.ring node.me now bytes ≡ v
        → IsSettled node (action node now state.tickets state.common from bytes)
    by_verdict (Err fault) is =
        subst (λ (v : Result PlainMessage DropFault). IsSettled node
        (demanded node now state.tickets state.common from v))
        (sym is) tt
    by_verdict (Ok message) is =
        settled node from message (action node now state.tickets state.common from bytes)
        (comes node now state.tickets state.common from bytes message is)

-- ---- drops

pub alone : DropsAlone
alone node old new now from bytes fault entries is leads =
    subst (λ (v : Result PlainMessage DropFault).
    Leads (IsDone node.ring)
    (met node now (at_moment old now) from (demanded node now old.tickets old.common from v)
    >>= dues node now Went)
    entries (Ends new)) is leads

module _ (node : NodeConfig) (now : ℕ) where
  acts_undropped : (state : State) (place : ℕ) (event : Event) (es : List Entry) (after : State)
      → Leads (IsDone node.ring) (acts node now state place event) es (Ends after)
      → after.common.drops ≡ state.common.drops
  acts_undropped state place event es after leads = by_ticket (slice_get state.tickets place) refl
    where
      by_ticket : (o : Option TicketState) → slice_get state.tickets place ≡ o
          → after.common.drops ≡ state.common.drops
      by_ticket None is =
          ap (λ (s : State). s.common.drops)
          (at_end (IsDone node.ring) state after es
          (subst (λ (o : Option TicketState). Leads (IsDone node.ring)
          (acts_as node now state place event o) es (Ends after))
          is leads)).1
      by_ticket (Some ticket) is =
          acted_undropped node now state place event ticket es after
          (acted_at node now state place event ticket es after is leads)

  each_undropped : (places : List ℕ) (state after : State) (es : List Entry)
      → Leads (IsDone node.ring) (each_due node now places state) es (Ends after)
      → after.common.drops ≡ state.common.drops
  each_undropped [] state after es leads = ap (λ (s : State). s.common.drops)
      (at_end (IsDone node.ring) state after es leads).1
  each_undropped (place ∷ places) state after es leads =
      let parts : Split (IsDone node.ring) (acts node now state place Due) (each_due node now places)
      es after =
      split (IsDone node.ring) (acts node now state place Due) (each_due node now places) es after
      leads in
      each_undropped places parts.mid after parts.later parts.to_end
      ∙ acts_undropped state place Due parts.first parts.mid parts.to_mid

  each_over_undropped : (job : ℕ) (service : Service) (places : List ℕ) (state after : State) (es : List Entry)
      → Leads (IsDone node.ring) (each_over node now job service places state) es (Ends after)
      → after.common.drops ≡ state.common.drops
  each_over_undropped job service [] state after es leads = ap (λ (s : State). s.common.drops)
      (at_end (IsDone node.ring) state after es leads).1
  each_over_undropped job service (place ∷ places) state after es leads =
      let parts : Split (IsDone node.ring) (acts node now state place (Over job service))
      (each_over node now job service places) es after =
      split (IsDone node.ring) (acts node now state place (Over job service))
      (each_over node now job service places) es after leads in
      each_over_undropped job service places parts.mid after parts.later parts.to_end
      ∙ acts_undropped state place (Over job service) parts.first parts.mid parts.to_mid

  dues_undropped : (turn : Turn) (state after : State) (es : List Entry)
      → Leads (IsDone node.ring) (dues node now turn state) es (Ends after)
      → after.common.drops ≡ state.common.drops
  dues_undropped Went state after es leads = each_undropped (due_places now state.tickets) state after es
      leads
  dues_undropped Stopped state after es leads = ap (λ (s : State). s.common.drops)
      (at_end (IsDone node.ring) state after es leads).1

  let_in_undropped : (state : State) (from : Peer) (message : PlainMessage) (a : Action) (es : List Entry)
      (after : State)
      → Comes node from message a → Leads (IsDone node.ring) (met node now state from a) es (Ends after)
      → after.common.drops ≡ state.common.drops
  let_in_undropped state from message a es after (IsAnsweredAtOnce to replies is answers) leads =
      ap (λ (s : State). s.common.drops)
      (sent_back node.ring from replies state es after
      (subst (λ (x : Action). Leads (IsDone node.ring) (met node now state from x) es (Ends after)) is leads)).left
  let_in_undropped state from message a es after
      (IsAsked to place request is part named same_from same_number answer) leads =
      acts_undropped state place (Asked request) es after
      (subst (λ (x : Action). Leads (IsDone node.ring) (met node now state from x) es (Ends after)) is
      leads)
  let_in_undropped state from message a es after (IsAttended to place request is below number answer) leads =
      sent es (subst (λ (x : Action). Leads (IsDone node.ring) (met node now state from x) es
      (Ends after)) is leads)
    where
      sent : (es : List Entry)
          → Leads (IsDone node.ring) (met node now state from (Attends place request)) es (Ends after)
          → after.common.drops ≡ state.common.drops
      sent [] leads = absurd cc
      sent (e ∷ es) leads = ap (λ (s : State). s.common.drops)
          (at_end (IsDone node.ring) (after_attending state place request) after es leads.2).1
  let_in_undropped state from message a es after (IsHeard to member place part is content known named) leads =
      acts_undropped (accepted state member now) place (Heard member message.head part) es after
      (subst (λ (x : Action). Leads (IsDone node.ring) (met node now state from x) es (Ends after)) is
      leads)

  arrived_drops : (state : State) (arrival : Result Arrival Failed) (bytes : List ℕ) (es : List Entry)
      (after : State)
      → Leads (IsDone node.ring) (arrived node now state arrival bytes) es (Ends after)
      → after.common.drops ≡ drops_after node now state.common arrival bytes
  arrived_drops state (Ok (arrivals.Datagram from)) bytes es after leads =
      by_verdict (verdict node.config node.ring node.me now bytes) refl
    where
      by_verdict : (v : Result PlainMessage DropFault) → verdict node.config node.ring node.me now bytes ≡ v
          → after.common.drops ≡ drops_by state.common (verdict node.config node.ring node.me now bytes)
      by_verdict (Err fault) is =
          ap (λ (s : State). s.common.drops)
          (at_end (IsDone node.ring) (dropped state fault) after es
          (subst (λ (v : Result PlainMessage DropFault).
          Leads (IsDone node.ring)
          (met node now state from (demanded node now state.tickets state.common from v)) es
          (Ends after))
          is leads)).1
          ∙ ap (λ (v : Result PlainMessage DropFault). drops_by state.common v) (sym is)
      by_verdict (Ok message) is =
          let_in_undropped state from message (action node now state.tickets state.common from bytes) es
          after
          (comes node now state.tickets state.common from bytes message is) leads
          ∙ ap (λ (v : Result PlainMessage DropFault). drops_by state.common v) (sym is)
  arrived_drops state (Ok (arrivals.Handler job status)) bytes es after leads =
      each_over_undropped job (service_of status) (all_places state) state after es leads
  arrived_drops state (Ok arrivals.Quiet) bytes es after leads =
      ap (λ (s : State). s.common.drops) (at_end (IsDone node.ring) state after es leads).1
  arrived_drops state (Ok arrivals.Stop) bytes es after leads =
      ap (λ (s : State). s.common.drops) (at_end (IsDone node.ring) state after es leads).1
  arrived_drops state (Err failed) bytes es after leads =
      ap (λ (s : State). s.common.drops) (at_end (IsDone node.ring) state after es leads).1

pub counts : CountsEachFault
counts node old new now arrival bytes entries leads =
    let parts = parts_of node old new now arrival bytes entries leads in
    dues_undropped node now (turn_end arrival) parts.mid new parts.later parts.to_end
    ∙ arrived_drops node now (at_moment old now) arrival bytes parts.first parts.mid parts.to_mid
