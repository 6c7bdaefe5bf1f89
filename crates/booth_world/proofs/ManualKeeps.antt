-- What a turn of a node keeps of a manual ticket: each record's term is at least that of the record in force.
use Rattle.booth_wire.specs.PlainMessage.{PlainMessage}
use Rattle.std.proofs.Common.{◌≡◌, ◌≢◌, ◌⊎◌, inl, inr, ℕ, ◌≤◌, Bool, true, false, List, [], ◌∷◌, set, slice_get, refl, sym, ap, ◌∙◌, subst, arith}
use Rattle.std.specs.Prelude.{Option, Some, None, Result, Ok, Err}
use Rattle.std.proofs.lemmas.Option.{slice_get_within}
use Rattle.booth_base.specs.declared.address.Peer.{Peer}
use Rattle.booth_base.specs.Tree.{Deeds, Ends, Does, ◌>>=◌, each, ◌>>◌}
use Rattle.booth_chain.proofs.NodesLemmas.{same_or_not, slice_get-set_other, slice_get-set_same}
use Rattle.booth_conf.specs.declared.tickets.GrantKind.{GrantKind}
use Rattle.booth_conf.specs.declared.tickets.GrantKind.TheVariants as kinds
use Rattle.booth_wire.specs.declared.message.Setup.{Setup}
use Rattle.booth_host.specs.declared.host.Arrival.{Arrival}
use Rattle.booth_host.specs.declared.host.Arrival.TheVariants as arrivals
use Rattle.booth_host.specs.declared.host.Failed.{Failed}
use Rattle.booth_ticket.specs.declared.waiters.Waiter.{Waiter}
use Rattle.booth_ticket.specs.Acts.{Ask as TicketAsk, Keep as KeepsRecord, Start as StartsJob, Say}
use Rattle.booth_ticket.specs.declared.handling.Service.{Service}
use Rattle.booth_ticket.specs.Handling.{service_of}
use Rattle.booth_ticket.specs.Saying.{others}
use Rattle.booth_ticket.specs.Ticket.{TicketState, TicketLeft, Manual}
use Rattle.booth_ticket.specs.Waiting.{spare_in, waiting_at}
use Rattle.booth_node.specs.declared.node.Turn.{Turn}
use Rattle.booth_node.specs.declared.node.Turn.TheVariants.{Went, Stopped}
use Rattle.booth_node.specs.declared.node_config.NodeConfig.{NodeConfig}
use Rattle.booth_node.specs.declared.state.Common.{Common}
use Rattle.booth_node.specs.Befalling.{Befalling, comes_due, ends_job, is_told, is_asked}
use Rattle.booth_node.specs.AttributeRequests.{is_ready}
use Rattle.booth_node.specs.Counting.{accepted, count_send}
use Rattle.booth_node.specs.Jobs.{job_at, count_start}
use Rattle.booth_node.specs.Reaction.{Action, Drops, Hears, Asks, Attends, Answers, Rests, Ask, Send, Keep, Start, action, acts, acts_as, all_places, arrived, befalls, due_places, dues, each_due, each_over, met, peer_of, react, sent_as, turn_end, sends_back}
use Rattle.booth_node.specs.State.{State, with_ticket}
use Rattle.booth_world.proofs.Lists.{some_same}
use Rattle.booth_world.proofs.TellerClaims.{found_or_not}
use Rattle.booth_world.proofs.NodeTrees.{Minds, HasSetup, lifts, sends_on, minds_asked, minds_due, minds_heard, minds_over}
use Rattle.booth_world.proofs.ManualDeeds.{High, IsHigh, high_lower, IsHighLeft, BefallsHigh, due_high, told_high, asked_high, over_high}

-- ---- the node's deeds

module _ (name : List ℕ) (found : Option ℕ) where
  -- a manual ticket stands at a place with at least this term
  pub record IsHighOwn (place term : ℕ) (tickets : List TicketState) : Type 0 where
    pub ticket : TicketState
    pub own : slice_get tickets place ≡ Some ticket
    pub high : IsHigh term ticket.known

  -- where the ticket was found, it stands so, and no other has its name
  pub record IsPlaced (term : ℕ) (tickets : List TicketState) : Type 0 where
    pub own : (place : ℕ) → found ≡ Some place → IsHighOwn place term tickets
    pub others : (other : ℕ) (t : TicketState) → slice_get tickets other ≡ Some t → found ≢ Some other → t.setup.ticket ≢ name

  -- the same of the node's deeds, in which other tickets' keeps stand between
  abbrev pub KeepsHigh : ℕ → Deeds Ask State → Type 0
  KeepsHigh term (Ends state) = IsPlaced term state.tickets
  KeepsHigh term (Does (Send peer message) go) = (ok : Bool) → KeepsHigh term (go ok)
  KeepsHigh term (Does (Keep ticket_name kept) go) =
      ((ticket_name ≢ name) × ((ok : Bool) → KeepsHigh term (go ok)))
      ⊎ ((term ≤ kept.term) × KeepsHigh kept.term (go true) × KeepsHigh term (go false))
  KeepsHigh term (Does (Start job) go) = (ok : Bool) → KeepsHigh term (go ok)

  placed_lower : (term higher : ℕ) (tickets : List TicketState) → term ≤ higher → IsPlaced higher tickets → IsPlaced term tickets
  placed_lower term higher tickets less at = record {
    own = λ place here. let old : IsHighOwn place higher tickets = at.own place here in
        record { ticket = old.ticket; own = old.own; high = high_lower term higher old.ticket.known less old.high };
    others = at.others;
  }

  pub keeps_lower : (term higher : ℕ) (deeds : Deeds Ask State) → term ≤ higher → KeepsHigh higher deeds → KeepsHigh term deeds
  keeps_lower term higher (Ends state) less h = placed_lower term higher state.tickets less h
  keeps_lower term higher (Does (Send peer message) go) less h = λ ok. keeps_lower term higher (go ok) less (h ok)
  keeps_lower term higher (Does (Keep ticket_name kept) go) less (inl h) = inl (h.0, λ ok. keeps_lower term higher (go ok) less (h.1 ok))
  keeps_lower term higher (Does (Keep ticket_name kept) go) less (inr h) =
      inr (omega (arith, less, h.0), h.1, keeps_lower term higher (go false) less h.2)
  keeps_lower term higher (Does (Start job) go) less h = λ ok. keeps_lower term higher (go ok) less (h ok)

  keeps_next : (f : State → Deeds Ask State) (term : ℕ) (deeds : Deeds Ask State)
      → ((least : ℕ) (state : State) → IsPlaced least state.tickets → KeepsHigh least (f state))
      → KeepsHigh term deeds → KeepsHigh term (deeds >>= f)
  keeps_next f term (Ends state) on h = on term state h
  keeps_next f term (Does (Send peer message) go) on h = λ ok. keeps_next f term (go ok) on (h ok)
  keeps_next f term (Does (Keep ticket_name kept) go) on (inl h) = inl (h.0, λ ok. keeps_next f term (go ok) on (h.1 ok))
  keeps_next f term (Does (Keep ticket_name kept) go) on (inr h) =
      inr (h.0, keeps_next f kept.term (go true) on h.1, keeps_next f term (go false) on h.2)
  keeps_next f term (Does (Start job) go) on h = λ ok. keeps_next f term (go ok) on (h ok)

  module _ (node : NodeConfig) (moment : ℕ) where
    own_keeps : (ticket_name : List ℕ) (term : ℕ) (common : Common) (deeds : Deeds TicketAsk TicketLeft) (rest : Common → TicketLeft → Deeds Ask State)
        → High IsHighLeft term deeds
        → ((least : ℕ) (counted : Common) (left : TicketLeft) → IsHighLeft least left → KeepsHigh least (rest counted left))
        → KeepsHigh term (lifts node moment ticket_name common deeds rest)
    own_keeps ticket_name term common (Ends left) rest h on = on term common left h
    own_keeps ticket_name term common (Does (KeepsRecord kept) go) rest h on =
        inr (h.0, own_keeps ticket_name kept.term common (go true) rest h.1 on, own_keeps ticket_name term common (go false) rest h.2 on)
    own_keeps ticket_name term common (Does (StartsJob job expires) go) rest h on =
        λ ok. own_keeps ticket_name term (count_start common) (go ok) rest (h ok) on
    own_keeps ticket_name term common (Does (Say to head part) go) rest h on =
        by_peer (peer_of node.config to) (λ counted. own_keeps ticket_name term counted (go true) rest h on)
      where
        by_peer : (o : Option Peer) → ((counted : Common) → KeepsHigh term (lifts node moment ticket_name counted (go true) rest))
            → KeepsHigh term (sends_on node moment ticket_name o (sent_as node moment head part) common to go rest)
        by_peer None more = more common
        by_peer (Some peer) more = λ ok. more (count_send common to ok)

    other_keeps : (ticket_name : List ℕ) → ticket_name ≢ name → (term : ℕ) (common : Common) (P : TicketLeft → Type 0) (deeds : Deeds TicketAsk TicketLeft)
        (rest : Common → TicketLeft → Deeds Ask State)
        → Minds P ticket_name deeds → ((counted : Common) (left : TicketLeft) → P left → KeepsHigh term (rest counted left))
        → KeepsHigh term (lifts node moment ticket_name common deeds rest)
    other_keeps ticket_name other term common P (Ends left) rest m on = on common left m
    other_keeps ticket_name other term common P (Does (KeepsRecord kept) go) rest m on =
        inl (other, λ ok. other_keeps ticket_name other term common P (go ok) rest (m ok) on)
    other_keeps ticket_name other term common P (Does (StartsJob job expires) go) rest m on =
        λ ok. other_keeps ticket_name other term (count_start common) P (go ok) rest (m ok) on
    other_keeps ticket_name other term common P (Does (Say to head part) go) rest m on =
        by_peer (peer_of node.config to) (λ counted. other_keeps ticket_name other term counted P (go true) rest m.1 on)
      where
        by_peer : (o : Option Peer) → ((counted : Common) → KeepsHigh term (lifts node moment ticket_name counted (go true) rest))
            → KeepsHigh term (sends_on node moment ticket_name o (sent_as node moment head part) common to go rest)
        by_peer None more = more common
        by_peer (Some peer) more = λ ok. more (count_send common to ok)

    -- what a ticket left stands in its place
    own_left : (state : State) (place term least : ℕ) (counted : Common) (left : TicketLeft) → IsPlaced term state.tickets → found ≡ Some place
        → IsHighLeft least left → IsPlaced least (with_ticket state place counted left).tickets
    own_left state place term least counted left at here high =
        let old : IsHighOwn place term state.tickets = at.own place here in
        let new : IsHighOwn place least (with_ticket state place counted left).tickets = record {
          ticket = left.ticket;
          own = slice_get-set_same state.tickets place left.ticket (slice_get_within state.tickets place old.ticket old.own);
          high = high;
        } in
        record {
          own = λ p e. subst (λ (n : ℕ). IsHighOwn n least (with_ticket state place counted left).tickets) (some_same place p (sym here ∙ e)) new;
          others = λ other t is ne.
              at.others other t
              (sym (slice_get-set_other state.tickets place other left.ticket (λ q. ne (here ∙ ap (λ (n : ℕ). Some n) (sym q)))) ∙ is) ne;
        }

    other_left : (state : State) (other term : ℕ) (t : TicketState) (counted : Common) (left : TicketLeft) → IsPlaced term state.tickets
        → slice_get state.tickets other ≡ Some t → found ≢ Some other → left.ticket.setup ≡ t.setup
        → IsPlaced term (with_ticket state other counted left).tickets
    other_left state other term t counted left at is ne same = record {
      own = λ p e. let old : IsHighOwn p term state.tickets = at.own p e in
          record {
            ticket = old.ticket;
            own = slice_get-set_other state.tickets other p left.ticket (λ q. ne (e ∙ ap (λ (n : ℕ). Some n) q)) ∙ old.own;
            high = old.high;
          };
      others = λ o u read away. by_place o u read away (same_or_not o other);
    }
      where
        by_place : (o : ℕ) (u : TicketState) → slice_get (set state.tickets other left.ticket) o ≡ Some u → found ≢ Some o → (o ≡ other) ⊎ (o ≢ other)
            → u.setup.ticket ≢ name
        by_place o u read away (inl e) =
            let there : slice_get (set state.tickets other left.ticket) other ≡ Some left.ticket =
            slice_get-set_same state.tickets other left.ticket (slice_get_within state.tickets other t is) in
            let u_is : u ≡ left.ticket =
            some_same u left.ticket (sym (subst (λ (n : ℕ). slice_get (set state.tickets other left.ticket) n ≡ Some u) e read) ∙ there) in
            λ named. at.others other t is ne
            (ap (λ (x : Setup). x.ticket) (sym same) ∙ ap (λ (x : TicketState). x.setup.ticket) (sym u_is) ∙ named)
        by_place o u read away (inr apart) =
            at.others o u (sym (slice_get-set_other state.tickets other o left.ticket apart) ∙ read) away

    abbrev MindsEvent : Befalling → Type 0
    MindsEvent event =
        (t : TicketState) (waiters : List Waiter) (spare : ℕ) (ready : GrantKind → Bool) (job : Option ℕ)
        → Minds (HasSetup t.setup moment) t.setup.ticket (befalls t waiters spare ready job event moment)

    acts_keep : (state : State) (at_place term : ℕ) (event : Befalling) → BefallsHigh moment event → MindsEvent event
        → IsPlaced term state.tickets → KeepsHigh term (acts node moment state at_place event)
    acts_keep state at_place term event own_high minds at = by_place (found_or_not found at_place)
      where
        own : found ≡ Some at_place → KeepsHigh term (acts node moment state at_place event)
        own here =
            let placed : IsHighOwn at_place term state.tickets = at.own at_place here in
            subst (λ (o : Option TicketState). KeepsHigh term (acts_as node moment state at_place event o)) (sym placed.own)
            (own_keeps placed.ticket.setup.ticket term state.common
            (befalls placed.ticket (waiting_at state.waiters at_place) (spare_in state.waiters) (is_ready node state.attributes at_place)
            (job_at node at_place state.common) event moment)
            (λ common left. Ends (with_ticket state at_place common left))
            (own_high placed.ticket.setup placed.ticket.known (waiting_at state.waiters at_place) (spare_in state.waiters) term
            (is_ready node state.attributes at_place) (job_at node at_place state.common) placed.high)
            (λ least counted left high. own_left state at_place term least counted left at here high))

        other : found ≢ Some at_place → (o : Option TicketState) → slice_get state.tickets at_place ≡ o
            → KeepsHigh term (acts_as node moment state at_place event o)
        other ne None is = at
        other ne (Some t) is =
            other_keeps t.setup.ticket (at.others at_place t is ne) term state.common (HasSetup t.setup moment)
            (befalls t (waiting_at state.waiters at_place) (spare_in state.waiters) (is_ready node state.attributes at_place)
            (job_at node at_place state.common) event moment)
            (λ common left. Ends (with_ticket state at_place common left))
            (minds t (waiting_at state.waiters at_place) (spare_in state.waiters) (is_ready node state.attributes at_place)
            (job_at node at_place state.common))
            (λ counted left same. other_left state at_place term t counted left at is ne same)

        by_place : (found ≡ Some at_place) ⊎ (found ≢ Some at_place) → KeepsHigh term (acts node moment state at_place event)
        by_place (inl here) = own here
        by_place (inr ne) = other ne (slice_get state.tickets at_place) refl

    due_acts : (state : State) (at_place term : ℕ) → IsPlaced term state.tickets → KeepsHigh term (acts node moment state at_place comes_due)
    due_acts state at_place term at =
        acts_keep state at_place term comes_due (due_high moment) (λ t waiters spare ready job. minds_due t.setup moment t.known waiters (ready kinds.Auto) job) at

    met_keeps : (state : State) (from : Peer) (a : Action) (term : ℕ) → IsPlaced term state.tickets
        → KeepsHigh term (met node moment state from a)
    met_keeps state from (Drops fault) term at = at
    met_keeps state from (Hears member ticket head part) term at =
        acts_keep (accepted state member moment) ticket term (is_told member head part) (told_high moment member head part)
        (λ t waiters spare ready job. minds_heard t.setup moment t.known waiters member head part) at
    met_keeps state from (Asks ticket request) term at =
        acts_keep state ticket term (is_asked request) (asked_high moment request)
        (λ t waiters spare ready job. minds_asked t.setup moment t.known waiters spare (ready kinds.Manual) job request) at
    met_keeps state from (Attends ticket request) term at = λ ok. at
    met_keeps state from (Answers messages) term at = told messages
      where
        told : (messages : List PlainMessage) → KeepsHigh term (each (sends_back from) messages >> Ends state)
        told [] = at
        told (message ∷ messages) = λ ok. told messages
    met_keeps state from Rests term at = at

    -- a job is over, and each ticket is told
    over_keeps : (number : ℕ) (service : Service) (places : List ℕ) (term : ℕ) (state : State) → IsPlaced term state.tickets
        → KeepsHigh term (each_over node moment number service places state)
    over_keeps number service [] term state at = at
    over_keeps number service (p ∷ places) term state at =
        keeps_next (each_over node moment number service places) term (acts node moment state p (ends_job number service))
        (λ least left placed. over_keeps number service places least left placed)
        (acts_keep state p term (ends_job number service) (over_high moment number service)
        (λ t waiters spare ready job. minds_over t.setup moment t.known waiters number service) at)

    arrived_keeps : (state : State) (arrival : Result Arrival Failed) (bytes : List ℕ) (term : ℕ) → IsPlaced term state.tickets
        → KeepsHigh term (arrived node moment state arrival bytes)
    arrived_keeps state (Ok (arrivals.Datagram from)) bytes term at =
        met_keeps state from (action node moment state.tickets state.common from bytes) term at
    arrived_keeps state (Ok (arrivals.Handler job status)) bytes term at =
        over_keeps job (service_of status) (all_places state) term state at
    arrived_keeps state (Ok arrivals.Quiet) bytes term at = at
    arrived_keeps state (Ok arrivals.Stop) bytes term at = at
    arrived_keeps state (Err failed) bytes term at = at

    each_keeps : (places : List ℕ) (term : ℕ) (state : State) → IsPlaced term state.tickets
        → KeepsHigh term (each_due node moment places state)
    each_keeps [] term state at = at
    each_keeps (p ∷ places) term state at =
        keeps_next (each_due node moment places) term (acts node moment state p comes_due)
        (λ least left placed. each_keeps places least left placed) (due_acts state p term at)

    dues_keep : (turn : Turn) (term : ℕ) (state : State) → IsPlaced term state.tickets → KeepsHigh term (dues node moment turn state)
    dues_keep Went term state at = each_keeps (due_places moment state.tickets) term state at
    dues_keep Stopped term state at = at

    -- a turn keeps no record of the ticket of a lesser term
    pub turn_keeps : (state : State) (arrival : Result Arrival Failed) (bytes : List ℕ) (term : ℕ) → IsPlaced term state.tickets
        → KeepsHigh term (react node state moment arrival bytes)
    turn_keeps state arrival bytes term at =
        keeps_next (dues node moment (turn_end arrival)) term
        (arrived node moment (record state { last_reading = moment }) arrival bytes)
        (λ least left placed. dues_keep (turn_end arrival) least left placed)
        (arrived_keeps (record state { last_reading = moment }) arrival bytes term at)
