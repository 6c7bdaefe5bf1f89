-- The turns of a node whose ticket is behind a site, or leads.
use Rattle.std.proofs.Common.{◌≡◌, ◌≢◌, inl, inr, ℕ, ◌≤◌, Bool, true, List, [], ◌∷◌, refl, sym, ap, ◌∙◌, subst, arith}
use Rattle.std.specs.Prelude.{Option, Some, None, Result, Ok, Err, option_map, slice_get}
use Rattle.std.proofs.lemmas.Option.{slice_get_within}
use Rattle.booth_base.specs.declared.address.Peer.{Peer}
use Rattle.booth_base.specs.Tree.{Deeds, Ends, Does, ◌>>=◌, ◌>>◌, each}
use Rattle.booth_chain.proofs.NodesLemmas.{same_or_not, slice_get-set_other, slice_get-set_same}
use Rattle.booth_conf.specs.declared.tickets.GrantKind.{GrantKind}
use Rattle.booth_conf.specs.declared.tickets.GrantKind.TheVariants as kinds
use Rattle.booth_host.specs.declared.host.Arrival.{Arrival}
use Rattle.booth_host.specs.declared.host.Arrival.TheVariants as arrivals
use Rattle.booth_host.specs.declared.host.Failed.{Failed}
use Rattle.booth_wire.specs.declared.message.Setup.{Setup}
use Rattle.booth_wire.specs.PlainMessage.{PlainMessage}
use Rattle.booth_raft.specs.declared.view.View.{View}
use Rattle.booth_raft.specs.GainReleaseLost.{own_end}
use Rattle.booth_ticket.specs.declared.handling.Service.{Service}
use Rattle.booth_ticket.specs.declared.request.Given.{Given}
use Rattle.booth_ticket.specs.declared.waiters.Waiter.{Waiter}
use Rattle.booth_ticket.specs.Acts.{Ask as TicketAsk, Keep as KeepsRecord, Start as StartsJob, Say}
use Rattle.booth_ticket.specs.Automatic.{come_due, end_job, hear}
use Rattle.booth_ticket.specs.Handling.{service_of}
use Rattle.booth_ticket.specs.Requests.{follow_request}
use Rattle.booth_ticket.specs.Ticket.{Automatic, TicketLeft, TicketState, left_as}
use Rattle.booth_ticket.specs.Waiting.{Left, spare_in, waiting_at}
use Rattle.booth_ticket.proofs.WalkLemmas.{Any}
use Rattle.booth_node.specs.declared.node.Turn.{Turn}
use Rattle.booth_node.specs.declared.node.Turn.TheVariants.{Went, Stopped}
use Rattle.booth_node.specs.declared.node_config.NodeConfig.{NodeConfig}
use Rattle.booth_node.specs.declared.state.Common.{Common}
use Rattle.booth_node.specs.AttributeRequests.{is_ready}
use Rattle.booth_node.specs.Befalling.{Befalling, comes_due, ends_job, is_asked, is_told}
use Rattle.booth_node.specs.Counting.{accepted, count_send}
use Rattle.booth_node.specs.Jobs.{count_start, handler_at, job_at}
use Rattle.booth_node.specs.Reaction.{Action, Drops, Hears, Asks, Attends, Answers, Rests, Ask, Lifted, action, acts, acts_as, all_places, arrived, befalls, due_places, dues, each_due, each_over, lifted, met, peer_of, react, sends, sends_back, sent_as, turn_end}
use Rattle.booth_node.specs.State.{State, with_ticket}
use Rattle.booth_progress.specs.Behind.{IsBehind}
use Rattle.booth_progress.specs.Leading.{KeepsLease}
use Rattle.booth_progress.specs.Turns.{HasView, HasSomeView, IsFairTo, IsLeft, IsNoRevoke, Meets, TurnsKeepLeases, TurnsStayBehind}
use Rattle.booth_progress.specs.Written.{IsKept, IsWritten, Leaves, Whenever}
use Rattle.booth_progress.proofs.BehindLemmas.{members_stay_behind}
use Rattle.booth_progress.proofs.DueLemmas.{IsIn}
use Rattle.booth_progress.proofs.ExtendingLemmas.{leading_later}
use Rattle.booth_progress.proofs.TicketLemmas.{tickets_keep_leases, tickets_stay_behind}
use Rattle.booth_progress.proofs.WrittenLemmas.{whatever, whenever_on, whenever_then}

abbrev pub given_of : ℕ → Bool → Option ℕ → Given
given_of now ready job = record { now = now; ready = ready; job = job }

module _ (node : NodeConfig) (now place : ℕ) (setup : Setup) (Holds : View → Type 0) where
  abbrev pub Kept : State → Type 0
  Kept state = IsLeft now place setup Holds state

  abbrev pub Keeps : Deeds Ask State → Type 0
  Keeps deeds = Whenever IsKept Kept deeds

  -- ---- one ticket

  lifted_keeps : (name : List ℕ) (Q : TicketLeft → Type 0) (rest : Lifted TicketLeft → Deeds Ask State) (common : Common)
      (deeds : Deeds TicketAsk TicketLeft) → Whenever IsWritten Q deeds
      → ((counted : Common) (left : TicketLeft) → Q left → Keeps (rest (record { common = counted; left = left })))
      → Keeps (lifted node now name common deeds >>= rest)
  lifted_keeps name Q rest common (Ends left) h on = on common left h
  lifted_keeps name Q rest common (Does (KeepsRecord tried) go) h on = λ ok is. lifted_keeps name Q rest common (go ok) (h ok is) on
  lifted_keeps name Q rest common (Does (StartsJob job expires) go) h on =
      λ ok is. lifted_keeps name Q rest (count_start common) (go ok) (h ok tt) on
  lifted_keeps name Q rest common (Does (Say to head part) go) h on =
      by_peer (peer_of node.config to) (λ counted. lifted_keeps name Q rest counted (go true) (h true tt) on)
    where
      by_peer : (o : Option Peer) → ((counted : Common) → Keeps (lifted node now name counted (go true) >>= rest))
          → Keeps ((sends o (sent_as node now head part) common to >>= (λ done. lifted node now name done.common (go done.ok))) >>= rest)
      by_peer None more = more common
      by_peer (Some peer) more = λ ok is. more (count_send common to ok)

  abbrev pub LeftSo : TicketLeft → Type 0
  LeftSo left = (view : View) × (left.ticket ≡ record { setup = setup; known = Automatic view }) × Holds view

  replaced : (state : State) (view : View) (common : Common) (left : TicketLeft) → state.last_reading ≡ now → HasView state place setup view
      → LeftSo left → Kept (with_ticket state place common left)
  replaced state view common left reading there (after, same, holds) = record {
    reading = reading;
    ticket = (
      after,
      slice_get-set_same state.tickets place left.ticket
          (slice_get_within state.tickets place (record { setup = setup; known = Automatic view }) there)
          ∙ ap (λ (t : TicketState). Some t) same,
      holds,
    );
  }

  passed_by : (state : State) (other : ℕ) (common : Common) (left : TicketLeft) → place ≢ other → Kept state
      → Kept (with_ticket state other common left)
  passed_by state other common left apart kept =
      let view : View = kept.ticket.0 in
      record {
        reading = kept.reading;
        ticket = (view, slice_get-set_other state.tickets other place left.ticket apart ∙ kept.ticket.1, kept.ticket.2);
      }

  -- what happens to the ticket leaves it so
  abbrev pub Befalls : Befalling → Type 0
  Befalls event =
      (view : View) (waiters : List Waiter) (spare : ℕ) (ready : GrantKind → Bool) (common : Common) → Holds view
      → Whenever IsWritten LeftSo (befalls (record { setup = setup; known = Automatic view }) waiters spare ready
      (job_at node place common) event now)

  pub acts_other : (state : State) (other : ℕ) (event : Befalling) → place ≢ other → Kept state → Keeps (acts node now state other event)
  acts_other state other event apart h = by_ticket (slice_get state.tickets other)
    where
      by_ticket : (o : Option TicketState) → Keeps (acts_as node now state other event o)
      by_ticket None = h
      by_ticket (Some t) =
          lifted_keeps t.setup.ticket Any (λ done. Ends (with_ticket state other done.common done.left)) state.common
          (befalls t (waiting_at state.waiters other) (spare_in state.waiters) (is_ready node state.attributes other)
          (job_at node other state.common) event now)
          (whatever IsWritten (befalls t (waiting_at state.waiters other) (spare_in state.waiters)
          (is_ready node state.attributes other) (job_at node other state.common) event now))
          (λ counted left any. passed_by state other counted left apart h)

  pub acts_from : (state : State) (view : View) (event : Befalling) → state.last_reading ≡ now → HasView state place setup view
      → ((waiters : List Waiter) (spare : ℕ) (ready : GrantKind → Bool) (common : Common)
      → Whenever IsWritten LeftSo (befalls (record { setup = setup; known = Automatic view }) waiters spare ready
      (job_at node place common) event now))
      → Keeps (acts node now state place event)
  acts_from state view event reading there so =
      subst (λ (o : Option TicketState). Keeps (acts_as node now state place event o)) (sym there)
      (lifted_keeps setup.ticket LeftSo (λ done. Ends (with_ticket state place done.common done.left)) state.common
      (befalls (record { setup = setup; known = Automatic view }) (waiting_at state.waiters place) (spare_in state.waiters)
      (is_ready node state.attributes place) (job_at node place state.common) event now)
      (so (waiting_at state.waiters place) (spare_in state.waiters) (is_ready node state.attributes place) state.common)
      (λ counted left l. replaced state view counted left reading there l))

  acts_here : (state : State) (event : Befalling) → Befalls event → Kept state → Keeps (acts node now state place event)
  acts_here state event so kept = by_view kept.ticket
    where
      by_view : HasSomeView state place setup Holds → Keeps (acts node now state place event)
      by_view (view, there, holds) =
          acts_from state view event kept.reading there (λ waiters spare ready common. so view waiters spare ready common holds)

  acts_at : (state : State) (other : ℕ) (event : Befalling) → (other ≡ place → Befalls event) → Kept state
      → Keeps (acts node now state other event)
  acts_at state other event so h =
      elim (same_or_not place other) [
        | inl same ↦
            subst (λ (p : ℕ). Keeps (acts node now state p event)) same (acts_here state event (so (sym same)) h)
        | inr apart ↦ acts_other state other event apart h
      ]

  -- ---- all tickets

  through_over : (job : ℕ) (service : Service) → Befalls (ends_job job service) → (places : List ℕ) (state : State) → Kept state
      → Keeps (each_over node now job service places state)
  through_over job service so [] state h = h
  through_over job service so (p ∷ places) state h =
      whenever_then IsKept Kept Kept (acts node now state p (ends_job job service)) (each_over node now job service places)
      (acts_at state p (ends_job job service) (λ same. so) h) (λ left l. through_over job service so places left l)

  through_due : Befalls comes_due → (places : List ℕ) (state : State) → Kept state → Keeps (each_due node now places state)
  through_due so [] state h = h
  through_due so (p ∷ places) state h =
      whenever_then IsKept Kept Kept (acts node now state p comes_due) (each_due node now places)
      (acts_at state p comes_due (λ same. so) h) (λ left l. through_due so places left l)

  -- a ticket that is not among them is left as it is
  pub through_others : (places : List ℕ) (state : State) → (IsIn place places → ⊥) → Kept state → Keeps (each_due node now places state)
  through_others [] state apart h = h
  through_others (p ∷ places) state apart h =
      whenever_then IsKept Kept Kept (acts node now state p comes_due) (each_due node now places)
      (acts_other state p comes_due (λ same. apart (inl (sym same))) h) (λ left l. through_others places left (λ among. apart (inr among)) l)

  pub dues_keep : Befalls comes_due → (turn : Turn) (state : State) → Kept state → Keeps (dues node now turn state)
  dues_keep so Went state h = through_due so (due_places now state.tickets) state h
  dues_keep so Stopped state h = h

  -- what a datagram may do to the ticket
  abbrev pub Allows : Action → Type 0
  Allows (Hears from ticket head part) = ticket ≡ place → Befalls (is_told from head part)
  Allows (Asks ticket request) = ticket ≡ place → Befalls (is_asked request)
  Allows other = Unit {0}

  pub met_keeps : (state : State) (from : Peer) (a : Action) → Allows a → Kept state → Keeps (met node now state from a)
  met_keeps state from (Drops fault) allows h = record { reading = h.reading; ticket = h.ticket }
  met_keeps state from (Hears member ticket head part) allows h =
      acts_at (accepted state member now) ticket (is_told member head part) allows (record { reading = h.reading; ticket = h.ticket })
  met_keeps state from (Asks ticket request) allows h = acts_at state ticket (is_asked request) allows h
  met_keeps state from (Attends ticket request) allows h = λ ok is. record { reading = h.reading; ticket = h.ticket }
  met_keeps state from (Answers messages) allows h = told messages
    where
      told : (messages : List PlainMessage) → Keeps (each (sends_back from) messages >> Ends state)
      told [] = h
      told (message ∷ messages) = λ ok is. told messages
  met_keeps state from Rests allows h = h

  pub arrived_keeps : (state : State) (arrival : Result Arrival Failed) (bytes : List ℕ) → Meets node now state arrival bytes Allows
      → ((job : ℕ) (service : Service) → Befalls (ends_job job service)) → Kept state → Keeps (arrived node now state arrival bytes)
  arrived_keeps state (Ok (arrivals.Datagram from)) bytes allows over h =
      met_keeps state from (action node now state.tickets state.common from bytes) allows h
  arrived_keeps state (Ok (arrivals.Handler job status)) bytes allows over h =
      through_over job (service_of status) (over job (service_of status)) (all_places state) state h
  arrived_keeps state (Ok arrivals.Quiet) bytes allows over h = h
  arrived_keeps state (Ok arrivals.Stop) bytes allows over h = h
  arrived_keeps state (Err failed) bytes allows over h = h

  pub arrival_keeps : (state : State) (arrival : Result Arrival Failed) (bytes : List ℕ)
      → Meets node now state arrival bytes Allows
      → ((job : ℕ) (service : Service) → Befalls (ends_job job service)) → HasSomeView state place setup Holds
      → Keeps (arrived node now (record state { last_reading = now }) arrival bytes)
  arrival_keeps state arrival bytes allows over h =
      arrived_keeps (record state { last_reading = now }) arrival bytes (same_meets arrival allows) over (record { reading = refl; ticket = h })
    where
      same_meets : (arrival : Result Arrival Failed) → Meets node now state arrival bytes Allows
          → Meets node now (record state { last_reading = now }) arrival bytes Allows
      same_meets (Ok (arrivals.Datagram from)) m = m
      same_meets (Ok (arrivals.Handler job status)) m = tt
      same_meets (Ok arrivals.Quiet) m = tt
      same_meets (Ok arrivals.Stop) m = tt
      same_meets (Err failed) m = tt

  turn_keeps : (state : State) (arrival : Result Arrival Failed) (bytes : List ℕ)
      → Meets node now state arrival bytes Allows
      → ((job : ℕ) (service : Service) → Befalls (ends_job job service)) → Befalls comes_due → HasSomeView state place setup Holds
      → Keeps (react node state now arrival bytes)
  turn_keeps state arrival bytes allows over due h =
      whenever_then IsKept Kept Kept (arrived node now (record state { last_reading = now }) arrival bytes) (dues node now (turn_end arrival))
      (arrival_keeps state arrival bytes allows over h) (λ left l. dues_keep due (turn_end arrival) left l)

  -- a call of an automatic ticket as an event
  pub left_so : (deeds : Deeds TicketAsk Left) → Leaves setup Holds deeds
      → Whenever IsWritten LeftSo (deeds >>= (λ left. Ends (left_as left)))
  left_so deeds h =
      whenever_then IsWritten (λ (left : Left). (left.core.setup ≡ setup) × Holds left.core.view) LeftSo deeds _ h
      (λ left l. (
        left.core.view,
        ap (λ (s : Setup). let t : TicketState = record { setup = s; known = Automatic left.core.view } in t) l.0,
        l.1,
      ))

pub meets_on : (node : NodeConfig) (now : ℕ) (state : State) (arrival : Result Arrival Failed) (bytes : List ℕ)
    (May Might : Action → Type 0) → ((a : Action) → May a → Might a) → Meets node now state arrival bytes May
    → Meets node now state arrival bytes Might
meets_on node now state (Ok (arrivals.Datagram from)) bytes May Might on m = on _ m
meets_on node now state (Ok (arrivals.Handler job status)) bytes May Might on m = tt
meets_on node now state (Ok arrivals.Quiet) bytes May Might on m = tt
meets_on node now state (Ok arrivals.Stop) bytes May Might on m = tt
meets_on node now state (Err failed) bytes May Might on m = tt

-- ---- a member that is behind a site

pub turns_stay_behind : TurnsStayBehind
turns_stay_behind node state place setup site since term until before now arrival bytes earlier in_time lasts other (view, there, behind) meets =
    turn_keeps node now place setup Behind state arrival bytes
    (meets_on node now state arrival bytes (IsFairTo place site since term) (Allows node now place setup Behind) by_action meets)
    (λ job service v waiters spare ready common b.
    left_so node now place setup Behind (end_job (record { setup = setup; view = v }) waiters job service now)
    (tickets_stay_behind.over setup v waiters site since term until job service now b))
    (λ v waiters spare ready common b.
    left_so node now place setup Behind (come_due (record { setup = setup; view = v }) waiters (given_of now (ready kinds.Auto) (job_at node place common)))
    (tickets_stay_behind.due setup v waiters site since term until (given_of now (ready kinds.Auto) (job_at node place common)) in_time other b))
    (view, there, members_stay_behind.passes view site since term term until before now (omega arith) earlier behind)
  where
    Behind : View → Type 0
    Behind v = IsBehind site since term until now v

    by_action : (a : Action) → IsFairTo place site since term a → Allows node now place setup Behind a
    by_action (Drops fault) fair = tt
    by_action (Hears from ticket head part) fair = λ same v waiters spare ready common b.
        left_so node now place setup Behind (hear (record { setup = setup; view = v }) waiters from head part now)
        (tickets_stay_behind.heard setup v waiters site since term until from head part now in_time lasts b (fair same))
    by_action (Asks ticket request) fair = λ same v waiters spare ready common b.
        left_so node now place setup Behind (follow_request (record { setup = setup; view = v }) waiters spare (given_of now (ready kinds.Manual) (job_at node place common)) request request.wish)
        (tickets_stay_behind.asked setup v waiters site since term until spare (given_of now (ready kinds.Manual) (job_at node place common)) request in_time other b)
    by_action (Attends ticket request) fair = tt
    by_action (Answers messages) fair = tt
    by_action Rests fair = tt

-- ---- a leader

pub no_job : (handler : Option (List ℕ)) (common : Common) → handler ≡ None → option_map (λ h. common.next_job) handler ≡ None
no_job None common none = refl
no_job (Some handler) common none = absurd cc

pub turns_keep_leases : TurnsKeepLeases
turns_keep_leases node state place setup view before now arrival bytes earlier runs short no_handler two there leads meets =
    turn_keeps node now place setup Leads state arrival bytes
    (meets_on node now state arrival bytes (IsNoRevoke place) (Allows node now place setup Leads) by_action meets)
    (λ job service v waiters spare ready common k.
    left_so node now place setup Leads (end_job (record { setup = setup; view = v }) waiters job service now)
    (kept_on v (end_job (record { setup = setup; view = v }) waiters job service now) k
    (tickets_keep_leases.over setup v waiters job service now k.leading)))
    (λ v waiters spare ready common k.
    left_so node now place setup Leads (come_due (record { setup = setup; view = v }) waiters (given_of now (ready kinds.Auto) (job_at node place common)))
    (kept_on v (come_due (record { setup = setup; view = v }) waiters (given_of now (ready kinds.Auto) (job_at node place common))) k
    (tickets_keep_leases.due setup v waiters (given_of now (ready kinds.Auto) (job_at node place common)) (no_job (handler_at node place) common no_handler) two k.leading)))
    (view, there, record { leading = leading_later setup view before now earlier runs leads; longer = omega arith })
  where
    Leads : View → Type 0
    Leads v = KeepsLease setup now view v

    kept_on : (v : View) (deeds : Deeds TicketAsk Left) → Leads v → Leaves setup (KeepsLease setup now v) deeds → Leaves setup Leads deeds
    kept_on v deeds k h =
        whenever_on IsWritten (λ (left : Left). (left.core.setup ≡ setup) × KeepsLease setup now v left.core.view)
        (λ (left : Left). (left.core.setup ≡ setup) × Leads left.core.view) deeds h
        (λ left l.
        let first : own_end view ≤ own_end v = k.longer in
        let after : KeepsLease setup now v left.core.view = l.1 in
        let second : own_end v ≤ own_end left.core.view = after.longer in
        (l.0, record { leading = after.leading; longer = omega (arith, first, second) }))

    by_action : (a : Action) → IsNoRevoke place a → Allows node now place setup Leads a
    by_action (Drops fault) fair = tt
    by_action (Hears from ticket head part) fair = λ same v waiters spare ready common k.
        left_so node now place setup Leads (hear (record { setup = setup; view = v }) waiters from head part now)
        (kept_on v (hear (record { setup = setup; view = v }) waiters from head part now) k
        (tickets_keep_leases.heard setup v waiters from head part now short k.leading))
    by_action (Asks ticket request) fair = λ same v waiters spare ready common k.
        left_so node now place setup Leads (follow_request (record { setup = setup; view = v }) waiters spare (given_of now (ready kinds.Manual) (job_at node place common)) request request.wish)
        (kept_on v (follow_request (record { setup = setup; view = v }) waiters spare (given_of now (ready kinds.Manual) (job_at node place common)) request request.wish) k
        (tickets_keep_leases.asked setup v waiters spare (given_of now (ready kinds.Manual) (job_at node place common)) request (fair same) k.leading))
    by_action (Attends ticket request) fair = tt
    by_action (Answers messages) fair = tt
    by_action Rests fair = tt
