-- A node's turns leave each ticket so that whoever waits for it has a deadline that is coming.
use Rattle.booth_wire.specs.PlainMessage.{PlainMessage}
use Rattle.std.proofs.Common.{◌≡◌, ◌≢◌, ◌⊎◌, inl, inr, ℕ, ◌<◌, ◌≤◌, Bool, true, List, [], ◌∷◌, length, set, slice_get, refl, sym, ◌∙◌, subst}
use Rattle.std.specs.Prelude.{Option, Some, None, Result, Ok, Err}
use Rattle.std.proofs.lemmas.List.{get_or-set_same, get_or-set_other, length-set}
use Rattle.std.proofs.lemmas.Option.{slice_get_within}
use Rattle.booth_base.specs.declared.address.Peer.{Peer}
use Rattle.booth_base.specs.Tree.{Deeds, Ends, Does, each, Always, ◌>>◌}
use Rattle.booth_base.proofs.TreeLemmas.{always_then}
use Rattle.booth_chain.proofs.NodesLemmas.{same_or_not, slice_get-set_other, slice_get-set_same}
use Rattle.booth_conf.specs.declared.tickets.GrantKind.{GrantKind}
use Rattle.booth_conf.specs.declared.tickets.GrantKind.TheVariants as kinds
use Rattle.booth_wire.specs.declared.message.Setup.{Setup}
use Rattle.booth_host.specs.declared.host.Arrival.{Arrival}
use Rattle.booth_host.specs.declared.host.Arrival.TheVariants as arrivals
use Rattle.booth_host.specs.declared.host.Failed.{Failed}
use Rattle.booth_ticket.specs.declared.handling.Service.{Service}
use Rattle.booth_ticket.specs.declared.request.Request.{Request}
use Rattle.booth_wire.specs.declared.message.Head.{Head}
use Rattle.booth_wire.specs.declared.message.TicketPart.{TicketPart}
use Rattle.booth_ticket.specs.declared.waiters.Waiter.{Waiter}
use Rattle.booth_ticket.specs.Acts.{Ask as TicketAsk, Keep as KeepsRecord, Start as StartsJob, Say}
use Rattle.booth_ticket.specs.Automatic.{come_due, end_job, hear}
use Rattle.booth_ticket.specs.Handling.{service_of}
use Rattle.booth_ticket.specs.Manual.{manual_heard}
use Rattle.booth_ticket.specs.ManualHandling.{manual_due, manual_over}
use Rattle.booth_ticket.specs.ManualRequests.{manual_asked}
use Rattle.booth_ticket.specs.Requests.{follow_request}
use Rattle.booth_ticket.specs.Ticket.{TicketState, TicketLeft, Known, Automatic, Manual}
use Rattle.booth_ticket.specs.Waiting.{Left, spare_in, waiting_at}
use Rattle.booth_node.specs.declared.node.Turn.{Turn}
use Rattle.booth_node.specs.declared.node.Turn.TheVariants.{Went, Stopped}
use Rattle.booth_node.specs.declared.node_config.NodeConfig.{NodeConfig}
use Rattle.booth_node.specs.declared.state.Common.{Common}
use Rattle.booth_node.specs.AttributeRequests.{is_ready}
use Rattle.booth_node.specs.Befalling.{Befalling, comes_due, ends_job, is_asked, is_told}
use Rattle.booth_node.specs.Counting.{accepted, count_send}
use Rattle.booth_node.specs.Jobs.{job_at, count_start}
use Rattle.booth_node.specs.Reaction.{Action, Drops, Hears, Asks, Attends, Answers, Rests, Ask, action, acts, acts_as, all_places, arrived, befalls, due_places, dues, each_due, each_over, met, peer_of, react, sent_as, turn_end, sends_back}
use Rattle.booth_node.specs.State.{State, with_ticket}
use Rattle.booth_world.specs.Kept.{AnyAsk, WaitForJob}
use Rattle.booth_world.specs.Waits.{WaitForDeadline, core_of}
use Rattle.booth_world.proofs.DeadlineLaws.{asks_so, by_wait, due_so, ends_so, hears_so, waiters_have_deadlines}
use Rattle.booth_world.proofs.DeadlineRules.{IsShort}
use Rattle.booth_world.proofs.Lists.{some_same}
use Rattle.booth_world.proofs.NodeTrees.{lifts, sends_on}
use Rattle.booth_world.proofs.WaitingLaws.{manual_waiters_have_jobs}

-- whoever waits for a ticket that is known so has a deadline
abbrev pub IsCalm : Setup → ℕ → Known → List Waiter → Type 0
IsCalm s now (Automatic view) waiters = IsShort s × WaitForDeadline s now view waiters
IsCalm s now (Manual known) waiters = WaitForJob known waiters

abbrev LeavesCalm : ℕ → TicketLeft → Type 0
LeavesCalm now left = IsCalm left.ticket.setup now left.ticket.known left.waiters

pub calm_later : (s : Setup) (now later : ℕ) (known : Known) (waiters : List Waiter) → now ≤ later → IsCalm s now known waiters
    → IsCalm s later known waiters
calm_later s now later (Automatic view) waiters above h = (h.0, waiters_have_deadlines.passes s view waiters now later above h.1)
calm_later s now later (Manual known) waiters above h = h

left_calm : (s : Setup) (now : ℕ) (left : Left) → IsShort s → (left.core.setup ≡ s) × WaitForDeadline s now left.core.view left.waiters
    → IsShort left.core.setup × WaitForDeadline left.core.setup now left.core.view left.waiters
left_calm s now left short h =
    subst (λ (t : Setup). IsShort t × WaitForDeadline t now left.core.view left.waiters) (sym h.0) (short, h.1)

-- what befalls a ticket leaves it calm
abbrev BefallsCalm : ℕ → Befalling → Type 0
BefallsCalm now event =
    (s : Setup) (known : Known) (waiters : List Waiter) (spare : ℕ) (ready : GrantKind → Bool) (job : Option ℕ) → IsCalm s now known waiters
    → Always AnyAsk (LeavesCalm now) (befalls (record { setup = s; known = known }) waiters spare ready job event now)

due_leaves : (now : ℕ) → BefallsCalm now comes_due
due_leaves now s (Automatic view) waiters spare ready job h =
    always_then AnyAsk _ (LeavesCalm now) (come_due (core_of s view) waiters (record { now = now; ready = ready kinds.Auto; job = job })) _
    (due_so s h.0 now waiters view (ready kinds.Auto) job (by_wait s now view waiters h.1)) (λ left l. left_calm s now left h.0 l)
due_leaves now s (Manual known) waiters spare ready job h =
    always_then AnyAsk _ (LeavesCalm now) (manual_due (record { setup = s; known = known }) waiters now) _
    (manual_waiters_have_jobs.due (record { setup = s; known = known }) waiters now h) (λ left l. l)

told_leaves : (now from : ℕ) (head : Head) (part : TicketPart) → BefallsCalm now (is_told from head part)
told_leaves now from head part s (Automatic view) waiters spare ready job h =
    always_then AnyAsk _ (LeavesCalm now) (hear (core_of s view) waiters from head part now) _
    (hears_so s h.0 now waiters view from head part (by_wait s now view waiters h.1)) (λ left l. left_calm s now left h.0 l)
told_leaves now from head part s (Manual known) waiters spare ready job h =
    always_then AnyAsk _ (LeavesCalm now) (manual_heard (record { setup = s; known = known }) from head part) _
    (manual_waiters_have_jobs.heard (record { setup = s; known = known }) from head part waiters h) (λ left l. l)

asked_leaves : (now : ℕ) (request : Request) → BefallsCalm now (is_asked request)
asked_leaves now request s (Automatic view) waiters spare ready job h =
    always_then AnyAsk _ (LeavesCalm now)
    (follow_request (core_of s view) waiters spare (record { now = now; ready = ready kinds.Manual; job = job }) request request.wish) _
    (asks_so s h.0 now waiters view spare (ready kinds.Manual) job request request.wish (by_wait s now view waiters h.1))
    (λ left l. left_calm s now left h.0 l)
asked_leaves now request s (Manual known) waiters spare ready job h =
    always_then AnyAsk _ (LeavesCalm now)
    (manual_asked (record { setup = s; known = known }) waiters spare (record { now = now; ready = ready kinds.Manual; job = job }) request) _
    (manual_waiters_have_jobs.asked (record { setup = s; known = known }) waiters spare
    (record { now = now; ready = ready kinds.Manual; job = job }) request h) (λ left l. l)

over_leaves : (now number : ℕ) (service : Service) → BefallsCalm now (ends_job number service)
over_leaves now number service s (Automatic view) waiters spare ready job h =
    always_then AnyAsk _ (LeavesCalm now) (end_job (core_of s view) waiters number service now) _
    (ends_so s h.0 now waiters view number service (by_wait s now view waiters h.1)) (λ left l. left_calm s now left h.0 l)
over_leaves now number service s (Manual known) waiters spare ready job h =
    always_then AnyAsk _ (LeavesCalm now) (manual_over (record { setup = s; known = known }) waiters number service) _
    (manual_waiters_have_jobs.over (record { setup = s; known = known }) waiters number service h) (λ left l. l)

-- ---- among the others

abbrev pub AnyDeed : Ask → Type 0
AnyDeed ask = Unit {0}

-- the ticket at a place, where there is one, has a list of those that wait, and is calm
abbrev pub IsCalmAt : ℕ → State → ℕ → TicketState → Type 0
IsCalmAt now state place ticket =
    (place < length state.waiters) × IsCalm ticket.setup now ticket.known (waiting_at state.waiters place)

pub record AreCalm (now : ℕ) (state : State) : Type 0 where
  pub reading : state.last_reading ≡ now
  pub each_is : (place : ℕ) (ticket : TicketState) → slice_get state.tickets place ≡ Some ticket → IsCalmAt now state place ticket

module _ (node : NodeConfig) (now : ℕ) where
  abbrev pub LeaveCalm : Deeds Ask State → Type 0
  LeaveCalm deeds = Always AnyDeed (AreCalm now) deeds

  lifted_calm : (name : List ℕ) (common : Common) (deeds : Deeds TicketAsk TicketLeft) (rest : Common → TicketLeft → Deeds Ask State)
      → Always AnyAsk (LeavesCalm now) deeds
      → ((counted : Common) (left : TicketLeft) → LeavesCalm now left → LeaveCalm (rest counted left))
      → LeaveCalm (lifts node now name common deeds rest)
  lifted_calm name common (Ends left) rest h on = on common left h
  lifted_calm name common (Does (KeepsRecord kept) go) rest h on = (tt, λ ok. lifted_calm name common (go ok) rest (h.1 ok) on)
  lifted_calm name common (Does (StartsJob job expires) go) rest h on =
      (tt, λ ok. lifted_calm name (count_start common) (go ok) rest (h.1 ok) on)
  lifted_calm name common (Does (Say to head part) go) rest h on =
      by_peer (peer_of node.config to) (λ counted. lifted_calm name counted (go true) rest (h.1 true) on)
    where
      by_peer : (o : Option Peer) → ((counted : Common) → LeaveCalm (lifts node now name counted (go true) rest))
          → LeaveCalm (sends_on node now name o (sent_as node now head part) common to go rest)
      by_peer None more = more common
      by_peer (Some peer) more = (tt, λ ok. more (count_send common to ok))

  stands : (state : State) (place : ℕ) (t : TicketState) (counted : Common) (left : TicketLeft) → AreCalm now state
      → slice_get state.tickets place ≡ Some t → LeavesCalm now left → AreCalm now (with_ticket state place counted left)
  stands state place t counted left at is calm = record {
    reading = at.reading;
    each_is = λ p u read. by_place p u read (same_or_not p place);
  }
    where
      within : place < length state.waiters
      within = (at.each_is place t is).0

      by_place : (p : ℕ) (u : TicketState) → slice_get (set state.tickets place left.ticket) p ≡ Some u → (p ≡ place) ⊎ (p ≢ place)
          → IsCalmAt now (with_ticket state place counted left) p u
      by_place p u read (inl e) =
          let there : slice_get (set state.tickets place left.ticket) place ≡ Some left.ticket =
          slice_get-set_same state.tickets place left.ticket (slice_get_within state.tickets place t is) in
          let same : left.ticket ≡ u =
          some_same left.ticket u (sym there ∙ subst (λ (n : ℕ). slice_get (set state.tickets place left.ticket) n ≡ Some u) e read) in
          subst (λ (n : ℕ). IsCalmAt now (with_ticket state place counted left) n u) (sym e)
          (subst (λ (x : TicketState). IsCalmAt now (with_ticket state place counted left) place x) same (
            subst (λ (n : ℕ). place < n) (sym (length-set state.waiters place left.waiters)) within,
            subst (λ (ws : List Waiter). IsCalm left.ticket.setup now left.ticket.known ws)
                (sym (get_or-set_same state.waiters place left.waiters [] within)) calm,
          ))
      by_place p u read (inr apart) =
          let old : IsCalmAt now state p u =
          at.each_is p u (sym (slice_get-set_other state.tickets place p left.ticket apart) ∙ read) in (
            subst (λ (n : ℕ). p < n) (sym (length-set state.waiters place left.waiters)) old.0,
            subst (λ (ws : List Waiter). IsCalm u.setup now u.known ws)
                (sym (get_or-set_other state.waiters place p left.waiters [] apart)) old.1,
          )

  acts_calm : (state : State) (place : ℕ) (event : Befalling) → BefallsCalm now event → AreCalm now state → LeaveCalm (acts node now state place event)
  acts_calm state place event so at = by_ticket (slice_get state.tickets place) refl
    where
      by_ticket : (o : Option TicketState) → slice_get state.tickets place ≡ o → LeaveCalm (acts_as node now state place event o)
      by_ticket None is = at
      by_ticket (Some t) is =
          lifted_calm t.setup.ticket state.common
          (befalls t (waiting_at state.waiters place) (spare_in state.waiters) (is_ready node state.attributes place)
          (job_at node place state.common) event now)
          (λ common left. Ends (with_ticket state place common left))
          (so t.setup t.known (waiting_at state.waiters place) (spare_in state.waiters) (is_ready node state.attributes place)
          (job_at node place state.common) (at.each_is place t is).1)
          (λ counted left calm. stands state place t counted left at is calm)

  counted_calm : (state : State) (common : Common) → AreCalm now state → AreCalm now (record state { common = common })
  counted_calm state common at = record { reading = at.reading; each_is = at.each_is }

  met_calm : (state : State) (from : Peer) (a : Action) → AreCalm now state → LeaveCalm (met node now state from a)
  met_calm state from (Drops fault) at = record { reading = at.reading; each_is = at.each_is }
  met_calm state from (Hears member ticket head part) at =
      acts_calm (accepted state member now) ticket (is_told member head part) (told_leaves now member head part) (record { reading = at.reading; each_is = at.each_is })
  met_calm state from (Asks ticket request) at = acts_calm state ticket (is_asked request) (asked_leaves now request) at
  met_calm state from (Attends ticket request) at = (tt, λ ok. record { reading = at.reading; each_is = at.each_is })
  met_calm state from (Answers messages) at = told messages
    where
      told : (messages : List PlainMessage) → LeaveCalm (each (sends_back from) messages >> Ends state)
      told [] = at
      told (message ∷ messages) = (tt, λ ok. told messages)
  met_calm state from Rests at = at

  over_calm : (number : ℕ) (service : Service) (places : List ℕ) (state : State) → AreCalm now state
      → LeaveCalm (each_over node now number service places state)
  over_calm number service [] state at = at
  over_calm number service (p ∷ places) state at =
      always_then AnyDeed (AreCalm now) (AreCalm now) (acts node now state p (ends_job number service)) (each_over node now number service places)
      (acts_calm state p (ends_job number service) (over_leaves now number service) at) (λ left l. over_calm number service places left l)

  due_calm : (places : List ℕ) (state : State) → AreCalm now state → LeaveCalm (each_due node now places state)
  due_calm [] state at = at
  due_calm (p ∷ places) state at =
      always_then AnyDeed (AreCalm now) (AreCalm now) (acts node now state p comes_due) (each_due node now places)
      (acts_calm state p comes_due (due_leaves now) at) (λ left l. due_calm places left l)

  arrived_calm : (state : State) (arrival : Result Arrival Failed) (bytes : List ℕ) → AreCalm now state
      → LeaveCalm (arrived node now state arrival bytes)
  arrived_calm state (Ok (arrivals.Datagram from)) bytes at =
      met_calm state from (action node now state.tickets state.common from bytes) at
  arrived_calm state (Ok (arrivals.Handler job status)) bytes at = over_calm job (service_of status) (all_places state) state at
  arrived_calm state (Ok arrivals.Quiet) bytes at = at
  arrived_calm state (Ok arrivals.Stop) bytes at = at
  arrived_calm state (Err failed) bytes at = at

  dues_calm : (turn : Turn) (state : State) → AreCalm now state → LeaveCalm (dues node now turn state)
  dues_calm Went state at = due_calm (due_places now state.tickets) state at
  dues_calm Stopped state at = at

  -- a turn leaves each ticket calm
  pub turn_calm : (state : State) (arrival : Result Arrival Failed) (bytes : List ℕ) (before : ℕ) → before ≤ now → AreCalm before state
      → LeaveCalm (react node state now arrival bytes)
  turn_calm state arrival bytes before above at =
      always_then AnyDeed (AreCalm now) (AreCalm now) (arrived node now (record state { last_reading = now }) arrival bytes)
      (dues node now (turn_end arrival))
      (arrived_calm (record state { last_reading = now }) arrival bytes (record {
        reading = refl;
        each_is = λ place t is. let old = at.each_is place t is in
            (old.0, calm_later t.setup before now t.known (waiting_at state.waiters place) above old.1);
      }))
      (λ left l. dues_calm (turn_end arrival) left l)
