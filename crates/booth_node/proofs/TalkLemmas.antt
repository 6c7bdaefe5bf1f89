-- Whom the acts of a ticket reach: members and the clients that wait for it, but for the reply to who asked, which
-- comes last.
use Rattle.std.proofs.Common.{◌≡◌, ◌⊎◌, inl, inr, ℕ, Bool, List, ◌++◌, refl, sym, ap, ◌∙◌, subst, append_assoc}
use Rattle.std.specs.Prelude.{Option}
use Rattle.booth_base.specs.Tree.{Deeds, Ends, Leads, ◌>>=◌}
use Rattle.booth_base.proofs.TreeLemmas.{always_left, split}
use Rattle.booth_conf.specs.declared.tickets.GrantKind.{GrantKind}
use Rattle.booth_conf.specs.declared.tickets.GrantKind.TheVariants.{Auto, Manual}
use Rattle.booth_wire.specs.declared.message.Head.{Head}
use Rattle.booth_wire.specs.declared.message.TicketPart.{TicketPart}
use Rattle.booth_wire.specs.declared.message.Setup.{Setup}
use Rattle.booth_raft.specs.declared.view.View.{View}
use Rattle.booth_raft.specs.Messages.{head_of, state_part}
use Rattle.booth_raft.specs.State.{State, Step}
use Rattle.booth_ticket.specs.declared.hands.To.TheVariants.{Client}
use Rattle.booth_ticket.specs.declared.request.Given.{Given}
use Rattle.booth_ticket.specs.declared.request.Request.{Request}
use Rattle.booth_ticket.specs.declared.request.Wish.{Wish}
use Rattle.booth_ticket.specs.declared.waiters.Waiter.{Waiter}
use Rattle.booth_ticket.specs.declared.handling.Service.{Service}
use Rattle.booth_ticket.specs.Acts.{Ask, Act, IsAct}
use Rattle.booth_ticket.specs.Automatic.{come_due, end_job, hear, hear_job, hear_message, tick}
use Rattle.booth_ticket.specs.Requests.{Answered, do_for, follow_request, reply, reply_cmd}
use Rattle.booth_ticket.specs.Saying.{say_to}
use Rattle.booth_ticket.specs.Ticket.{TicketState, TicketLeft, Known, Automatic, Manual as IsManual, left_as}
use Rattle.booth_ticket.specs.Waiting.{Left, joined, staying, tell, tell_each}
use Rattle.booth_ticket.proofs.SetupLemmas.{ticket_asked_keeps, ticket_due_keeps, ticket_heard_keeps, ticket_over_keeps}
use Rattle.booth_ticket.proofs.WalkLemmas.{done_walks, job_walks, message_walks, tick_walks}
use Rattle.booth_node.specs.declared.event.Event.{Event}
use Rattle.booth_node.specs.declared.event.Event.TheVariants.{Due, Heard, Asked, Over}
use Rattle.booth_node.specs.Calls.{IsAmong}
use Rattle.booth_node.specs.Reaction.{befalls}
use Rattle.booth_node.proofs.ManualTalkLemmas.{asked_by_hand, due_by_hand, heard_by_hand, over_by_hand}
use Rattle.booth_node.proofs.ReachLemmas.{Among, IsTold, Reaches, Replies, Tells, all_among, among_allowed, among_joined, each_joined, ended, found_reach, found_remembered, replied_last, tells_all, told_first, told_later}

module _ (setup : Setup) (waiters : List Waiter) where
  abbrev IsIts : Step → Type 0
  IsIts x = x.core.setup ≡ setup

  abbrev core_of : View → State
  core_of view = record { setup = setup; view = view }

  -- those that wait are told of the last step
  tells_last : (t : Deeds Ask Step) (now : ℕ) (acts : List Act) (left : Left) → Reaches setup waiters IsIts t
      → Leads IsAct (t >>= tell now waiters) acts (Ends left) → Tells setup waiters left.waiters acts
  unfolding tell
  tells_last t now acts left all leads =
      tells_all setup waiters IsIts t (λ (s : Step). s.core.setup) (λ s. state_part s.core.setup s.core.view now) (λ s. s.deed.told)
      (λ s stay. let left : Left = record { core = s.core; waiters = stay } in left) (λ (l : Left). l.waiters) acts left all
      (λ s its. its) (λ s its. ap (λ (u : Setup). u.ticket) its) (λ s stay. refl) leads

  heard_talks : (view : View) (from : ℕ) (head : Head) (part : TicketPart) (now : ℕ) (acts : List Act) (left : Left)
      → Leads IsAct (hear (core_of view) waiters from head part now) acts (Ends left)
      → Tells setup waiters left.waiters acts
  unfolding hear
  heard_talks view from head part now acts left leads =
      tells_last (hear_message (core_of view) from head part now) now acts left
      (message_walks setup waiters (Among setup waiters) (among_allowed setup waiters) view from head part now) leads

  due_talks : (view : View) (given : Given) (acts : List Act) (left : Left)
      → Leads IsAct (come_due (core_of view) waiters given) acts (Ends left) → Tells setup waiters left.waiters acts
  unfolding come_due
  due_talks view given acts left leads =
      tells_last (tick (core_of view) given) given.now acts left
      (tick_walks setup waiters (Among setup waiters) (among_allowed setup waiters) view given) leads

  over_talks : (view : View) (job : ℕ) (service : Service) (now : ℕ) (acts : List Act) (left : Left)
      → Leads IsAct (end_job (core_of view) waiters job service now) acts (Ends left) → Tells setup waiters left.waiters acts
  unfolding end_job
  over_talks view job service now acts left leads =
      tells_last (hear_job (core_of view) job service now) now acts left
      (job_walks setup waiters (Among setup waiters) (among_allowed setup waiters) view job service now) leads

  -- ---- a client's request

  pub asked_replies : (view : View) (spare : ℕ) (given : Given) (request : Request) (wished : Wish) (acts : List Act) (left : Left)
      → Leads IsAct (follow_request (core_of view) waiters spare given request wished) acts (Ends left)
      → Replies setup waiters left.waiters request (reply_cmd wished) acts
  unfolding follow_request tell reply
  asked_replies view spare given request wished acts left leads =
      let one = split IsAct (do_for (core_of view) spare given request.options wished) _ acts left leads in
      let last : Step = one.mid.last in
      let its : last.core.setup ≡ setup =
      always_left IsAct (Among setup waiters) (λ (done : Answered). done.last.core.setup ≡ setup) (do_for (core_of view) spare given request.options wished) one.first one.mid
      (done_walks setup waiters (Among setup waiters) (among_allowed setup waiters) view spare given request.options wished) one.to_mid in
      let names : last.core.setup.ticket ≡ setup.ticket = ap (λ (u : Setup). u.ticket) its in
      let part : TicketPart = state_part last.core.setup last.core.view given.now in
      let two = split IsAct (tell given.now waiters last) _ one.later left one.to_end in
      let told = ended (tell_each last.core.setup part last.deed.told waiters)
      (λ (stay : List Waiter). let l : Left = record { core = last.core; waiters = stay } in l) two.first two.mid two.to_mid in
      let it = found_remembered setup last.core.setup waiters part last.deed.told its names two.first told.0 told.1 in
      let three = ended (reply two.mid.core request wished one.mid.answer given.now)
      (λ (done : Unit {0}). let l : Left = record { core = two.mid.core; waiters = joined request one.mid.answer two.mid.waiters } in l)
      two.later left two.to_end in
      let stay_is : told.0 ≡ two.mid.waiters = ap (λ (l : Left). l.waiters) (sym told.2) in
      let said_by : two.mid.core.setup ≡ setup = ap (λ (l : Left). l.core.setup) told.2 ∙ its in
      subst (λ (l : Left). Replies setup waiters l.waiters request (reply_cmd wished) acts) (sym three.2)
      (replied_last setup waiters (joined request one.mid.answer two.mid.waiters) request (reply_cmd wished) one.mid.answer
      (state_part two.mid.core.setup two.mid.core.view given.now) (one.first ++ two.first) two.later acts three.0
      (one.whole ∙ ap (λ (l : List Act). one.first ++ l) two.whole ∙ sym (append_assoc one.first two.first two.later))
      (each_joined (λ act. Among setup waiters act.ask) one.first two.first
      (all_among setup waiters (λ (done : Answered). done.last.core.setup ≡ setup) (do_for (core_of view) spare given request.options wished) one.first one.mid
      (done_walks setup waiters (Among setup waiters) (among_allowed setup waiters) view spare given request.options wished) one.to_mid)
      (all_among setup waiters (λ stay. stay ≡ staying last.deed.told waiters) (tell_each last.core.setup part last.deed.told waiters)
      two.first told.0 (found_reach setup last.core.setup waiters part last.deed.told its names) told.1))
      (subst (λ (s : Setup). Leads IsAct
      (say_to (Client request.from) (head_of s (reply_cmd wished) request.number 0 0 one.mid.answer)
      (state_part two.mid.core.setup two.mid.core.view given.now)) two.later (Ends three.0)) said_by three.1)
      (λ w h. joins w two.mid.waiters one.mid.answer
      (told_later setup two.mid.waiters w one.first one.later acts one.whole
      (told_first setup two.mid.waiters w two.first two.later one.later two.whole
      (subst (λ (ws : List Waiter). IsAmong w ws ⊎ IsTold setup w two.first) stay_is (it.1 w h))))))
    where
      joins : (w : Waiter) (stay : List Waiter) (answer : ℕ) → IsAmong w stay ⊎ IsTold setup w acts
          → IsAmong w (joined request answer stay) ⊎ IsTold setup w acts
      joins w stay answer (inl h) = inl (among_joined w request answer stay h)
      joins w stay answer (inr now) = inr now

-- ---- what befalls a ticket

module _ (ticket : TicketState) (left : TicketLeft) (waiters : List Waiter) (spare : ℕ) (ready : GrantKind → Bool)
    (job : Option ℕ) (now : ℕ) (acts : List Act) where
  -- this befell the ticket, by what its rules know of it
  abbrev Befell : Known → Event → Type 0
  Befell known event =
      Leads IsAct (befalls (record { setup = ticket.setup; known = known }) waiters spare ready job event now) acts
      (Ends left)

  abbrev given_at : GrantKind → Given
  given_at kind = record { now = now; ready = ready kind; job = job }

  told_so : (end : Left) → left ≡ left_as end → Tells ticket.setup waiters end.waiters acts
      → Tells ticket.setup waiters left.waiters acts
  told_so end is tells_all =
      subst (λ (l : TicketLeft). Tells ticket.setup waiters l.waiters acts) (sym is) tells_all

  -- what befalls a ticket leaves its setup
  pub setup_stays : (event : Event) → Leads IsAct (befalls ticket waiters spare ready job event now) acts (Ends left)
      → left.ticket.setup ≡ ticket.setup
  setup_stays Due leads = ticket_due_keeps ticket.setup ticket.known waiters acts left (given_at Auto) leads
  setup_stays (Heard from head part) leads = ticket_heard_keeps ticket.setup ticket.known waiters acts left from head part now leads
  setup_stays (Asked request) leads = ticket_asked_keeps ticket.setup ticket.known waiters acts left spare (given_at Manual) request leads
  setup_stays (Over number service) leads = ticket_over_keeps ticket.setup ticket.known waiters acts left number service now leads

  -- a deadline and a member's message reach members and those that wait alone
  pub due_among : Leads IsAct (befalls ticket waiters spare ready job Due now) acts (Ends left)
      → Tells ticket.setup waiters left.waiters acts
  due_among leads = by_kind ticket.known leads
    where
      by_kind : (known : Known) → Befell known Due → Tells ticket.setup waiters left.waiters acts
      by_kind (Automatic view) leads =
          let r = ended (come_due (record { setup = ticket.setup; view = view }) waiters (given_at Auto)) left_as acts left leads in
          told_so r.0 r.2 (due_talks ticket.setup waiters view (given_at Auto) acts r.0 r.1)
      by_kind (IsManual known) leads = due_by_hand ticket.setup waiters left acts known (given_at Auto) leads

  -- and so does the end of a job
  pub over_among : (number : ℕ) (service : Service)
      → Leads IsAct (befalls ticket waiters spare ready job (Over number service) now) acts (Ends left)
      → Tells ticket.setup waiters left.waiters acts
  over_among number service leads = by_kind ticket.known leads
    where
      by_kind : (known : Known) → Befell known (Over number service) → Tells ticket.setup waiters left.waiters acts
      by_kind (Automatic view) leads =
          let r = ended (end_job (record { setup = ticket.setup; view = view }) waiters number service now) left_as acts left leads in
          told_so r.0 r.2 (over_talks ticket.setup waiters view number service now acts r.0 r.1)
      by_kind (IsManual known) leads = over_by_hand ticket.setup waiters left acts known number service now leads

  pub heard_among : (from : ℕ) (head : Head) (part : TicketPart)
      → Leads IsAct (befalls ticket waiters spare ready job (Heard from head part) now) acts (Ends left)
      → Tells ticket.setup waiters left.waiters acts
  heard_among from head part leads = by_kind ticket.known leads
    where
      by_kind : (known : Known) → Befell known (Heard from head part)
          → Tells ticket.setup waiters left.waiters acts
      by_kind (Automatic view) leads =
          let r = ended (hear (record { setup = ticket.setup; view = view }) waiters from head part now) left_as acts left leads in
          told_so r.0 r.2 (heard_talks ticket.setup waiters view from head part now acts r.0 r.1)
      by_kind (IsManual known) leads = heard_by_hand ticket.setup waiters left acts known from head part now leads

  pub asked_replied : (request : Request)
      → Leads IsAct (befalls ticket waiters spare ready job (Asked request) now) acts (Ends left)
      → Replies ticket.setup waiters left.waiters request (reply_cmd request.wish) acts
  asked_replied request leads = by_kind ticket.known leads
    where
      by_kind : (known : Known) → Befell known (Asked request)
          → Replies ticket.setup waiters left.waiters request (reply_cmd request.wish) acts
      by_kind (Automatic view) leads =
          let r = ended (follow_request (record { setup = ticket.setup; view = view }) waiters spare (given_at Manual) request request.wish)
          left_as acts left leads in
          subst (λ (l : TicketLeft). Replies ticket.setup waiters l.waiters request (reply_cmd request.wish)
          acts) (sym r.2)
          (asked_replies ticket.setup waiters view spare (given_at Manual) request request.wish acts r.0 r.1)
      by_kind (IsManual known) leads = asked_by_hand ticket.setup waiters left acts known spare (given_at Manual) request leads
