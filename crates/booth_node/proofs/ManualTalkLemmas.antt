-- Whom the acts of a manual ticket reach: members and the clients that wait for it, but for the reply to who asked,
-- which comes last.
use Rattle.std.proofs.Common.{◌≡◌, inl, ℕ, Bool, true, false, List, ◌++◌, refl, sym, ap, subst, if◌then◌else◌}
use Rattle.std.specs.Prelude.{None}
use Rattle.booth_base.specs.Tree.{Deeds, Ends, Leads}
use Rattle.booth_base.proofs.TreeLemmas.{always_left, at_end, split}
use Rattle.booth_wire.specs.declared.message.Head.{Head}
use Rattle.booth_wire.specs.declared.message.TicketPart.{TicketPart}
use Rattle.booth_wire.specs.declared.message.Setup.{Setup}
use Rattle.booth_raft.specs.declared.deed.Told.TheVariants as tells
use Rattle.booth_raft.specs.Messages.{head_of}
use Rattle.booth_ticket.specs.declared.handling.Service.{Service}
use Rattle.booth_ticket.specs.declared.hands.To.TheVariants.{Client}
use Rattle.booth_ticket.specs.declared.request.Given.{Given}
use Rattle.booth_ticket.specs.declared.request.Request.{Request}
use Rattle.booth_ticket.specs.declared.waiters.Waiter.{Waiter}
use Rattle.booth_ticket.specs.Acts.{Ask, Act, IsAct}
use Rattle.booth_ticket.specs.Manual.{ManualKnown, ManualLeft, ManualState, known_as, manual_heard, manual_state, rules_of, ticket_as}
use Rattle.booth_ticket.specs.ManualHandling.{Granted, end_handler, fail_handler, grant_after, greeting, is_awaited, is_late, limit_due, manual_due, manual_over, tell_waiters}
use Rattle.booth_ticket.specs.ManualRequests.{Begun, as_waiting, done_by_hand, manual_asked, manual_reply}
use Rattle.booth_ticket.specs.Requests.{reply_cmd}
use Rattle.booth_ticket.specs.Saying.{say, say_to}
use Rattle.booth_ticket.specs.Ticket.{Manual, TicketLeft, left_by_hand, ticket_asked, ticket_due, ticket_heard, ticket_over}
use Rattle.booth_ticket.specs.Waiting.{joined}
use Rattle.booth_ticket.proofs.WalkLemmas.{Any, after_walks, greeting_walks, hand_walks, ticket_heard_walks}
use Rattle.booth_node.proofs.ReachLemmas.{AllAmong, Among, Reaches, Replies, Tells, all_among, among_allowed, among_joined, each_joined, ended, replied_last, tells_all, told_later}

-- the acts of a tree that tells nobody who waits
quiet_tells : {S : Type 0} (setup : Setup) (waiters : List Waiter) (Q : S → Type 0) (t : Deeds Ask S) (acts : List Act) (left : S)
    → Reaches setup waiters Q t → Leads IsAct t acts (Ends left) → Tells setup waiters waiters acts
quiet_tells setup waiters Q t acts left all leads =
    record { among = all_among setup waiters Q t acts left all leads; fewer = λ w h. h; remembers = λ w h. inl h }

-- and others before those that tell them
tells_behind : (setup : Setup) (waiters stay : List Waiter) (first later acts : List Act) → acts ≡ first ++ later
    → AllAmong setup waiters first → Tells setup waiters stay later → Tells setup waiters stay acts
tells_behind setup waiters stay first later acts whole among tells = record {
  among = subst (λ (l : List Act). AllAmong setup waiters l) (sym whole)
      (each_joined (λ act. Among setup waiters act.ask) first later among tells.among);
  fewer = tells.fewer;
  remembers = λ w h. told_later setup stay w first later acts whole (tells.remembers w h);
}

module _ (setup : Setup) (waiters : List Waiter) where
  abbrev BegunIts : Begun → Type 0
  BegunIts done = done.rules.setup ≡ setup

  abbrev GrantedIts : Granted → Type 0
  GrantedIts done = done.rules.setup ≡ setup

  -- ---- the end of a job

  over_talks : (known : ManualKnown) (job : ℕ) (service : Service) (acts : List Act) (left : ManualLeft)
      → Leads IsAct (manual_over (record { setup = setup; known = known }) waiters job service) acts (Ends left)
      → Tells setup waiters left.waiters acts
  unfolding end_handler tell_waiters
  over_talks known job service acts left leads = by_job (is_awaited known.job job) leads
    where
      ticket : ManualState
      ticket = record { setup = setup; known = known }

      quiet : ManualLeft
      quiet = record { ticket = ticket; waiters = waiters }

      by_job : (awaited : Bool)
          → Leads IsAct (if awaited then end_handler ticket waiters service else Ends quiet) acts (Ends left)
          → Tells setup waiters left.waiters acts
      by_job true given =
          tells_all setup waiters GrantedIts (grant_after (rules_of ticket) service) (λ (s : Granted). s.rules.setup)
          (λ s. manual_state s.rules.setup s.rules.view) (λ s. s.told)
          (λ s stay. let l : ManualLeft = record { ticket = ticket_as s.rules known.greets_at None; waiters = stay } in l)
          (λ (l : ManualLeft). l.waiters) acts left (after_walks setup waiters (Among setup waiters) (among_allowed setup waiters) (rules_of ticket) service refl) (λ s its. its)
          (λ s its. ap (λ (u : Setup). u.ticket) its) (λ s stay. refl) given
      by_job false given =
          let over = at_end IsAct quiet left acts given in
          subst (λ (l : ManualLeft). Tells setup waiters l.waiters acts) (sym over.1)
          (quiet_tells setup waiters (Any {S = ManualLeft}) (Ends quiet) acts left tt given)

  -- ---- messages and the deadline

  heard_talks : (known : ManualKnown) (from : ℕ) (head : Head) (part : TicketPart) (now : ℕ) (acts : List Act) (left : TicketLeft)
      → Leads IsAct (ticket_heard setup (Manual known) waiters from head part now) acts (Ends left)
      → Tells setup waiters waiters acts
  heard_talks known from head part now acts left leads =
      quiet_tells setup waiters (λ (t : TicketLeft). t.ticket.setup ≡ setup)
      (ticket_heard setup (Manual known) waiters from head part now) acts left
      (ticket_heard_walks setup waiters (Among setup waiters) (among_allowed setup waiters) (Manual known) from head part now) leads

  late_talks : (ticket : ManualState) (now : ℕ) (acts : List Act) (left : ManualLeft) → ticket.setup ≡ setup
      → Leads IsAct (limit_due ticket waiters now) acts (Ends left) → Tells setup waiters left.waiters acts
  unfolding fail_handler tell_waiters
  late_talks ticket now acts left its leads = by_limit (is_late ticket.known.job now) leads
    where
      quiet : ManualLeft
      quiet = record { ticket = ticket; waiters = waiters }

      by_limit : (late : Bool) → Leads IsAct (if late then fail_handler ticket waiters else Ends quiet) acts (Ends left)
          → Tells setup waiters left.waiters acts
      by_limit true given =
          tells_all setup waiters (Any {S = Unit {0}}) (Ends tt) (λ s. ticket.setup)
          (λ s. manual_state ticket.setup ticket.known.view) (λ s. tells.HandlerFailed)
          (λ s stay. let l : ManualLeft = record { ticket = ticket_as (rules_of ticket) ticket.known.greets_at None; waiters = stay } in l)
          (λ (l : ManualLeft). l.waiters) acts left tt (λ s any. its) (λ s any. ap (λ (u : Setup). u.ticket) its) (λ s stay. refl) given
      by_limit false given =
          let over = at_end IsAct quiet left acts given in
          subst (λ (l : ManualLeft). Tells setup waiters l.waiters acts) (sym over.1)
          (quiet_tells setup waiters (Any {S = ManualLeft}) (Ends quiet) acts left tt given)

  due_talks : (known : ManualKnown) (now : ℕ) (acts : List Act) (left : ManualLeft)
      → Leads IsAct (manual_due (record { setup = setup; known = known }) waiters now) acts (Ends left)
      → Tells setup waiters left.waiters acts
  unfolding manual_due
  due_talks known now acts left leads =
      let greeted : ManualState = record { setup = setup; known = known_as known.view None known.job } in
      let c = split IsAct (say setup None (greeting setup known)) (λ done. limit_due greeted waiters now) acts left leads in
      tells_behind setup waiters left.waiters c.first c.later acts c.whole
      (all_among setup waiters Any (say setup None (greeting setup known)) c.first c.mid
      (greeting_walks setup waiters (Among setup waiters) (among_allowed setup waiters) known) c.to_mid)
      (late_talks greeted now c.later left refl c.to_end)

  -- ---- a client's request

  asked_talks : (known : ManualKnown) (spare : ℕ) (given : Given) (request : Request) (acts : List Act) (left : ManualLeft)
      → Leads IsAct (manual_asked (record { setup = setup; known = known }) waiters spare given request) acts (Ends left)
      → Replies setup waiters left.waiters request (reply_cmd request.wish) acts
  unfolding manual_asked manual_reply
  asked_talks known spare given request acts left leads =
      let ticket : ManualState = record { setup = setup; known = known } in
      let all : Reaches setup waiters BegunIts (done_by_hand ticket spare given request) =
      hand_walks setup waiters (Among setup waiters) (among_allowed setup waiters) known spare given request in
      let one = split IsAct (done_by_hand ticket spare given request) _ acts left leads in
      let begun : Begun = one.mid in
      let its : begun.rules.setup ≡ setup =
      always_left IsAct (Among setup waiters) BegunIts (done_by_hand ticket spare given request) one.first begun all one.to_mid in
      let stay : List Waiter = joined (as_waiting request) begun.answer waiters in
      let two = ended (manual_reply begun.rules request begun.answer)
      (λ (done : Unit {0}). let l : ManualLeft = record { ticket = ticket_as begun.rules known.greets_at begun.running; waiters = stay } in l)
      one.later left one.to_end in
      subst (λ (l : ManualLeft). Replies setup waiters l.waiters request (reply_cmd request.wish) acts) (sym two.2)
      (replied_last setup waiters stay request (reply_cmd request.wish) begun.answer
      (manual_state begun.rules.setup begun.rules.view) one.first one.later acts two.0 one.whole
      (all_among setup waiters BegunIts (done_by_hand ticket spare given request) one.first begun all one.to_mid)
      (subst (λ (s : Setup). Leads IsAct
      (say_to (Client request.from) (head_of s (reply_cmd request.wish) request.number 0 0 begun.answer)
      (manual_state begun.rules.setup begun.rules.view)) one.later (Ends two.0)) its two.1)
      (λ w h. inl (among_joined w (as_waiting request) begun.answer waiters h)))

-- ---- as the ticket's

module _ (setup : Setup) (waiters : List Waiter) (left : TicketLeft) (acts : List Act) where
  by_hand : (end : ManualLeft) → left ≡ left_by_hand end → Tells setup waiters end.waiters acts
      → Tells setup waiters left.waiters acts
  by_hand end is told = subst (λ (l : TicketLeft). Tells setup waiters l.waiters acts) (sym is) told

  pub heard_by_hand : (known : ManualKnown) (from : ℕ) (head : Head) (part : TicketPart) (now : ℕ)
      → Leads IsAct (ticket_heard setup (Manual known) waiters from head part now) acts (Ends left)
      → Tells setup waiters left.waiters acts
  heard_by_hand known from head part now leads =
      let it = ended (manual_heard (record { setup = setup; known = known }) from head part)
      (λ (ticket : ManualState). left_by_hand (record { ticket = ticket; waiters = waiters })) acts left leads in
      subst (λ (l : TicketLeft). Tells setup waiters l.waiters acts) (sym it.2)
      (heard_talks setup waiters known from head part now acts left leads)

  pub due_by_hand : (known : ManualKnown) (given : Given)
      → Leads IsAct (ticket_due setup (Manual known) waiters given) acts (Ends left) → Tells setup waiters left.waiters acts
  due_by_hand known given leads =
      let it = ended (manual_due (record { setup = setup; known = known }) waiters given.now) left_by_hand acts left leads in
      by_hand it.0 it.2 (due_talks setup waiters known given.now acts it.0 it.1)

  -- a job is over
  pub over_by_hand : (known : ManualKnown) (job : ℕ) (service : Service) (now : ℕ)
      → Leads IsAct (ticket_over setup (Manual known) waiters job service now) acts (Ends left)
      → Tells setup waiters left.waiters acts
  over_by_hand known job service now leads =
      let it = ended (manual_over (record { setup = setup; known = known }) waiters job service) left_by_hand acts left leads in
      by_hand it.0 it.2 (over_talks setup waiters known job service acts it.0 it.1)

  pub asked_by_hand : (known : ManualKnown) (spare : ℕ) (given : Given) (request : Request)
      → Leads IsAct (ticket_asked setup (Manual known) waiters spare given request) acts (Ends left)
      → Replies setup waiters left.waiters request (reply_cmd request.wish) acts
  asked_by_hand known spare given request leads =
      let it = ended (manual_asked (record { setup = setup; known = known }) waiters spare given request) left_by_hand acts left leads in
      subst (λ (l : TicketLeft). Replies setup waiters l.waiters request (reply_cmd request.wish) acts) (sym it.2)
      (asked_talks setup waiters known spare given request acts it.0 it.1)
