-- What the deeds of a manual ticket keep: each record's term is at least that of the record in force.
use Rattle.std.proofs.Common.{◌≡◌, ℕ, ◌≤◌, Bool, true, false, List, [], ◌∷◌, refl, arith}
use Rattle.std.specs.Prelude.{Option, Some, None, ◌&&◌, not, is_none, is_some, if◌then◌else◌}
use Rattle.booth_base.specs.declared.address.TheConstants.{NO_ONE}
use Rattle.booth_base.specs.Tree.{Deeds, Ends, Does, ◌>>=◌, each, Always, ◌>>◌}
use Rattle.booth_base.proofs.TreeLemmas.{always_then}
use Rattle.booth_conf.specs.declared.tickets.GrantKind.{GrantKind}
use Rattle.booth_conf.specs.declared.tickets.GrantKind.TheVariants as kinds
use Rattle.booth_wire.specs.declared.command.Cmd.{Cmd}
use Rattle.booth_wire.specs.declared.command.Cmd.TheVariants.{Stat, MIdx, UpdE, Revk}
use Rattle.booth_wire.specs.declared.message.Head.{Head}
use Rattle.booth_wire.specs.declared.message.TicketPart.{TicketPart}
use Rattle.booth_wire.specs.declared.message.Say.{Say as Words}
use Rattle.booth_wire.specs.declared.message.Say.TheVariants as words
use Rattle.booth_wire.specs.declared.message.Setup.{Setup}
use Rattle.booth_raft.specs.declared.deed.Told.{Told}
use Rattle.booth_raft.specs.declared.deed.Told.TheVariants as tells
use Rattle.booth_raft.proofs.FactsLemmas.{on_cond}
use Rattle.booth_manual.specs.declared.view.ManualView.{ManualView}
use Rattle.booth_manual.specs.GrantAndRevoke.{again, are_terms_spent, finish, grant, revoke}
use Rattle.booth_manual.specs.Hearing.{hear, is_shown}
use Rattle.booth_manual.specs.Messages.{is_same}
use Rattle.booth_manual.specs.Outcome.{Keep as Tries}
use Rattle.booth_manual.specs.State.{State as Rules, with_view}
use Rattle.booth_rec.specs.declared.record.Record.{Record}
use Rattle.booth_ticket.specs.declared.manual.Job.{Job}
use Rattle.booth_ticket.specs.declared.request.Given.{Given}
use Rattle.booth_ticket.specs.declared.request.Request.{Request}
use Rattle.booth_ticket.specs.declared.request.Wish.{Wish}
use Rattle.booth_ticket.specs.declared.request.Wish.TheVariants.{Grant, Revoke}
use Rattle.booth_ticket.specs.declared.waiters.Waiter.{Waiter}
use Rattle.booth_ticket.specs.Acts.{Ask as TicketAsk, Keep as KeepsRecord, Start as StartsJob, Say}
use Rattle.booth_ticket.specs.declared.handling.Service.{Service}
use Rattle.booth_ticket.specs.declared.handling.Service.TheVariants.{CanRun, CannotRun}
use Rattle.booth_ticket.specs.Manual.{ManualKnown, ManualLeft, ManualState, heard_of, manual_heard, manual_state, rules_of, ticket_as}
use Rattle.booth_ticket.specs.ManualHandling.{Granted, end_handler, fail_handler, grant_after, grant_now, greeting, is_awaited, is_late, manual_due, manual_over, tell_waiters}
use Rattle.booth_ticket.specs.ManualRequests.{Begun, Tried, begin_for, do_for, done_by_hand, keep_for, keep_tried, manual_asked, manual_reply, refused_by_hand, start_for, waits_for, wants_handler}
use Rattle.booth_ticket.specs.Saying.{others, places_in, say, say_each, say_to}
use Rattle.booth_ticket.specs.Ticket.{TicketLeft, Known, Automatic, Manual, left_by_hand}
use Rattle.booth_ticket.specs.Waiting.{result_for, tell_each, tell_one, tell_result}
use Rattle.booth_node.specs.Befalling.{Befalling, comes_due, ends_job, is_told, is_asked}
use Rattle.booth_node.specs.Reaction.{befalls}
use Rattle.booth_ticket.proofs.WalkLemmas.{Any}

-- ---- one ticket's deeds

-- Each record that these deeds keep has at least this term; after one that is kept, its own term is the least. What is
-- left has at least the least term by P.
abbrev pub High : {V : Type 0} → (ℕ → V → Type 0) → ℕ → Deeds TicketAsk V → Type 0
High P term (Ends left) = P term left
High P term (Does (Say to head part) go) = High P term (go true)
High P term (Does (KeepsRecord record_kept) go) =
    (term ≤ record_kept.term) × High P record_kept.term (go true) × High P term (go false)
High P term (Does (StartsJob job expires) go) = (ok : Bool) → High P term (go ok)

-- what follows deeds begins with what is then the least
high_then : {V W : Type 0} (P : ℕ → V → Type 0) (Q : ℕ → W → Type 0) (term : ℕ) (deeds : Deeds TicketAsk V) (f : V → Deeds TicketAsk W)
    → High P term deeds → ((least : ℕ) (left : V) → P least left → High Q least (f left)) → High Q term (deeds >>= f)
high_then P Q term (Ends left) f h on = on term left h
high_then P Q term (Does (Say to head part) go) f h on = high_then P Q term (go true) f h on
high_then P Q term (Does (KeepsRecord kept) go) f h on =
    (h.0, high_then P Q kept.term (go true) f h.1 on, high_then P Q term (go false) f h.2 on)
high_then P Q term (Does (StartsJob job expires) go) f h on = λ ok. high_then P Q term (go ok) f (h ok) on

-- ---- deeds that only say something

abbrev OnlySays : TicketAsk → Type 0
OnlySays (Say to head part) = Unit {0}
OnlySays (KeepsRecord tried) = ⊥
OnlySays (StartsJob job expires) = ⊥

-- what follows them begins with the same term
high_on : {V W : Type 0} (Q : ℕ → W → Type 0) (term : ℕ) (deeds : Deeds TicketAsk V) (f : V → Deeds TicketAsk W)
    → Always OnlySays Any deeds → ((left : V) → High Q term (f left)) → High Q term (deeds >>= f)
high_on Q term (Ends left) f says on = on left
high_on Q term (Does (Say to head part) go) f says on = high_on Q term (go true) f (says.1 true) on
high_on Q term (Does (KeepsRecord kept) go) f says on = absurd says.0
high_on Q term (Does (StartsJob job expires) go) f says on = absurd says.0

each_says : (places : List ℕ) (head : Head) (part : TicketPart) → Always OnlySays Any (say_each places head part)
unfolding say_each say_to
each_says [] head part = tt
each_says (place ∷ places) head part = (tt, λ ok. each_says places head part)

says : (s : Setup) (from : Option ℕ) (rule_words : Words) → Always OnlySays Any (say s from rule_words)
unfolding say_to
says s from words.Nothing = tt
says s None (words.Reply head part) = tt
says s (Some place) (words.Reply head part) = (tt, λ ok. tt)
says s from (words.All head part) = each_says (others s) head part
says s from (words.Unanswered head part bits) = each_says (places_in bits) head part

-- those that wait are told
each_told : (s : Setup) (part : TicketPart) (told : Told) (waiters : List Waiter)
    → Always OnlySays Any (each (tell_one s part told) waiters)
unfolding tell_one say_to
each_told s part told [] = tt
each_told s part told (w ∷ ws) =
    always_then OnlySays Any Any (tell_result s part w (result_for told w)) _ (by_result (result_for told w))
    (λ done any. each_told s part told ws)
  where
    by_result : (r : Option ℕ) → Always OnlySays Any (tell_result s part w r)
    by_result None = tt
    by_result (Some result) = (tt, λ ok. tt)

tells_only : (rules : Rules) (told : Told) (waiters : List Waiter) → Always OnlySays Any (tell_waiters rules told waiters)
unfolding tell_waiters tell_each
tells_only rules told waiters =
    always_then OnlySays Any Any (each (tell_one rules.setup (manual_state rules.setup rules.view) told) waiters) _
    (each_told rules.setup (manual_state rules.setup rules.view) told waiters) (λ done any. tt)

-- ---- a manual ticket's rules

-- the view's term, which is its record's, is at least this one
abbrev pub IsHighView : ℕ → ManualView → Type 0
IsHighView term view = (term ≤ view.term) × (view.kept.term ≡ view.term)

abbrev pub IsHighKnown : ℕ → ManualKnown → Type 0
IsHighKnown term known = IsHighView term known.view

-- what deeds of a manual ticket leave
abbrev IsHighTicket : ℕ → ManualState → Type 0
IsHighTicket term ticket = IsHighKnown term ticket.known

abbrev IsHighByHand : ℕ → ManualLeft → Type 0
IsHighByHand term left = IsHighTicket term left.ticket

abbrev IsHighTried : ℕ → Tried → Type 0
IsHighTried term done = IsHighView term done.rules.view

abbrev IsHighGranted : ℕ → Granted → Type 0
IsHighGranted term done = IsHighView term done.rules.view

abbrev IsHighBegun : ℕ → Begun → Type 0
IsHighBegun term done = IsHighView term done.rules.view

heard_high : (s : Setup) (view : ManualView) (head : Head) (part : TicketPart) (term : ℕ) (cmd : Cmd) → IsHighView term view
    → IsHighView term (hear s view head part cmd).view
heard_high s view head part term UpdE h = on_cond (IsHighView term) view.owner view (record view { shown = Some head.from }) h h
heard_high s view head part term Revk h =
    on_cond (IsHighView term) (is_shown view.shown head.from) (record view { shown = None }) view h h
heard_high s view head part term Stat h =
    on_cond (IsHighView term)
    (is_none view.shown && not view.owner && not (is_same part.leader NO_ONE) && not (is_same part.leader s.me))
    (record view { shown = Some part.leader }) view h h
heard_high s view head part term MIdx h =
    on_cond (IsHighView term)
    (is_none view.shown && not view.owner && not (is_same part.leader NO_ONE) && not (is_same part.leader s.me))
    (record view { shown = Some part.leader }) view h h
heard_high s view head part term cmd h = h

module _ (term : ℕ) where
  heard_keeps : (ticket : ManualState) (from : ℕ) (head : Head) (part : TicketPart) → IsHighTicket term ticket
      → High IsHighTicket term (manual_heard ticket from head part)
  unfolding manual_heard
  heard_keeps ticket from head part h =
      high_on IsHighTicket term (say ticket.setup (Some from) (heard_of ticket head part).say) _
      (says ticket.setup (Some from) (heard_of ticket head part).say)
      (λ done. heard_high ticket.setup ticket.known.view head part term head.cmd h)

  -- no handler runs any longer
  fail_keeps : (ticket : ManualState) (waiters : List Waiter) → IsHighTicket term ticket
      → High IsHighByHand term (fail_handler ticket waiters)
  unfolding fail_handler
  fail_keeps ticket waiters h =
      high_on IsHighByHand term (tell_waiters (rules_of ticket) tells.HandlerFailed waiters) _
      (tells_only (rules_of ticket) tells.HandlerFailed waiters) (λ stay. h)

  due_keeps : (ticket : ManualState) (waiters : List Waiter) (now : ℕ) → IsHighTicket term ticket
      → High IsHighByHand term (manual_due ticket waiters now)
  unfolding manual_due
  due_keeps ticket waiters now h =
      high_on IsHighByHand term (say ticket.setup None (greeting ticket.setup ticket.known)) _
      (says ticket.setup None (greeting ticket.setup ticket.known))
      (λ done. on_cond (High IsHighByHand term) (is_late ticket.known.job now) (fail_handler greeted waiters)
      (Ends (record { ticket = greeted; waiters = waiters })) (fail_keeps greeted waiters h) h)
    where
      greeted : ManualState
      greeted = ticket_as (rules_of ticket) None ticket.known.job

  -- a keep, and what follows of its answer
  tried_keeps : (rules : Rules) (wish : Wish) (tried : Record) → term ≤ tried.term
      → IsHighView tried.term (finish rules.setup rules.view true).view → IsHighView term (finish rules.setup rules.view false).view
      → High IsHighTried term (keep_tried rules wish tried)
  unfolding keep_tried
  tried_keeps rules wish tried less kept failed = (
    less,
    high_on IsHighTried tried.term (say rules.setup None (finish rules.setup rules.view true).say) _
        (says rules.setup None (finish rules.setup rules.view true).say) (λ done. kept),
    high_on IsHighTried term (say rules.setup None (finish rules.setup rules.view false).say) _
        (says rules.setup None (finish rules.setup rules.view false).say) (λ done. failed),
  )

  grant_keeps : (rules : Rules) → IsHighView term rules.view
      → High IsHighTried term
      (keep_tried (with_view rules (grant rules.setup rules.view).view) Grant (grant rules.setup rules.view).tried)
  grant_keeps rules h =
      tried_keeps (with_view rules (grant rules.setup rules.view).view) Grant (grant rules.setup rules.view).tried
      (omega (arith, h.0)) (omega arith, refl) (omega (arith, h.0), refl)

  again_keeps : (rules : Rules) → IsHighView term rules.view
      → High IsHighTried term
      (keep_tried (with_view rules (again rules.setup rules.view).view) Grant (again rules.setup rules.view).tried)
  again_keeps rules h =
      tried_keeps (with_view rules (again rules.setup rules.view).view) Grant (again rules.setup rules.view).tried
      (omega (arith, h.0, h.1)) (omega (arith, h.1), h.1) h

  for_keeps : (rules : Rules) (wish : Wish) → IsHighView term rules.view → High IsHighTried term (keep_for rules wish)
  unfolding keep_for
  for_keeps rules Grant h =
      on_cond (λ (tries : Tries). High IsHighTried term (keep_tried (with_view rules tries.view) Grant tries.tried)) rules.view.owner
      (again rules.setup rules.view) (grant rules.setup rules.view) (again_keeps rules h) (grant_keeps rules h)
  for_keeps rules Revoke h =
      tried_keeps (with_view rules (revoke rules.setup rules.view).view) Revoke (revoke rules.setup rules.view).tried
      h.0 (omega arith, refl) h

  -- the handler of a grant is over
  now_keeps : (rules : Rules) → IsHighView term rules.view → High IsHighGranted term (grant_now rules)
  unfolding grant_now
  now_keeps rules h =
      high_then IsHighTried IsHighGranted term
      (keep_tried (with_view rules (grant rules.setup rules.view).view) Grant (grant rules.setup rules.view).tried)
      (λ done. Ends (record { told = tells.Gained done.rules.view.sure; rules = done.rules }))
      (grant_keeps rules h) (λ least done high. high)

  after_keeps : (rules : Rules) (service : Service) → IsHighView term rules.view → High IsHighGranted term (grant_after rules service)
  after_keeps rules CanRun h =
      on_cond (High IsHighGranted term) (are_terms_spent rules.view) (Ends (record { told = tells.AskFailed; rules = rules }))
      (grant_now rules) h (now_keeps rules h)
  after_keeps rules CannotRun h = h

  end_keeps : (ticket : ManualState) (waiters : List Waiter) (service : Service) → IsHighTicket term ticket
      → High IsHighByHand term (end_handler ticket waiters service)
  unfolding end_handler
  end_keeps ticket waiters service h =
      high_then IsHighGranted IsHighByHand term (grant_after (rules_of ticket) service) _ (after_keeps (rules_of ticket) service h)
      (λ least done high. high_on IsHighByHand least (tell_waiters done.rules done.told waiters) _
      (tells_only done.rules done.told waiters) (λ stay. high))

  over_keeps_by_hand : (ticket : ManualState) (waiters : List Waiter) (job : ℕ) (service : Service) → IsHighTicket term ticket
      → High IsHighByHand term (manual_over ticket waiters job service)
  over_keeps_by_hand ticket waiters job service h =
      on_cond (High IsHighByHand term) (is_awaited ticket.known.job job) (end_handler ticket waiters service)
      (Ends (record { ticket = ticket; waiters = waiters })) (end_keeps ticket waiters service h) h

  -- a client's request
  start_keeps : (rules : Rules) (running : Option Job) (job now : ℕ) → IsHighView term rules.view
      → High IsHighBegun term (start_for rules running job now)
  unfolding start_for
  start_keeps rules running job now h = by_answer
    where
      by_answer : (ok : Bool) → IsHighBegun term (waits_for rules running job now ok)
      by_answer true = h
      by_answer false = h

  begin_keeps : (rules : Rules) (running : Option Job) (job : Option ℕ) (wish : Wish) (now : ℕ) → IsHighView term rules.view
      → High IsHighBegun term (begin_for rules running job wish now)
  begin_keeps rules running None wish now h =
      high_then IsHighTried IsHighBegun term (keep_for rules wish)
      (λ done. Ends (record { answer = done.answer; rules = done.rules; running = running }))
      (for_keeps rules wish h) (λ least done high. high)
  begin_keeps rules running (Some job) wish now h = start_keeps rules running job now h

  do_keeps : (rules : Rules) (running : Option Job) (refused job : Option ℕ) (wish : Wish) (now : ℕ) → IsHighView term rules.view
      → High IsHighBegun term (do_for rules running refused job wish now)
  do_keeps rules running (Some result) job wish now h = h
  do_keeps rules running None job wish now h =
      begin_keeps rules running (if wants_handler rules.view wish then job else None) wish now h

  asked_keeps : (ticket : ManualState) (waiters : List Waiter) (spare : ℕ) (given : Given) (request : Request) → IsHighTicket term ticket
      → High IsHighByHand term (manual_asked ticket waiters spare given request)
  unfolding manual_asked manual_reply say_to
  asked_keeps ticket waiters spare given request h =
      high_then IsHighBegun IsHighByHand term (done_by_hand ticket spare given request) _
      (do_keeps (rules_of ticket) ticket.known.job
      (refused_by_hand ticket.setup ticket.known.view (is_some ticket.known.job) spare given.ready request.options request.wish)
      given.job request.wish given.now h)
      (λ least done high. high)

-- what is left of a manual ticket
abbrev pub IsHigh : ℕ → Known → Type 0
IsHigh term (Automatic view) = ⊥
IsHigh term (Manual known) = IsHighKnown term known

pub high_lower : (term higher : ℕ) (known : Known) → term ≤ higher → IsHigh higher known → IsHigh term known
high_lower term higher (Automatic view) less h = absurd h
high_lower term higher (Manual known) less h = (omega (arith, less, h.0), h.1)

abbrev pub IsHighLeft : ℕ → TicketLeft → Type 0
IsHighLeft term left = IsHigh term left.ticket.known

as_left : (term : ℕ) (deeds : Deeds TicketAsk ManualLeft) → High IsHighByHand term deeds
    → High IsHighLeft term (deeds >>= (λ left. Ends (left_by_hand left)))
as_left term deeds high =
    high_then IsHighByHand IsHighLeft term deeds (λ left. Ends (left_by_hand left)) high (λ least left g. g)

-- what befalls a ticket, of a term at least this one
abbrev pub BefallsHigh : ℕ → Befalling → Type 0
BefallsHigh moment event =
    (s : Setup) (known : Known) (waiters : List Waiter) (spare term : ℕ) (ready : GrantKind → Bool) (job : Option ℕ) → IsHigh term known
    → High IsHighLeft term (befalls (record { setup = s; known = known }) waiters spare ready job event moment)

-- a manual ticket, by its parts
abbrev by_parts : Setup → ManualKnown → ManualState
by_parts s known = record { setup = s; known = known }

pub due_high : (moment : ℕ) → BefallsHigh moment comes_due
due_high moment s (Automatic view) waiters spare term ready job h = absurd h
due_high moment s (Manual known) waiters spare term ready job h =
    as_left term (manual_due (by_parts s known) waiters moment) (due_keeps term (by_parts s known) waiters moment h)

pub told_high : (moment from : ℕ) (head : Head) (part : TicketPart) → BefallsHigh moment (is_told from head part)
told_high moment from head part s (Automatic view) waiters spare term ready job h = absurd h
told_high moment from head part s (Manual known) waiters spare term ready job h =
    high_then IsHighTicket IsHighLeft term (manual_heard (by_parts s known) from head part)
    (λ ticket. Ends (left_by_hand (record { ticket = ticket; waiters = waiters })))
    (heard_keeps term (by_parts s known) from head part h) (λ least ticket g. g)

pub asked_high : (moment : ℕ) (request : Request) → BefallsHigh moment (is_asked request)
asked_high moment request s (Automatic view) waiters spare term ready job h = absurd h
asked_high moment request s (Manual known) waiters spare term ready job h =
    let given : Given = record { now = moment; ready = ready kinds.Manual; job = job } in
    as_left term (manual_asked (by_parts s known) waiters spare given request)
    (asked_keeps term (by_parts s known) waiters spare given request h)

pub over_high : (moment number : ℕ) (service : Service) → BefallsHigh moment (ends_job number service)
over_high moment number service s (Automatic view) waiters spare term ready job h = absurd h
over_high moment number service s (Manual known) waiters spare term ready job h =
    as_left term (manual_over (by_parts s known) waiters number service)
    (over_keeps_by_hand term (by_parts s known) waiters number service h)
