-- The actions of a manual ticket after the handler of a grant, and at its deadline.
use Rattle.std.specs.Prelude.{ℕ, Bool, false, nat_le, ◌==◌, List, Option, Some, None, if◌then◌else◌}
use Rattle.std.specs.Option.{is_some}
use Rattle.booth_base.specs.Tree.{Deeds, Ends, ◌>>=◌, ◌>>◌}
use Rattle.booth_wire.specs.declared.message.Say.{Say as Words}
use Rattle.booth_wire.specs.declared.message.Say.TheVariants as words
use Rattle.booth_wire.specs.declared.message.Setup.{Setup}
use Rattle.booth_raft.specs.declared.deed.Told.{Told}
use Rattle.booth_raft.specs.declared.deed.Told.TheVariants as tells
use Rattle.booth_manual.specs.GrantAndRevoke.{are_terms_spent, grant}
use Rattle.booth_manual.specs.Messages.{asks_state}
use Rattle.booth_manual.specs.State.{State, with_view}
use Rattle.booth_ticket.specs.declared.handling.Service.{Service}
use Rattle.booth_ticket.specs.declared.handling.Service.TheVariants.{CanRun, CannotRun}
use Rattle.booth_ticket.specs.declared.manual.Job.{Job}
use Rattle.booth_ticket.specs.declared.request.Wish.TheVariants.{Grant}
use Rattle.booth_ticket.specs.declared.waiters.Waiter.{Waiter}
use Rattle.booth_ticket.specs.Acts.{Ask}
use Rattle.booth_ticket.specs.Manual.{ManualKnown, ManualLeft, ManualState, manual_state, rules_of, ticket_as}
use Rattle.booth_ticket.specs.ManualRequests.{keep_tried}
use Rattle.booth_ticket.specs.Saying.{say}
use Rattle.booth_ticket.specs.Waiting.{tell_each}

-- ---- the end of a job

-- The waiting clients are sent an outcome, with the state of the ticket. Clients without a result continue to wait.
unfoldable pub tell_waiters : State → Told → List Waiter → Deeds Ask (List Waiter)
tell_waiters rules told waiters = tell_each rules.setup (manual_state rules.setup rules.view) told waiters

-- The result of a handler's end: the outcome for the waiting clients, and the rules.
pub record Granted : Type 0 where
  pub told : Told
  pub rules : State

-- The ticket is granted now.
unfoldable pub grant_now : State → Deeds Ask Granted
grant_now rules = do
  done ← keep_tried (with_view rules (grant rules.setup rules.view).view) Grant (grant rules.setup rules.view).tried
  Ends (record { told = tells.Gained done.rules.view.sure; rules = done.rules })

-- The handler of a grant has ended. The ticket is granted if the service can run and a term is left.
abbrev pub grant_after : State → Service → Deeds Ask Granted
grant_after rules CanRun =
    if are_terms_spent rules.view then Ends (record { told = tells.AskFailed; rules = rules }) else grant_now rules
grant_after rules CannotRun = Ends (record { told = tells.HandlerFailed; rules = rules })

-- The ticket waits for this job.
abbrev pub is_awaited : Option Job → ℕ → Bool
is_awaited None job = false
is_awaited (Some awaited) job = awaited.number == job

-- The ticket's handler has ended, and the waiting clients are sent the outcome.
unfoldable pub end_handler : ManualState → List Waiter → Service → Deeds Ask ManualLeft
end_handler ticket waiters service = do
  done ← grant_after (rules_of ticket) service
  stay ← tell_waiters done.rules done.told waiters
  Ends (record { ticket = ticket_as done.rules ticket.known.greets_at None; waiters = stay })

-- The actions after the end of a handler. A job that is not one of the ticket changes nothing.
abbrev pub manual_over : ManualState → List Waiter → ℕ → Service → Deeds Ask ManualLeft
manual_over ticket waiters job service =
    if is_awaited ticket.known.job job
    then end_handler ticket waiters service
    else Ends (record { ticket = ticket; waiters = waiters })

-- ---- the deadline

-- The last time at which the handler may run.
abbrev pub limit_of : Option Job → Option ℕ
limit_of None = None
limit_of (Some job) = Some job.limit

-- The next deadline of the ticket: the time to ask all members for their state, or else the latest end of its handler.
abbrev pub manual_deadline : ManualKnown → Option ℕ
manual_deadline known = if is_some known.greets_at then known.greets_at else limit_of known.job

-- The message at the deadline: all members are asked for their state, once after a start.
abbrev pub greeting : Setup → ManualKnown → Words
greeting setup known = if is_some known.greets_at then asks_state setup known.view else words.Nothing

-- A handler runs that should have ended by now.
abbrev pub is_late : Option Job → ℕ → Bool
is_late None now = false
is_late (Some job) now = nat_le job.limit now

-- The handler counts as ended, and the waiting clients are informed that it failed.
unfoldable pub fail_handler : ManualState → List Waiter → Deeds Ask ManualLeft
fail_handler ticket waiters = do
  stay ← tell_waiters (rules_of ticket) tells.HandlerFailed waiters
  Ends (record { ticket = ticket_as (rules_of ticket) ticket.known.greets_at None; waiters = stay })

-- A handler that is late has failed.
abbrev pub limit_due : ManualState → List Waiter → ℕ → Deeds Ask ManualLeft
limit_due ticket waiters now =
    if is_late ticket.known.job now
    then fail_handler ticket waiters
    else Ends (record { ticket = ticket; waiters = waiters })

-- The actions at the deadline: the message to all members, and then the effect of a late handler.
unfoldable pub manual_due : ManualState → List Waiter → ℕ → Deeds Ask ManualLeft
manual_due ticket waiters now = do
  say ticket.setup None (greeting ticket.setup ticket.known)
  limit_due (ticket_as (rules_of ticket) None ticket.known.job) waiters now
