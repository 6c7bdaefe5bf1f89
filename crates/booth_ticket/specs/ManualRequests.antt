-- Clients' requests about a manual ticket, and the replies to them.
use Rattle.std.specs.Prelude.{◌≡◌, ℕ, ◌+◌, ◌-◌, IsTrue, Bool, true, false, not, ◌&&◌, ◌||◌, nat_lt, ◌==◌, List, Option, Some, None, if◌then◌else◌}
use Rattle.std.specs.Option.{is_some}
use Rattle.std.specs.Int.{bit_at}
use Rattle.booth_base.specs.declared.address.MemberId.{MemberId}
use Rattle.booth_rec.specs.declared.record.Record.{Record}
use Rattle.booth_base.specs.Tree.{Deeds, Ends, Does, ◌>>=◌, ◌>>◌}
use Rattle.booth_wire.specs.declared.message.Setup.{Setup}
use Rattle.booth_wire.specs.declared.codes.results.TheConstants.{SUCCESS, ASYN, FAIL, IARG, PEND, APRQ, XPRG, TIDL, OVER, BUSY, REDR}
use Rattle.booth_wire.specs.declared.codes.options.TheConstants.{IMMEDIATE, WAIT, COMMIT}
use Rattle.booth_raft.specs.Messages.{head_of}
use Rattle.booth_raft.specs.Notes.{job_limit}
use Rattle.booth_manual.specs.declared.view.ManualView.{ManualView}
use Rattle.booth_manual.specs.GrantAndRevoke.{again, are_terms_spent, finish, grant, revoke}
use Rattle.booth_manual.specs.Messages.{is_same}
use Rattle.booth_manual.specs.Outcome.{Keep as Tries}
use Rattle.booth_manual.specs.State.{State, with_view}
use Rattle.booth_ticket.specs.declared.hands.To.TheVariants.{Client}
use Rattle.booth_ticket.specs.declared.manual.Job.{Job}
use Rattle.booth_ticket.specs.declared.request.Given.{Given}
use Rattle.booth_ticket.specs.declared.request.Request.{Request}
use Rattle.booth_ticket.specs.declared.request.Wish.{Wish}
use Rattle.booth_ticket.specs.declared.request.Wish.TheVariants.{Grant, Revoke}
use Rattle.booth_ticket.specs.declared.waiters.Waiter.{Waiter}
use Rattle.booth_ticket.specs.Acts.{Ask, Keep, Start}
use Rattle.booth_ticket.specs.Manual.{ManualLeft, ManualState, manual_state, rules_of, ticket_as}
use Rattle.booth_ticket.specs.Requests.{reply_cmd}
use Rattle.booth_ticket.specs.Saying.{say, say_to}
use Rattle.booth_ticket.specs.Waiting.{waits, joined}

-- ---- options

-- The client requests the ticket although another holder is known.
abbrev pub forces : ℕ → Bool
forces options = bit_at options 0 == 1

-- The other options of the request.
abbrev pub unforced : ℕ → ℕ
unforced options = if forces options then options - IMMEDIATE else options

-- A bit is set that no request has.
abbrev pub is_strange : ℕ → Bool
is_strange options = nat_lt (IMMEDIATE + WAIT + COMMIT) options

-- ---- requests that are refused

-- The known holder is another member.
abbrev pub is_another_shown : Option MemberId → MemberId → Bool
is_another_shown None me = false
is_another_shown (Some shown) me = not (is_same shown me)

-- The immediate reply to a grant, while a handler runs or not, and with or without its prerequisites. The first
-- condition that holds gives the reply; if none holds, the ticket is granted. An owner whose last write failed writes
-- its record again.
abbrev pub refused_manual_grant : Setup → ManualView → Bool → ℕ → Bool → ℕ → Option ℕ
refused_manual_grant setup view runs spare ready options =
    if not setup.site || is_strange options then Some IARG else
    if view.owner then (if view.sure then Some SUCCESS else None) else
    if runs then Some BUSY else
    if is_another_shown view.shown setup.me && not (forces options) then Some OVER else
    if not ready then Some APRQ else
    if are_terms_spent view then Some FAIL else
    if waits (unforced options) && spare == 0 then Some BUSY else
    None

-- The immediate reply to a revoke. The first condition that holds gives the reply; if none holds, a record is
-- written.
abbrev pub refused_manual_revoke : Setup → ManualView → Bool → Option ℕ
refused_manual_revoke setup view runs =
    if view.owner then None else
    if runs then Some BUSY else
    if is_another_shown view.shown setup.me then Some REDR else
    Some TIDL

abbrev pub refused_by_hand : Setup → ManualView → Bool → ℕ → Bool → ℕ → Wish → Option ℕ
refused_by_hand setup view runs spare ready options Grant =
    refused_manual_grant setup view runs spare ready options
refused_by_hand setup view runs spare ready options Revoke = refused_manual_revoke setup view runs

-- ---- the action

-- The state if a request is not refused. For a grant, the site is an owner whose last write failed, or a term is
-- left. For a revoke, the site is an owner.
abbrev pub MayTry : ManualView → Wish → Type 0
MayTry view Grant =
    (IsTrue view.owner → view.sure ≡ false) × (view.owner ≡ false → are_terms_spent view ≡ false)
MayTry view Revoke = IsTrue view.owner

-- The rule for the request, which gives the record to write.
abbrev pub tries_for : Setup → ManualView → Wish → Tries
tries_for setup view Grant = if view.owner then again setup view else grant setup view
tries_for setup view Revoke = revoke setup view

-- The reply after the write. An owner stays the owner if the record may not have been written.
abbrev pub result_of_keep : Wish → Bool → ℕ
result_of_keep Grant ok = if ok then SUCCESS else PEND
result_of_keep Revoke ok = if ok then SUCCESS else FAIL

-- The result of a write: the reply, and the rules.
pub record Tried : Type 0 where
  pub answer : ℕ
  pub rules : State

-- The write of a record, which may fail.
abbrev pub keep : Record → Deeds Ask Bool
keep tried = Does (Keep tried) (λ ok. Ends ok)

-- The record is written, and then the message about it goes to all members.
unfoldable pub keep_tried : State → Wish → Record → Deeds Ask Tried
keep_tried rules wish tried = do
  ok ← keep tried
  say rules.setup None (finish rules.setup rules.view ok).say
  Ends (record { answer = result_of_keep wish ok; rules = with_view rules (finish rules.setup rules.view ok).view })

-- The request's rule runs, and its record is written.
unfoldable pub keep_for : State → Wish → Deeds Ask Tried
keep_for rules wish =
    keep_tried (with_view rules (tries_for rules.setup rules.view wish).view) wish
    (tries_for rules.setup rules.view wish).tried

-- The handler must run before the request: it is a grant at a site that does not hold the ticket.
abbrev pub wants_handler : ManualView → Wish → Bool
wants_handler view Grant = not view.owner
wants_handler view Revoke = false

-- The result of a request: the reply, the rules, and the handler that runs.
pub record Begun : Type 0 where
  pub answer : ℕ
  pub rules : State
  pub running : Option Job

-- The result after the start of a handler: the grant waits for its end. If the start failed, the handler has failed.
abbrev pub waits_for : State → Option Job → ℕ → ℕ → Bool → Begun
waits_for rules running job now true = record {
  answer = ASYN;
  rules = rules;
  running = Some (record { number = job; limit = job_limit rules.setup now });
}
waits_for rules running job now false = record { answer = XPRG; rules = rules; running = running }

unfoldable pub start_for : State → Option Job → ℕ → ℕ → Deeds Ask Begun
start_for rules running job now = Does (Start job 0) (λ ok. Ends (waits_for rules running job now ok))

-- The actions of a request that is not refused. Without a job number its record is written at once. With a job
-- number, its handler is started first, under this number.
abbrev pub begin_for : State → Option Job → Option ℕ → Wish → ℕ → Deeds Ask Begun
begin_for rules running None wish now = do
  done ← keep_for rules wish
  Ends (record { answer = done.answer; rules = done.rules; running = running })
begin_for rules running (Some job) wish now = start_for rules running job now

-- The result of a request: it is refused, or begun.
abbrev pub do_for : State → Option Job → Option ℕ → Option ℕ → Wish → ℕ → Deeds Ask Begun
do_for rules running (Some result) job wish now =
    Ends (record { answer = result; rules = rules; running = running })
do_for rules running None job wish now =
    begin_for rules running (if wants_handler rules.view wish then job else None) wish now

-- ---- the reply

-- The request of a client that waits for a grant of a manual ticket. The client is also informed about a failed
-- write, and the option to force the grant no longer matters.
abbrev pub as_waiting : Request → Request
as_waiting request = record request { options = if waits (unforced request.options) then WAIT else 0 }

-- The reply to a request, with the state of the ticket.
unfoldable pub manual_reply : State → Request → ℕ → Deeds Ask (Unit {0})
manual_reply rules request answer =
    say_to (Client request.from) (head_of rules.setup (reply_cmd request.wish) request.number 0 0 answer)
    (manual_state rules.setup rules.view)

-- The actions for a client before the reply.
abbrev pub done_by_hand : ManualState → ℕ → Given → Request → Deeds Ask Begun
done_by_hand ticket spare given request =
    do_for (rules_of ticket) ticket.known.job
    (refused_by_hand ticket.setup ticket.known.view (is_some ticket.known.job) spare given.ready request.options
    request.wish)
    given.job request.wish given.now

-- The actions for a client's request. The reply is the last act, and the client waits if it asked for that. This many
-- more clients may wait.
unfoldable pub manual_asked : ManualState → List Waiter → ℕ → Given → Request → Deeds Ask ManualLeft
manual_asked ticket waiters spare given request = do
  done ← done_by_hand ticket spare given request
  manual_reply done.rules request done.answer
  Ends (record {
    ticket = ticket_as done.rules ticket.known.greets_at done.running;
    waiters = joined (as_waiting request) done.answer waiters;
  })
