-- An automatic ticket for which a client waits has a deadline.
use Rattle.std.specs.Prelude.{◌≡◌, ◌⊎◌, ℕ, ◌+◌, ◌*◌, ◌≤◌, max, true, false, List, [], IsSomeAnd}
use Rattle.booth_base.specs.Tree.{Deeds, Always}
use Rattle.booth_rec.specs.declared.record.Record.{Record}
use Rattle.booth_wire.specs.declared.message.Head.{Head}
use Rattle.booth_wire.specs.declared.message.Setup.{Setup}
use Rattle.booth_wire.specs.declared.message.TicketPart.{TicketPart}
use Rattle.booth_raft.specs.declared.view.View.{View}
use Rattle.booth_raft.specs.GainReleaseLost.{own_end}
use Rattle.booth_raft.specs.Members.{is_follower}
use Rattle.booth_raft.specs.Sound.{IsSound}
use Rattle.booth_raft.specs.StartAndLearn.{started}
use Rattle.booth_raft.specs.State.{State}
use Rattle.booth_ticket.specs.declared.handling.Service.{Service}
use Rattle.booth_ticket.specs.declared.request.Given.{Given}
use Rattle.booth_ticket.specs.declared.request.Request.{Request}
use Rattle.booth_ticket.specs.declared.waiters.Waiter.{Waiter}
use Rattle.booth_ticket.specs.Acts.{Ask}
use Rattle.booth_ticket.specs.Automatic.{come_due, end_job, hear}
use Rattle.booth_ticket.specs.Requests.{follow_request}
use Rattle.booth_ticket.specs.Waiting.{Left}
use Rattle.booth_world.specs.Kept.{AnyAsk}

-- The time for which a member tries a round, or for which a handler may run: one timeout for the first send, one for
-- each retry, and 1 ms.
abbrev pub patience : Setup → ℕ
patience setup = setup.times.timeout * (setup.times.retries + 1) + 1

-- The latest deadline that is set at a reading: `patience` after the reading, or the end of the own lease.
abbrev pub latest : Setup → View → ℕ → ℕ
latest setup view now = max (now + patience setup) (own_end view)

-- A member that is not a follower is working, is a candidate or leads, and has a deadline. No client waits for the
-- ticket of a follower.
pub record WaitForDeadline (setup : Setup) (now : ℕ) (view : View) (waiters : List Waiter) : Type 0 where
  pub coming : is_follower view.role ≡ false → IsSomeAnd view.due (λ due. due ≤ latest setup view now)
  pub idle : is_follower view.role ≡ true → waiters ≡ []

-- The result of a call has its deadline while a client waits, and the setup is unchanged.
abbrev pub LeavesDeadlines : Setup → ℕ → Deeds Ask Left → Type 0
LeavesDeadlines setup now deeds =
    Always AnyAsk (λ left. (left.core.setup ≡ setup) × WaitForDeadline setup now left.core.view left.waiters) deeds

abbrev pub core_of : Setup → View → State
core_of setup view = record { setup = setup; view = view }

-- A ticket with a waiting client has its deadline: this holds when an automatic ticket starts, and stays true while
-- time passes and after every event. The deadline is not later than `latest`.
pub record WaitersHaveDeadlines : Type 0 where
  pub starts : (setup : Setup) (rec : Record) (now : ℕ) → WaitForDeadline setup now (started setup rec now) []
  pub passes : (setup : Setup) (view : View) (waiters : List Waiter) (now later : ℕ) → now ≤ later
      → WaitForDeadline setup now view waiters → WaitForDeadline setup later view waiters
  pub heard : (setup : Setup) (view : View) (waiters : List Waiter) (from : ℕ) (head : Head) (part : TicketPart)
      (now : ℕ) → IsSound setup → WaitForDeadline setup now view waiters
      → LeavesDeadlines setup now (hear (core_of setup view) waiters from head part now)
  pub due : (setup : Setup) (view : View) (waiters : List Waiter) (given : Given) → IsSound setup
      → WaitForDeadline setup given.now view waiters
      → LeavesDeadlines setup given.now (come_due (core_of setup view) waiters given)
  pub over : (setup : Setup) (view : View) (waiters : List Waiter) (job : ℕ) (service : Service) (now : ℕ)
      → IsSound setup → WaitForDeadline setup now view waiters
      → LeavesDeadlines setup now (end_job (core_of setup view) waiters job service now)
  pub asked : (setup : Setup) (view : View) (waiters : List Waiter) (spare : ℕ) (given : Given) (request : Request)
      → IsSound setup → WaitForDeadline setup given.now view waiters
      → LeavesDeadlines setup given.now (follow_request (core_of setup view) waiters spare given request request.wish)
  pub coming : (setup : Setup) (view : View) (waiters : List Waiter) (now : ℕ)
      → WaitForDeadline setup now view waiters
      → (waiters ≡ []) ⊎ IsSomeAnd view.due (λ due. due ≤ latest setup view now)
