-- Members behind a site, and leaders, in the calls of a ticket.
use Rattle.std.specs.Prelude.{◌≡◌, ◌≢◌, ℕ, ◌+◌, ◌<◌, ◌≤◌, List, None}
use Rattle.booth_base.specs.declared.address.MemberId.{MemberId}
use Rattle.booth_base.specs.Times.{promise_of}
use Rattle.booth_wire.specs.declared.message.Head.{Head}
use Rattle.booth_wire.specs.declared.message.TicketPart.{TicketPart}
use Rattle.booth_wire.specs.declared.message.Setup.{Setup}
use Rattle.booth_raft.specs.declared.view.View.{View}
use Rattle.booth_ticket.specs.declared.handling.Service.{Service}
use Rattle.booth_ticket.specs.declared.request.Given.{Given}
use Rattle.booth_ticket.specs.declared.request.Request.{Request}
use Rattle.booth_ticket.specs.declared.request.Wish.TheVariants.{Revoke}
use Rattle.booth_ticket.specs.declared.waiters.Waiter.{Waiter}
use Rattle.booth_ticket.specs.Automatic.{come_due, end_job, hear}
use Rattle.booth_ticket.specs.Requests.{follow_request}
use Rattle.booth_progress.specs.Behind.{IsBehind, IsFair}
use Rattle.booth_progress.specs.Leading.{IsLeading, KeepsLease}
use Rattle.booth_progress.specs.Written.{Leaves, core_of}

-- Until its promise to a site ends, a member stays behind the site: whatever it hears, at each deadline, at the end of
-- a handler, and after a request of a client. A grant is refused.
pub record TicketsStayBehind : Type 0 where
  pub heard : (setup : Setup) (view : View) (waiters : List Waiter) (site : MemberId) (since term until from : ℕ)
      (head : Head) (part : TicketPart) (now : ℕ) → now < until → until ≤ now + promise_of setup.times
      → IsBehind site since term until now view → IsFair site since term head.cmd head part
      → Leaves setup (IsBehind site since term until now) (hear (core_of setup view) waiters from head part now)
  pub due : (setup : Setup) (view : View) (waiters : List Waiter) (site : MemberId) (since term until : ℕ)
      (given : Given) → given.now < until → setup.me ≢ site → IsBehind site since term until given.now view
      → Leaves setup (IsBehind site since term until given.now) (come_due (core_of setup view) waiters given)
  pub over : (setup : Setup) (view : View) (waiters : List Waiter) (site : MemberId) (since term until job : ℕ)
      (service : Service) (now : ℕ) → IsBehind site since term until now view
      → Leaves setup (IsBehind site since term until now) (end_job (core_of setup view) waiters job service now)
  pub asked : (setup : Setup) (view : View) (waiters : List Waiter) (site : MemberId) (since term until spare : ℕ)
      (given : Given) (request : Request) → given.now < until → setup.me ≢ site
      → IsBehind site since term until given.now view
      → Leaves setup (IsBehind site since term until given.now)
      (follow_request (core_of setup view) waiters spare given request request.wish)

-- While its lease runs, a leader keeps it: whatever it hears, at the end of a handler, and after a request of a client
-- that is no revoke. It keeps the lease at a deadline too, if the ticket has no handler and there are other members.
pub record TicketsKeepLeases : Type 0 where
  pub heard : (setup : Setup) (view : View) (waiters : List Waiter) (from : ℕ) (head : Head) (part : TicketPart)
      (now : ℕ) → setup.times.renewal < setup.times.expire → IsLeading setup now view
      → Leaves setup (KeepsLease setup now view) (hear (core_of setup view) waiters from head part now)
  pub due : (setup : Setup) (view : View) (waiters : List Waiter) (given : Given) → given.job ≡ None
      → 1 < setup.members → IsLeading setup given.now view
      → Leaves setup (KeepsLease setup given.now view) (come_due (core_of setup view) waiters given)
  pub over : (setup : Setup) (view : View) (waiters : List Waiter) (job : ℕ) (service : Service) (now : ℕ)
      → IsLeading setup now view
      → Leaves setup (KeepsLease setup now view) (end_job (core_of setup view) waiters job service now)
  pub asked : (setup : Setup) (view : View) (waiters : List Waiter) (spare : ℕ) (given : Given)
      (request : Request) → request.wish ≢ Revoke → IsLeading setup given.now view
      → Leaves setup (KeepsLease setup given.now view)
      (follow_request (core_of setup view) waiters spare given request request.wish)
