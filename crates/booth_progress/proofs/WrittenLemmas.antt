-- Trees of actions whose writes succeed.
use Rattle.std.proofs.Common.{◌≡◌, ℕ, Bool, true, refl, sym, subst}
use Rattle.std.specs.Prelude.{List, Option, Some, None}
use Rattle.booth_base.specs.Tree.{Deeds, Ends, Does, ◌>>=◌}
use Rattle.booth_rec.specs.declared.record.Record.{Record}
use Rattle.booth_wire.specs.declared.message.Head.{Head}
use Rattle.booth_wire.specs.declared.message.Setup.{Setup}
use Rattle.booth_wire.specs.declared.message.TicketPart.{TicketPart}
use Rattle.booth_raft.specs.declared.view.View.{View}
use Rattle.booth_raft.specs.AskAndRenew.{finish}
use Rattle.booth_raft.specs.Deadlines.{greeted, hello}
use Rattle.booth_raft.specs.Messages.{state_part}
use Rattle.booth_raft.specs.OtherMessages.{hear as heard}
use Rattle.booth_raft.specs.Outcome.{Outcome}
use Rattle.booth_raft.specs.State.{Step, step}
use Rattle.booth_ticket.specs.declared.handling.Service.{Service}
use Rattle.booth_ticket.specs.declared.request.Given.{Given}
use Rattle.booth_ticket.specs.declared.request.Request.{Request}
use Rattle.booth_ticket.specs.declared.request.Wish.{Wish}
use Rattle.booth_ticket.specs.declared.waiters.Waiter.{Waiter}
use Rattle.booth_ticket.specs.Automatic.{come_due, end_job, hear, hear_job, hear_message, role_due, tick}
use Rattle.booth_ticket.specs.Handling.{job_over}
use Rattle.booth_ticket.specs.Keeping.{carry_out, keep_of, keep_once}
use Rattle.booth_ticket.specs.Requests.{Answered, do_for, follow_request, reply}
use Rattle.booth_ticket.specs.Saying.{say}
use Rattle.booth_ticket.specs.Waiting.{Left, tell, tell_each}
use Rattle.booth_ticket.proofs.WalkLemmas.{Any}
use Rattle.booth_progress.specs.Kept.{AllKept, OneKept, kept_by}
use Rattle.booth_progress.specs.Written.{IsWritten, Leaves, Whenever, core_of}

-- ---- trees alone

pub whenever_then : {A S T : Type 0} (May : A → Bool → Type 0) (Q : S → Type 0) (R : T → Type 0) (t : Deeds A S) (f : S → Deeds A T)
    → Whenever May Q t → ((s : S) → Q s → Whenever May R (f s)) → Whenever May R (t >>= f)
whenever_then May Q R (Ends s) f h on = on s h
whenever_then May Q R (Does a g) f h on = λ ok may. whenever_then May Q R (g ok) f (h ok may) on

pub whenever_on : {A S : Type 0} (May : A → Bool → Type 0) (Q R : S → Type 0) (t : Deeds A S) → Whenever May Q t
    → ((s : S) → Q s → R s) → Whenever May R t
whenever_on May Q R (Ends s) h on = on s h
whenever_on May Q R (Does a g) h on = λ ok may. whenever_on May Q R (g ok) (h ok may) on

pub whatever : {A S : Type 0} (May : A → Bool → Type 0) (t : Deeds A S) → Whenever May Any t
whatever May (Ends s) = tt
whatever May (Does a g) = λ ok may. whatever May (g ok)

-- ---- writes

-- a step as the outcome of a rule
abbrev pub outcome_of : Step → Outcome
outcome_of x = record { view = x.core.view; deed = x.deed }

module _ (setup : Setup) (now : ℕ) where
  -- a step of the ticket whose outcome has this property
  abbrev pub IsIts : (Outcome → Type 0) → Step → Type 0
  IsIts Q x = (x.core.setup ≡ setup) × Q (outcome_of x)

  pub written : (Q : Outcome → Type 0) (keep : Option Record) (x : Step) → x.core.setup ≡ setup
      → Q (kept_by setup now keep (outcome_of x)) → Whenever IsWritten (IsIts Q) (keep_of now keep x)
  written Q None x its h = (its, h)
  written Q (Some tried) x its h = λ ok is. (
    its,
    subst (λ (b : Bool). Q (finish x.core.setup x.core.view now b)) (sym is)
        (subst (λ (s : Setup). Q (finish s x.core.view now true)) (sym its) h),
  )

  pub carried : (Q : Outcome → Type 0) (from : Option ℕ) (x : Step) → x.core.setup ≡ setup → AllKept setup now Q (outcome_of x)
      → Whenever IsWritten (IsIts Q) (carry_out from now x)
  unfolding carry_out keep_once
  carried Q from x its h =
      whenever_then IsWritten (IsIts (OneKept setup now Q)) (IsIts Q) (keep_of now x.deed.keep x) _
      (written (OneKept setup now Q) x.deed.keep x its h)
      (λ first f. whenever_then IsWritten (IsIts Q) (IsIts Q) (keep_of now first.deed.keep first) _
      (written Q first.deed.keep first f.0 f.1)
      (λ last l. whenever_then IsWritten Any (IsIts Q) (say last.core.setup from last.deed.say) _
      (whatever IsWritten (say last.core.setup from last.deed.say)) (λ done any. l)))

-- ---- the calls of a ticket

module _ (setup : Setup) (Holds : View → Type 0) (waiters : List Waiter) where
  abbrev pub Viewed : Outcome → Type 0
  Viewed outcome = Holds outcome.view

  abbrev LeftSo : Left → Type 0
  LeftSo left = (left.core.setup ≡ setup) × Holds left.core.view

  told : (now : ℕ) (last : Step) → (last.core.setup ≡ setup) × Holds last.core.view → Whenever IsWritten LeftSo (tell now waiters last)
  unfolding tell
  told now last its =
      whenever_then IsWritten Any LeftSo
      (tell_each last.core.setup (state_part last.core.setup last.core.view now) last.deed.told waiters) _
      (whatever IsWritten (tell_each last.core.setup (state_part last.core.setup last.core.view now) last.deed.told waiters))
      (λ stay any. its)

  pub heard_leaves : (view : View) (from : ℕ) (head : Head) (part : TicketPart) (now : ℕ)
      → AllKept setup now Viewed (heard setup view from head part now head.cmd)
      → Leaves setup Holds (hear (core_of setup view) waiters from head part now)
  unfolding hear hear_message
  heard_leaves view from head part now h =
      whenever_then IsWritten (IsIts setup now Viewed) LeftSo (hear_message (core_of setup view) from head part now) _
      (carried setup now Viewed (Some from) (step (core_of setup view) (heard setup view from head part now head.cmd)) refl h)
      (λ last l. told now last l)

  pub over_leaves : (view : View) (job : ℕ) (service : Service) (now : ℕ)
      → AllKept setup now Viewed (job_over setup view job service now)
      → Leaves setup Holds (end_job (core_of setup view) waiters job service now)
  unfolding end_job hear_job
  over_leaves view job service now h =
      whenever_then IsWritten (IsIts setup now Viewed) LeftSo (hear_job (core_of setup view) job service now) _
      (carried setup now Viewed None (step (core_of setup view) (job_over setup view job service now)) refl h)
      (λ last l. told now last l)

  pub due_leaves : (view : View) (given : Given)
      → Whenever IsWritten (IsIts setup given.now (AllKept setup given.now Viewed)) (role_due (core_of setup (greeted setup view)) given)
      → Leaves setup Holds (come_due (core_of setup view) waiters given)
  unfolding come_due tick
  due_leaves view given h =
      whenever_then IsWritten (IsIts setup given.now Viewed) LeftSo (tick (core_of setup view) given) _
      (whenever_then IsWritten Any (IsIts setup given.now Viewed) (say setup None (hello setup view given.now)) _
      (whatever IsWritten (say setup None (hello setup view given.now)))
      (λ done any. whenever_then IsWritten (IsIts setup given.now (AllKept setup given.now Viewed)) (IsIts setup given.now Viewed)
      (role_due (core_of setup (greeted setup view)) given) _ h
      (λ begun b. carried setup given.now Viewed None begun b.0 b.1)))
      (λ last l. told given.now last l)

  pub asked_leaves : (view : View) (spare : ℕ) (given : Given) (request : Request) (wish : Wish)
      → Whenever IsWritten (λ (done : Answered). (done.last.core.setup ≡ setup) × Holds done.last.core.view)
      (do_for (core_of setup view) spare given request.options wish)
      → Leaves setup Holds (follow_request (core_of setup view) waiters spare given request wish)
  unfolding follow_request
  asked_leaves view spare given request wish h =
      whenever_then IsWritten (λ (done : Answered). (done.last.core.setup ≡ setup) × Holds done.last.core.view) LeftSo
      (do_for (core_of setup view) spare given request.options wish) _ h
      (λ done d. whenever_then IsWritten LeftSo LeftSo (tell given.now waiters done.last) _ (told given.now done.last d)
      (λ left l. whenever_then IsWritten Any LeftSo (reply left.core request wish done.answer given.now) _
      (whatever IsWritten (reply left.core request wish done.answer given.now)) (λ said any. l)))
