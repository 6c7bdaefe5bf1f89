-- What a ticket's calls leave of its deadline: its trees, by the rules.
use Rattle.std.proofs.Common.{◌≡◌, ℕ, ◌+◌, ◌≤◌, Bool, true, false, ◌&&◌, not, arith, refl, sym, subst, if◌then◌else◌}
use Rattle.std.specs.Prelude.{Option, Some, None, nat_le, nat_lt, is_some}
use Rattle.booth_base.specs.Tree.{Ends, Always}
use Rattle.booth_base.proofs.TreeLemmas.{always_then}
use Rattle.booth_rec.specs.declared.record.Record.{Record}
use Rattle.booth_wire.specs.declared.codes.reasons.TheConstants.{LOCF, TLST}
use Rattle.booth_wire.specs.declared.message.Head.{Head}
use Rattle.booth_wire.specs.declared.message.Setup.{Setup}
use Rattle.booth_wire.specs.declared.message.TicketPart.{TicketPart}
use Rattle.booth_raft.specs.declared.deed.Note.TheVariants.{AskFailed as AcquisitionFailed, JobOver as JobIsOver}
use Rattle.booth_raft.specs.declared.deed.Told.{Told}
use Rattle.booth_raft.specs.declared.deed.Told.TheVariants as tells
use Rattle.booth_raft.specs.declared.view.Role.{Role}
use Rattle.booth_raft.specs.declared.view.Role.TheVariants.{Follower, Working, Candidate, Leader}
use Rattle.booth_raft.specs.declared.view.View.{View}
use Rattle.booth_raft.specs.AskAndRenew.{acquisition_failed, are_terms_spent, ask, finish}
use Rattle.booth_raft.specs.Deadlines.{greeted, hello, is_sent_again, is_silent, is_tried}
use Rattle.booth_raft.specs.GainReleaseLost.{own_end, retry_at}
use Rattle.booth_raft.specs.Members.{is_promised_elsewhere}
use Rattle.booth_raft.specs.Messages.{shown_end}
use Rattle.booth_raft.specs.Notes.{noted}
use Rattle.booth_raft.specs.OtherMessages.{hear as heard}
use Rattle.booth_raft.specs.Outcome.{Outcome, telling}
use Rattle.booth_raft.specs.State.{Step, step}
use Rattle.booth_raft.proofs.FactsLemmas.{on_cond, on_option}
use Rattle.booth_ticket.specs.declared.handling.Service.{Service}
use Rattle.booth_ticket.specs.declared.handling.Service.TheVariants.{CanRun, CannotRun}
use Rattle.booth_ticket.specs.declared.request.Given.{Given}
use Rattle.booth_ticket.specs.Automatic.{follow, hear_job, hear_message, role_due, tick}
use Rattle.booth_ticket.specs.Handling.{acquire, acquires, checks, is_job, job_over, leads_on, renews_by, works, works_on}
use Rattle.booth_ticket.specs.Keeping.{carry_out, keep_of, keep_once}
use Rattle.booth_ticket.specs.Saying.{say}
use Rattle.booth_ticket.proofs.WalkLemmas.{Any}
use Rattle.booth_world.specs.Kept.{AnyAsk}
use Rattle.booth_world.specs.Waits.{core_of, latest}
use Rattle.booth_world.proofs.DeadlineRules.{Fine, IsFine, IsShort, Once, One, TellsEach, Twice, Well, ask_well, hear_well, no_split, one_timeout, release_well, renew_well, round_over}
use Rattle.booth_world.proofs.WaitingLaws.{all_any}

-- a step as the outcome of a rule
abbrev pub outcome_of : Step → Outcome
outcome_of x = record { view = x.core.view; deed = x.deed }

module _ (s : Setup) (sound : IsShort s) (now : ℕ) (E : Told → Type 0) (ends : (told : Told) → TellsEach told → E told) where
  abbrev pub IsWell : Step → Type 0
  IsWell x = (x.core.setup ≡ s) × Well s sound now E ends (outcome_of x)

  abbrev IsOnce : Step → Type 0
  IsOnce x = (x.core.setup ≡ s) × One s sound now E ends (outcome_of x)

  abbrev pub IsDone : Step → Type 0
  IsDone x = (x.core.setup ≡ s) × Fine s sound now E ends (outcome_of x)

  failed : E tells.HandlerFailed
  failed = ends tells.HandlerFailed (λ waiter. refl)

  unasked : E tells.AskFailed
  unasked = ends tells.AskFailed (λ waiter. refl)

  is_lost : E tells.Lost
  is_lost = ends tells.Lost (λ waiter. refl)

  -- ---- keeps

  kept_first : (keep : Option Record) (x : Step) → x.core.setup ≡ s → Twice s sound now E ends keep (outcome_of x)
      → Always AnyAsk IsOnce (keep_of now keep x)
  kept_first None x its h = (its, h)
  kept_first (Some tried) x its h =
      (tt, λ ok. (its, subst (λ (t : Setup). One s sound now E ends (finish t x.core.view now ok)) (sym its) (h ok)))

  kept_last : (keep : Option Record) (x : Step) → x.core.setup ≡ s → Once s sound now E ends keep (outcome_of x)
      → Always AnyAsk IsDone (keep_of now keep x)
  kept_last None x its h = (its, h)
  kept_last (Some tried) x its h =
      (tt, λ ok. (its, subst (λ (t : Setup). Fine s sound now E ends (finish t x.core.view now ok)) (sym its) (h ok)))

  pub carried : (from : Option ℕ) (x : Step) → IsWell x → Always AnyAsk IsDone (carry_out from now x)
  unfolding carry_out keep_once
  carried from x h =
      always_then AnyAsk IsOnce IsDone (keep_of now x.deed.keep x) _ (kept_first x.deed.keep x h.0 h.1)
      (λ first f. always_then AnyAsk IsDone IsDone (keep_of now first.deed.keep first) _ (kept_last first.deed.keep first f.0 f.1)
      (λ last l. always_then AnyAsk Any IsDone (say last.core.setup from last.deed.say) _ (all_any _) (λ done any. l)))

  -- ---- the handler

  acquire_well : (view : View) (reason : ℕ) → Well s sound now E ends (acquire s view reason now)
  acquire_well view reason =
      on_cond (Well s sound now E ends) (are_terms_spent view) (telling (acquisition_failed s view now) tells.AskFailed)
      (ask s view reason now) unasked (ask_well s sound now E ends view reason)

  pub acquired : (view : View) (job : Option ℕ) (reason : ℕ)
      → Always AnyAsk IsWell (acquires (core_of s (record view { role = Follower })) job reason now)
  acquired view None reason = (refl, acquire_well (record view { role = Follower }) reason)
  acquired view (Some job) reason = (tt, by_start)
    where
      by_start : (ok : Bool) → Always AnyAsk IsWell (Ends (step (core_of s (record view { role = Follower }))
          (works s (record view { role = Follower }) job reason now ok)))
      by_start true = (refl, omega arith)
      by_start false = (refl, failed)

  renewed : (view : View) (job : Option ℕ) → Always AnyAsk IsWell (renews_by (core_of s (record view { role = Leader })) job now)
  renewed view None = (refl, renew_well s sound now E ends view)
  renewed view (Some job) = (tt, by_start)
    where
      by_start : (ok : Bool) → Always AnyAsk IsWell (Ends (step (core_of s (record view { role = Leader }))
          (checks s (record view { role = Leader }) job now ok)))
      by_start true = (refl, omega arith)
      by_start false = (refl, release_well s sound now E ends view LOCF no_split)

  works_well : (view : View) (service : Service) → Well s sound now E ends (works_on s view service now)
  works_well view CanRun =
      on_cond (Well s sound now E ends) (is_promised_elsewhere view.promise s.me now)
      (telling (noted s view now AcquisitionFailed) tells.AskFailed) (acquire s view view.reason now) unasked (acquire_well view view.reason)
  works_well view CannotRun = failed

  leads_well : (view : View) (service : Service) → Well s sound now E ends (leads_on s (record view { role = Leader }) service now)
  leads_well view CanRun =
      on_cond (Well s sound now E ends) (nat_le (own_end view) now) _ _ is_lost (renew_well s sound now E ends view)
  leads_well view CannotRun =
      on_cond (Well s sound now E ends) (nat_le (own_end view) now) _ _ is_lost (release_well s sound now E ends view LOCF no_split)

  job_well : (view : View) (role : Role) (job : ℕ) (service : Service) → IsFine s sound now E ends role view
      → Well s sound now E ends (job_over s (record view { role = role }) job service now)
  job_well view Follower job service old = on_cond (Well s sound now E ends) (s.site && is_job view.job job) _ _ old old
  job_well view Working job service old =
      on_cond (Well s sound now E ends) (s.site && is_job view.job job) _ _ (works_well (record view { role = Working }) service) old
  job_well view Candidate job service old = on_cond (Well s sound now E ends) (s.site && is_job view.job job) _ _ old old
  job_well view Leader job service old =
      on_cond (Well s sound now E ends) (s.site && is_job view.job job) _ _ (leads_well (noted s view now JobIsOver) service) old

  -- ---- the deadline

  abbrev given_of : Bool → Option ℕ → Given
  given_of ready job = record { now = now; ready = ready; job = job }

  -- what follows an outcome of the rule of the role is well
  abbrev GoesWell : View → Bool → Option ℕ → Outcome → Type 0
  GoesWell view ready job outcome =
      Always AnyAsk IsWell (follow (step (core_of s view) outcome) outcome.deed.want (given_of ready job))

  follower_well : (view : View) (ready : Bool) (job : Option ℕ) → E tells.Nothing
      → Always AnyAsk IsWell (role_due (core_of s (record view { role = Follower })) (given_of ready job))
  follower_well view ready job old =
      on_cond Goes (nat_lt 0 view.repeat) _ _ (refl, old)
      (on_cond Goes (s.site && view.managed) _ _
      (on_cond Goes (nat_lt now (shown_end view.shown)) _ _ (refl, old)
      (on_cond Goes (is_silent s view now) _ _ (refl, old)
      (on_cond Goes (is_promised_elsewhere view.promise s.me now) _ _ (refl, old)
      (on_cond (Always AnyAsk IsWell) ready _ _ (acquired (record view { shown = None }) job TLST) (refl, old)))))
      (refl, old))
    where
      Goes : Outcome → Type 0
      Goes outcome = GoesWell (record view { role = Follower }) ready job outcome

  candidate_well : (view : View) (ready : Bool) (job : Option ℕ)
      → Always AnyAsk IsWell (role_due (core_of s (record view { role = Candidate })) (given_of ready job))
  candidate_well view ready job =
      on_option Goes view.round _ _ (λ none. (refl, round_over s sound now E ends candidate))
      (λ round is. on_cond Goes (is_tried s round now) _ _ (refl, again) (refl, round_over s sound now E ends candidate))
    where
      candidate : View
      candidate = record view { role = Candidate }

      Goes : Outcome → Type 0
      Goes outcome = GoesWell candidate ready job outcome

      again : now + s.times.timeout ≤ latest s view now
      again = let one = one_timeout s sound now E ends in omega (arith, one)

  leader_well : (view : View) (ready : Bool) (job : Option ℕ)
      → Always AnyAsk IsWell (role_due (core_of s (record view { role = Leader })) (given_of ready job))
  leader_well view ready job =
      on_cond Goes (nat_le (own_end view) now) _ _ (refl, is_lost)
      (on_cond Goes (is_some view.job) _ _ (refl, release_well s sound now E ends (record view { job = None }) LOCF no_split)
      (on_option Goes view.round _ _ (λ none. renewed view (if s.site then job else None))
      (λ round is. on_cond Goes (is_sent_again s view round now) _ _ (refl, again) (renewed view (if s.site then job else None)))))
    where
      Goes : Outcome → Type 0
      Goes outcome = GoesWell (record view { role = Leader }) ready job outcome

      again : retry_at s view now ≤ latest s view now
      again = let one = one_timeout s sound now E ends in omega (arith, one)

  role_well : (view : View) (role : Role) (ready : Bool) (job : Option ℕ) → IsFine s sound now E ends role view
      → Always AnyAsk IsWell (role_due (core_of s (record view { role = role })) (given_of ready job))
  role_well view Follower ready job old = follower_well view ready job old
  role_well view Working ready job old = (refl, failed)
  role_well view Candidate ready job old = candidate_well view ready job
  role_well view Leader ready job old = leader_well view ready job

  -- ---- the calls, but for what those that wait are told

  pub heard_done : (view : View) (from : ℕ) (head : Head) (part : TicketPart) → IsFine s sound now E ends view.role view
      → Always AnyAsk IsDone (hear_message (core_of s view) from head part now)
  unfolding hear_message
  heard_done view from head part old =
      carried (Some from) (step (core_of s view) (heard s view from head part now head.cmd))
      (refl, hear_well s sound now E ends view view.role from head part head.cmd old)

  pub ticked : (view : View) (ready : Bool) (job : Option ℕ) → IsFine s sound now E ends view.role view
      → Always AnyAsk IsDone (tick (core_of s view) (given_of ready job))
  unfolding tick
  ticked view ready job old =
      always_then AnyAsk Any IsDone (say s None (hello s view now)) _ (all_any _)
      (λ done any. always_then AnyAsk IsWell IsDone (role_due (core_of s (greeted s view)) (given_of ready job)) _
      (role_well (greeted s view) view.role ready job old)
      (λ begun b. carried None begun b))

  pub job_done : (view : View) (job : ℕ) (service : Service) → IsFine s sound now E ends view.role view
      → Always AnyAsk IsDone (hear_job (core_of s view) job service now)
  unfolding hear_job
  job_done view job service old =
      carried None (step (core_of s view) (job_over s view job service now)) (refl, job_well view view.role job service old)
