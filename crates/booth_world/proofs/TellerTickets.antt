-- What an automatic ticket says of its own member, and starts its handler for, is what its record's lease says.
use Rattle.std.proofs.Common.{◌≡◌, ◌≢◌, ◌⊎◌, ⊎_elim, ℕ, ◌<◌, ◌/◌, Bool, true, false, List, [], ◌∷◌, refl, sym, ap, ◌∙◌, subst, arith, ◌&&◌, ◌||◌}
use Rattle.std.specs.Prelude.{Option, Some, None, not, nat_le, nat_lt, ◌==◌, if◌then◌else◌}
use Rattle.std.proofs.lemmas.Bool.Decides.{nat_tests}
use Rattle.booth_base.specs.Tree.{Deeds, Ends, ◌>>=◌}
use Rattle.booth_rec.specs.declared.record.Record.{Record}
use Rattle.booth_rec.specs.Record.{lease_end}
use Rattle.booth_wire.specs.declared.codes.reasons.TheConstants.{ADMN, LOCF, RACQ, TLST}
use Rattle.booth_wire.specs.declared.codes.results.TheConstants.{APRQ, ASYN, BUSY, FAIL, IARG, OVER, PEND, SUCCESS}
use Rattle.booth_wire.specs.declared.command.Cmd.TheVariants.{RGnt, RRvk}
use Rattle.booth_wire.specs.declared.message.Head.{Head}
use Rattle.booth_wire.specs.declared.message.TicketPart.{TicketPart}
use Rattle.booth_wire.specs.declared.message.Say.TheVariants as words
use Rattle.booth_wire.specs.declared.message.Setup.{Setup}
use Rattle.booth_raft.specs.declared.deed.Note.TheVariants as notes
use Rattle.booth_raft.specs.declared.deed.Told.{Told}
use Rattle.booth_raft.specs.declared.deed.Told.TheVariants as tells
use Rattle.booth_raft.specs.declared.deed.Want.{Want}
use Rattle.booth_raft.specs.declared.deed.Want.TheVariants as wants
use Rattle.booth_raft.specs.declared.view.View.{View}
use Rattle.booth_raft.specs.AskAndRenew.{acquisition_failed, are_terms_spent, ask, renew}
use Rattle.booth_raft.specs.Deadlines.{due_now, greeted, hello}
use Rattle.booth_raft.specs.GainReleaseLost.{lost, own_end, release}
use Rattle.booth_raft.specs.Members.{is_follower, is_leader, is_promised_elsewhere, is_working}
use Rattle.booth_raft.specs.Messages.{asks_state, head_of}
use Rattle.booth_raft.specs.Notes.{handler_failed, noted}
use Rattle.booth_raft.specs.OtherMessages.{hear as heard}
use Rattle.booth_raft.specs.Outcome.{Outcome, quiet, telling}
use Rattle.booth_raft.specs.Speech.{Speaks}
use Rattle.booth_raft.specs.State.{State, step}
use Rattle.booth_raft.proofs.FactsLemmas.{on_cond, on_role, on_test}
use Rattle.booth_raft.proofs.SpeechLemmas.{rules_speak}
use Rattle.booth_ticket.specs.declared.handling.Service.{Service}
use Rattle.booth_ticket.specs.declared.handling.Service.TheVariants.{CanRun, CannotRun}
use Rattle.booth_ticket.specs.declared.request.Given.{Given}
use Rattle.booth_ticket.specs.declared.request.Request.{Request}
use Rattle.booth_ticket.specs.declared.request.Wish.{Wish}
use Rattle.booth_ticket.specs.declared.request.Wish.TheVariants.{Grant, Revoke}
use Rattle.booth_ticket.specs.declared.waiters.Waiter.{Waiter}
use Rattle.booth_ticket.specs.Acts.{Ask}
use Rattle.booth_ticket.specs.Automatic.{come_due, end_job, follow, hear, hear_job, hear_message, role_due, take_over, tick}
use Rattle.booth_ticket.specs.Handling.{acquire, acquires, checks, goes_on, is_job, job_over, leads_on, renews_by, renews_or_releases, works, works_on}
use Rattle.booth_ticket.specs.Keeping.{carry_out}
use Rattle.booth_ticket.specs.Requests.{Answered, acquire_for, do_for, follow_request, grant, grant_result, holder_result, is_busy, is_holder, is_shown_elsewhere, refuse, refused_grant, refused_revoke, release_for, reply, revoke}
use Rattle.booth_ticket.specs.Saying.{say, say_to}
use Rattle.booth_ticket.specs.Ticket.{Automatic, Known, Manual, left_as, ticket_asked, ticket_due, ticket_heard, ticket_over}
use Rattle.booth_ticket.specs.Waiting.{Left, commits, tell, waits as wants_to_wait}
use Rattle.booth_node.specs.Records.{Has}
use Rattle.booth_world.proofs.Lists.{none_is, some_same}
use Rattle.booth_world.proofs.TellerRules.{AreBorne, IsCalm, IsGained, IsReady, Shows, Tracks, asked_shows, calmly, due_shows, heard_shows, in_parts, lost_calm, noted_calm, quietly, released_shows, renewed_shows, state_borne}
use Rattle.booth_world.proofs.TellerSteps.{HasLease, Honest, honest_then, Stays, IsHonest, IsHonestLeft, at, said_true, IsCoreOf, IsStep, step_of, IsLast, carried, state_true, IsLeft, IsLeftSame, told_same, told_left}

module _ (s : Setup) (now : ℕ) (lasts : 0 < s.times.expire) where
  -- ---- what the rules give

  abbrev Good : List Record → Record → Outcome → Type 0
  Good may base o = Shows s now base (may ≡ base ∷ []) o × Speaks s o

  good_step : (may : List Record) (base : Record) (view : View) (outcome : Outcome) → Has may base → Good may base outcome
      → IsStep s now lasts may (step (at s now lasts view) outcome)
  good_step may base view outcome has good = step_of s now lasts may base view outcome has good.0 good.1

  acquire_good : (may : List Record) (base : Record) (view : View) (reason : ℕ) → IsCalm s base (may ≡ base ∷ []) view → Good may base (acquire s view reason now)
  acquire_good may base view reason calm =
      on_cond (Good may base) (are_terms_spent view) (telling (acquisition_failed s view now) tells.AskFailed) (ask s view reason now)
      (calmly s now base (may ≡ base ∷ []) _ (noted_calm s now base (may ≡ base ∷ []) lasts view notes.AskFailed calm) refl tt (λ e. absurd e), tt)
      (asked_shows s now base (may ≡ base ∷ []) lasts view reason calm, rules_speak.asked s view reason now)

  failed_good : (may : List Record) (base : Record) (view : View) → IsCalm s base (may ≡ base ∷ []) view
      → Good may base (telling (noted s view now notes.HandlerFailed) tells.HandlerFailed)
  failed_good may base view calm =
      (calmly s now base (may ≡ base ∷ []) _ (noted_calm s now base (may ≡ base ∷ []) lasts view notes.HandlerFailed calm) refl tt (λ e. absurd e), tt)

  works_good : (may : List Record) (base : Record) (view : View) (job reason : ℕ) (ok : Bool) → IsCalm s base (may ≡ base ∷ []) view → Good may base (works s view job reason now ok)
  works_good may base view job reason true calm =
      (quietly s now base (may ≡ base ∷ []) _ (noted_calm s now base (may ≡ base ∷ []) lasts view (notes.JobStarted job reason) calm), tt)
  works_good may base view job reason false calm = failed_good may base view calm

  released_good : (may : List Record) (base : Record) (view : View) (reason : ℕ) → IsCalm s base (may ≡ base ∷ []) view → Good may base (release s view reason now)
  released_good may base view reason calm =
      (released_shows s now base (may ≡ base ∷ []) lasts view reason calm, rules_speak.released s view reason now)

  checks_good : (may : List Record) (base : Record) (view : View) (job : ℕ) (ok : Bool) → IsCalm s base (may ≡ base ∷ []) view → Good may base (checks s view job now ok)
  checks_good may base view job true calm =
      (quietly s now base (may ≡ base ∷ []) _ (noted_calm s now base (may ≡ base ∷ []) lasts view (notes.JobStarted job RACQ) calm), tt)
  checks_good may base view job false calm = released_good may base view LOCF calm

  renewed_good : (may : List Record) (base : Record) (view : View) → IsCalm s base (may ≡ base ∷ []) view → Good may base (renew s view now)
  renewed_good may base view calm = (renewed_shows s now base (may ≡ base ∷ []) lasts view calm, rules_speak.renewed s view now)

  works_on_good : (may : List Record) (base : Record) (view : View) (service : Service) → IsCalm s base (may ≡ base ∷ []) view → Good may base (works_on s view service now)
  works_on_good may base view CanRun calm =
      on_cond (Good may base) (is_promised_elsewhere view.promise s.me now)
      (telling (noted s view now notes.AskFailed) tells.AskFailed) (acquire s view view.reason now)
      (calmly s now base (may ≡ base ∷ []) _ (noted_calm s now base (may ≡ base ∷ []) lasts view notes.AskFailed calm) refl tt (λ e. absurd e), tt)
      (acquire_good may base view view.reason calm)
  works_on_good may base view CannotRun calm = failed_good may base view calm

  leads_on_good : (may : List Record) (base : Record) (view : View) (service : Service) → IsCalm s base (may ≡ base ∷ []) view → Good may base (leads_on s view service now)
  leads_on_good may base view service calm =
      on_cond (Good may base) (nat_le (own_end view) now) (telling (lost s view now) tells.Lost) (renews_or_releases s view service now)
      (calmly s now base (may ≡ base ∷ []) _ (lost_calm s now base (may ≡ base ∷ []) lasts view calm) refl tt (λ e. absurd e), tt) (by_service service)
    where
      by_service : (service : Service) → Good may base (renews_or_releases s view service now)
      by_service CanRun = renewed_good may base view calm
      by_service CannotRun = released_good may base view LOCF calm

  job_good : (may : List Record) (base : Record) (view : View) (job : ℕ) (service : Service) → IsCalm s base (may ≡ base ∷ []) view → Good may base (job_over s view job service now)
  job_good may base view job service calm =
      on_cond (Good may base) (s.site && is_job view.job job) (goes_on s view service now) (quiet view)
      (on_role (Good may base) view.role (quiet view) (works_on s view service now) (quiet view)
      (leads_on s (noted s view now notes.JobOver) service now) rest (works_on_good may base view service calm) rest
      (leads_on_good may base (noted s view now notes.JobOver) service (noted_calm s now base (may ≡ base ∷ []) lasts view notes.JobOver calm))) rest
    where
      rest : Good may base (quiet view)
      rest = (quietly s now base (may ≡ base ∷ []) view calm, tt)

  -- ---- the handler

  acquired : (may : List Record) (base : Record) (view : View) (job : Option ℕ) (reason : ℕ) → Has may base → IsCalm s base (may ≡ base ∷ []) view
      → Honest s now (IsStep s now lasts) may (acquires (at s now lasts view) job reason now)
  acquired may base view None reason has calm = good_step may base view (acquire s view reason now) has (acquire_good may base view reason calm)
  acquired may base view (Some job) reason has calm = (
    λ some. absurd (omega (arith, some)),
    λ ok. good_step may base view (works s view job reason now ok) has (works_good may base view job reason ok calm),
  )

  renewed : (may : List Record) (base : Record) (view : View) (job : Option ℕ) → Has may base → IsCalm s base (may ≡ base ∷ []) view
      → Honest s now (IsStep s now lasts) may (renews_by (at s now lasts view) job now)
  renewed may base view None has calm = good_step may base view (renew s view now) has (renewed_good may base view calm)
  renewed may base view (Some job) has calm = (
    λ some. (base, has, ap (λ (r : Record). lease_end r.lease / 1000) (sym calm.same)),
    λ ok. good_step may base view (checks s view job now ok) has (checks_good may base view job ok calm),
  )

  -- ---- the deadline

  taken_over : (may : List Record) (base : Record) (view : View) (given : Given) → given.now ≡ now → Has may base → IsCalm s base (may ≡ base ∷ []) view
      → Honest s now (IsStep s now lasts) may (take_over (at s now lasts view) given)
  taken_over may base view given same has calm =
      subst (λ (n : ℕ). Honest s now (IsStep s now lasts) may
      (if given.ready then acquires (at s now lasts view) given.job TLST n else Ends (step (at s now lasts view) (quiet (noted s view n notes.Unready))))) (sym same)
      (on_cond (Honest s now (IsStep s now lasts) may) given.ready _ _ (acquired may base view given.job TLST has calm)
      (good_step may base view _ has (quietly s now base (may ≡ base ∷ []) _ (noted_calm s now base (may ≡ base ∷ []) lasts view notes.Unready calm), tt)))

  -- what the rule of a deadline wants follows it
  followed : (may : List Record) (base : Record) (view : View) (given : Given) → given.now ≡ now → Has may base → IsCalm s base (may ≡ base ∷ []) view
      → (want : Want) → (due_now s view now).deed.want ≡ want
      → Honest s now (IsStep s now lasts) may (follow (step (at s now lasts view) (due_now s view now)) want given)
  followed may base view given same has calm want is = by_want want is
    where
      shows : Shows s now base (may ≡ base ∷ []) (due_now s view now)
      shows = due_shows s now base (may ≡ base ∷ []) lasts view calm

      rests : (due_now s view now).deed.keep ≡ None → IsCalm s base (may ≡ base ∷ []) (due_now s view now).view
      rests none = record {
        own = shows.own;
        same = subst (λ (k : Option Record). Tracks base k (due_now s view now).view.kept) none shows.track;
        rests = subst (λ (k : Option Record). IsReady now (due_now s view now).view.kept k (due_now s view now).view.waiting) none shows.waits;
        trusted = shows.trusted none;
      }

      at_rest : (want : Want) → (due_now s view now).deed.want ≡ want → (want ≡ wants.Nothing → ⊥) → IsCalm s base (may ≡ base ∷ []) (due_now s view now).view
      at_rest want e other =
          rests (⊎_elim (λ (n : (due_now s view now).deed.keep ≡ None). n)
          (λ (n : (due_now s view now).deed.want ≡ wants.Nothing). absurd (other (sym e ∙ n))) shows.wants)

      by_want : (want : Want) → (due_now s view now).deed.want ≡ want
          → Honest s now (IsStep s now lasts) may (follow (step (at s now lasts view) (due_now s view now)) want given)
      by_want wants.Nothing e = step_of s now lasts may base view (due_now s view now) has shows (rules_speak.due s view now)
      by_want wants.Renew e =
          subst (λ (n : ℕ). Honest s now (IsStep s now lasts) may (renews_by (at s now lasts (due_now s view now).view) (if s.site then given.job else None) n)) (sym same)
          (renewed may base (due_now s view now).view (if s.site then given.job else None) has (at_rest wants.Renew e (λ n. absurd (cc))))
      by_want wants.Acquire e =
          taken_over may base (due_now s view now).view given same has (at_rest wants.Acquire e (λ n. absurd (cc)))

  role_come : (may : List Record) (base : Record) (view : View) (given : Given) → given.now ≡ now → Has may base → IsCalm s base (may ≡ base ∷ []) view
      → Honest s now (IsStep s now lasts) may (role_due (at s now lasts view) given)
  role_come may base view given same has calm =
      on_cond (Honest s now (IsStep s now lasts) may) (is_working view.role) _ _
      (subst (λ (n : ℕ). IsStep s now lasts may (step (at s now lasts view) (telling (handler_failed s view n) tells.HandlerFailed))) (sym same)
      (good_step may base view _ has (failed_good may base view calm)))
      (subst (λ (n : ℕ). Honest s now (IsStep s now lasts) may (follow (step (at s now lasts view) (due_now s view n)) (due_now s view n).deed.want given)) (sym same)
      (followed may base view given same has calm (due_now s view now).deed.want refl))

  hello_borne : (may : List Record) (base : Record) (view : View) → IsCalm s base (may ≡ base ∷ []) view → AreBorne s.me (lease_end base.lease) now (hello s view now)
  hello_borne may base view calm =
      on_cond (AreBorne s.me (lease_end base.lease) now) view.hello (asks_state s view now) words.Nothing (state_borne s now base (may ≡ base ∷ []) view calm) tt

  ticked : (may : List Record) (base : Record) (view : View) (given : Given) → given.now ≡ now → Has may base → IsCalm s base (may ≡ base ∷ []) view
      → Honest s now (IsLast s now lasts) may (tick (at s now lasts view) given)
  unfolding tick
  ticked may base view given same has calm =
      honest_then s now (Stays may) (IsLast s now lasts) may (say s None (hello s view given.now)) _
      (subst (λ (n : ℕ). Honest s now (Stays may) may (say s None (hello s view n))) (sym same)
      (said_true s now lasts may base None (hello s view now) has (hello_borne may base view calm) (rules_speak.greeted s view now)))
      (λ later done stays.
      honest_then s now (IsStep s now lasts) (IsLast s now lasts) later (role_due (at s now lasts (greeted s view)) given) _
      (subst (λ (rs : List Record). Honest s now (IsStep s now lasts) rs (role_due (at s now lasts (greeted s view)) given)) (sym stays)
      (role_come may base (greeted s view) given same has (in_parts s now base (may ≡ base ∷ []) view calm (greeted s view) refl refl refl refl)))
      (λ after begun is_step.
      subst (λ (n : ℕ). Honest s now (IsLast s now lasts) after (carry_out None n begun)) (sym same) (carried s now lasts after None begun is_step)))

  comes_due : (may : List Record) (base : Record) (view : View) (waiters : List Waiter) (given : Given) → given.now ≡ now → Has may base → IsCalm s base (may ≡ base ∷ []) view
      → Honest s now (IsLeft s now lasts) may (come_due (at s now lasts view) waiters given)
  unfolding come_due
  comes_due may base view waiters given same has calm =
      honest_then s now (IsLast s now lasts) (IsLeft s now lasts) may (tick (at s now lasts view) given) _ (ticked may base view given same has calm)
      (λ later last done. subst (λ (n : ℕ). Honest s now (IsLeft s now lasts) later (tell n waiters last)) (sym same) (told_left s now lasts later last done waiters))

  -- ---- what is heard, and the end of a job

  hears : (may : List Record) (base : Record) (view : View) (waiters : List Waiter) (from : ℕ) (head : Head) (part : TicketPart)
      → (head.from ≡ s.me → ⊥) → Has may base → IsCalm s base (may ≡ base ∷ []) view → Honest s now (IsLeft s now lasts) may (hear (at s now lasts view) waiters from head part now)
  unfolding hear hear_message
  hears may base view waiters from head part other has calm =
      honest_then s now (IsLast s now lasts) (IsLeft s now lasts) may (carry_out (Some from) now (step (at s now lasts view) (heard s view from head part now head.cmd))) _
      (carried s now lasts may (Some from) _
      (good_step may base view _ has
      (heard_shows s now base (may ≡ base ∷ []) view from head part head.cmd other calm, rules_speak.heard s view from head part now head.cmd)))
      (λ later last done. told_left s now lasts later last done waiters)

  ends_job : (may : List Record) (base : Record) (view : View) (waiters : List Waiter) (job : ℕ) (service : Service)
      → Has may base → IsCalm s base (may ≡ base ∷ []) view → Honest s now (IsLeft s now lasts) may (end_job (at s now lasts view) waiters job service now)
  unfolding end_job hear_job
  ends_job may base view waiters job service has calm =
      honest_then s now (IsLast s now lasts) (IsLeft s now lasts) may (carry_out None now (step (at s now lasts view) (job_over s view job service now))) _
      (carried s now lasts may None _ (good_step may base view _ has (job_good may base view job service calm)))
      (λ later last done. told_left s now lasts later last done waiters)

  -- ---- a client's request

  -- a grant that was done is told only where there is a lease
  abbrev IsTrueAnswer : Wish → List Record → Answered → Type 0
  IsTrueAnswer Grant may done = done.answer ≡ SUCCESS → HasLease now may
  IsTrueAnswer Revoke may done = Unit {0}

  abbrev IsAnswered : Wish → List Record → Answered → Type 0
  IsAnswered wanted may done = IsLast s now lasts may done.last × IsTrueAnswer wanted may done

  -- a grant is refused as done only where this member holds the ticket
  refused_done : (view : View) (spare : ℕ) (ready : Bool) (options : ℕ) (result : ℕ) → refused_grant s view spare ready options now ≡ Some result
      → result ≡ SUCCESS → (now < own_end view) × (view.sure ≡ true)
  refused_done view spare ready options result e is =
      on_cond Q (not s.site || not (options == 0 || wants_to_wait options)) _ _ (fails IARG (λ n. omega (arith, n)))
      (on_test Q (is_holder s view now) _ _ (λ holds r h z. (held holds, sure_done view.sure (some_same _ r h ∙ z)))
      (λ no.
      on_cond Q (is_shown_elsewhere view.shown s.me now) _ _ (fails OVER (λ n. omega (arith, n)))
      (on_cond Q (is_busy s view now) _ _ (fails BUSY (λ n. omega (arith, n)))
      (on_cond Q (not ready) _ _ (fails APRQ (λ n. omega (arith, n)))
      (on_cond Q (are_terms_spent view) _ _ (fails FAIL (λ n. omega (arith, n)))
      (on_cond Q (wants_to_wait options && spare == 0) _ _ (fails BUSY (λ n. omega (arith, n))) (λ r h z. absurd (none_is r h))))))))
      result e is
    where
      Q : Option ℕ → Type 0
      Q o = (r : ℕ) → o ≡ Some r → r ≡ SUCCESS → (now < own_end view) × (view.sure ≡ true)

      fails : (code : ℕ) → code ≢ SUCCESS → Q (Some code)
      fails code never r h z = absurd (never (some_same code r h ∙ z))

      sure_done : (sure : Bool) → holder_result sure spare options ≡ SUCCESS → sure ≡ true
      sure_done true e = refl
      sure_done false e = absurd (by_tests (commits options) (spare == 0) e)
        where
          by_tests : (a b : Bool) → (if a then (if b then BUSY else ASYN) else PEND) ≡ SUCCESS → ⊥
          by_tests true true q = omega (arith, q)
          by_tests true false q = omega (arith, q)
          by_tests false b q = omega (arith, q)

      held : is_holder s view now ≡ true → now < own_end view
      held h = by_tests s.site (is_leader view.role) (nat_lt now (own_end view)) refl h
        where
          by_tests : (a b c : Bool) → nat_lt now (own_end view) ≡ c → a && b && c ≡ true → now < own_end view
          by_tests true true true e q = grind (arith, nat_tests)
          by_tests true true false e q = absurd (cc)
          by_tests true false c e q = absurd (cc)
          by_tests false b c e q = absurd (cc)

  grant_done : (options : ℕ) (told : Told) → grant_result options told ≡ SUCCESS → IsGained told
  grant_done options (tells.Gained true) is = tt
  grant_done options (tells.Gained false) is = by_commit (commits options) is
    where
      by_commit : (b : Bool) → (if b then ASYN else PEND) ≡ SUCCESS → ⊥
      by_commit true e = absurd (omega (arith, e))
      by_commit false e = absurd (omega (arith, e))
  grant_done options tells.Nothing is = absurd (omega (arith, is))
  grant_done options tells.HandlerFailed is = absurd (omega (arith, is))
  grant_done options tells.RoundFailed is = absurd (omega (arith, is))
  grant_done options tells.AskFailed is = absurd (omega (arith, is))
  grant_done options tells.Released is = absurd (omega (arith, is))
  grant_done options tells.ReleaseFailed is = absurd (omega (arith, is))
  grant_done options tells.Lost is = absurd (omega (arith, is))

  -- the request is answered with what is so already
  refused_last : (may : List Record) (base : Record) (view : View) (result : ℕ) → Has may base → IsCalm s base (may ≡ base ∷ []) view
      → IsLast s now lasts may (refuse (at s now lasts view) result).last
  refused_last may base view result has calm = record {
    rest = record { same = refl; base = base; based = has; calm = calm };
    told = λ e. absurd e;
  }

  acquires_for : (may : List Record) (base : Record) (view : View) (options : ℕ) (job : Option ℕ) → Has may base → IsCalm s base (may ≡ base ∷ []) view
      → Honest s now (IsAnswered Grant) may (acquire_for (at s now lasts view) options job now)
  unfolding acquire_for
  acquires_for may base view options job has calm =
      honest_then s now (IsStep s now lasts) (IsAnswered Grant) may (acquires (at s now lasts (noted s view now notes.Asked)) job ADMN now) _
      (acquired may base (noted s view now notes.Asked) job ADMN has (noted_calm s now base (may ≡ base ∷ []) lasts view notes.Asked calm))
      (λ later begun is_step.
      honest_then s now (IsLast s now lasts) (IsAnswered Grant) later (carry_out None now begun) _ (carried s now lasts later None begun is_step)
      (λ after last done. (done, λ is. done.told (grant_done options last.deed.told is))))

  grants : (may : List Record) (base : Record) (view : View) (spare : ℕ) (given : Given) (options : ℕ) → given.now ≡ now
      → Has may base → IsCalm s base (may ≡ base ∷ []) view
      → (o : Option ℕ) → refused_grant s view spare given.ready options now ≡ o
      → Honest s now (IsAnswered Grant) may (grant (at s now lasts view) options o given.job now)
  grants may base view spare given options same has calm (Some result) e = (
    refused_last may base view result has calm,
    λ is.
        let done = refused_done view spare given.ready options result e is in
        (base, calm.trusted done.1, subst (λ (r : Record). now < lease_end r.lease) calm.same done.0),
  )
  grants may base view spare given options same has calm None e = acquires_for may base view options given.job has calm

  revokes_it : (may : List Record) (base : Record) (view : View) → Has may base → IsCalm s base (may ≡ base ∷ []) view
      → (o : Option ℕ) → Honest s now (IsAnswered Revoke) may (revoke (at s now lasts view) o now)
  unfolding release_for
  revokes_it may base view has calm (Some result) = (refused_last may base view result has calm, tt)
  revokes_it may base view has calm None =
      honest_then s now (IsLast s now lasts) (IsAnswered Revoke) may (carry_out None now (step (at s now lasts view) (release s view ADMN now))) _
      (carried s now lasts may None _ (good_step may base view (release s view ADMN now) has (released_good may base view ADMN calm)))
      (λ later last done. (done, tt))

  does_for : (may : List Record) (base : Record) (view : View) (spare : ℕ) (given : Given) (options : ℕ) (wanted : Wish) → given.now ≡ now
      → Has may base → IsCalm s base (may ≡ base ∷ []) view → Honest s now (IsAnswered wanted) may (do_for (at s now lasts view) spare given options wanted)
  does_for may base view spare given options Grant same has calm =
      subst (λ (n : ℕ). Honest s now (IsAnswered Grant) may (grant (at s now lasts view) options (refused_grant s view spare given.ready options n) given.job n)) (sym same)
      (grants may base view spare given options same has calm (refused_grant s view spare given.ready options now) refl)
  does_for may base view spare given options Revoke same has calm =
      subst (λ (n : ℕ). Honest s now (IsAnswered Revoke) may (revoke (at s now lasts view) (refused_revoke s view options n) n)) (sym same)
      (revokes_it may base view has calm (refused_revoke s view options now))

  replied : (may : List Record) (core : State) (request : Request) (wanted : Wish) (done : Answered) → IsCoreOf s now lasts may core
      → IsTrueAnswer wanted may done → Honest s now (Stays may) may (reply core request wanted done.answer now)
  unfolding reply say_to
  replied may core request Grant done rest is_true = (
    state_true s now lasts may core rest (head_of core.setup RGnt request.number 0 0 done.answer) (λ is success. is_true success),
    refl,
  )
  replied may core request Revoke done rest is_true = (
    state_true s now lasts may core rest (head_of core.setup RRvk request.number 0 0 done.answer) (λ is success. absurd (other is)),
    refl,
  )
    where
      other : RRvk ≡ RGnt → ⊥
      other e = cc

  follows : (may : List Record) (base : Record) (view : View) (waiters : List Waiter) (spare : ℕ) (given : Given) (request : Request) (wanted : Wish)
      → given.now ≡ now → Has may base → IsCalm s base (may ≡ base ∷ []) view
      → Honest s now (IsLeft s now lasts) may (follow_request (at s now lasts view) waiters spare given request wanted)
  unfolding follow_request
  follows may base view waiters spare given request wanted same has calm =
      honest_then s now (IsAnswered wanted) (IsLeft s now lasts) may (do_for (at s now lasts view) spare given request.options wanted) _
      (does_for may base view spare given request.options wanted same has calm)
      (λ later done answered.
      honest_then s now (IsLeftSame s now lasts later) (IsLeft s now lasts) later (tell given.now waiters done.last) _
      (subst (λ (n : ℕ). Honest s now (IsLeftSame s now lasts later) later (tell n waiters done.last)) (sym same)
      (told_same s now lasts later done.last answered.0 waiters))
      (λ after left told.
      honest_then s now (Stays after) (IsLeft s now lasts) after (reply left.core request wanted done.answer given.now) _
      (subst (λ (n : ℕ). Honest s now (Stays after) after (reply left.core request wanted done.answer n)) (sym same)
      (replied after left.core request wanted done (subst (λ (rs : List Record). IsCoreOf s now lasts rs left.core) (sym told.0) told.1)
      (subst (λ (rs : List Record). IsTrueAnswer wanted rs done) (sym told.0) answered.1)))
      (λ last any stays. subst (λ (rs : List Record). IsCoreOf s now lasts rs left.core) (sym stays)
      (subst (λ (rs : List Record). IsCoreOf s now lasts rs left.core) (sym told.0) told.1))))

  -- ---- the ticket

  as_left : (may : List Record) (deeds : Deeds Ask Left) → Honest s now (IsLeft s now lasts) may deeds
      → Honest s now (IsHonestLeft s) may (deeds >>= (λ left. Ends (left_as left)))
  as_left may deeds honest =
      honest_then s now (IsLeft s now lasts) (IsHonestLeft s) may deeds (λ left. Ends (left_as left)) honest
      (λ later left rest. (rest.same, (rest.base, rest.based, rest.calm)))

  pub ticket_due_honest : (may : List Record) (known : Known) (waiters : List Waiter) (ready : Bool) (job : Option ℕ) → IsHonest s may known
      → Honest s now (IsHonestLeft s) may (ticket_due s known waiters (record { now = now; ready = ready; job = job }))
  ticket_due_honest may (Automatic view) waiters ready job h =
      as_left may _ (comes_due may h.0 view waiters (record { now = now; ready = ready; job = job }) refl h.1 h.2)
  ticket_due_honest may (Manual known) waiters ready job h = absurd h

  pub ticket_heard_honest : (may : List Record) (known : Known) (waiters : List Waiter) (from : ℕ) (head : Head) (part : TicketPart)
      → (head.from ≡ s.me → ⊥) → IsHonest s may known
      → Honest s now (IsHonestLeft s) may (ticket_heard s known waiters from head part now)
  ticket_heard_honest may (Automatic view) waiters from head part other h =
      as_left may _ (hears may h.0 view waiters from head part other h.1 h.2)
  ticket_heard_honest may (Manual known) waiters from head part other h = absurd h

  pub ticket_over_honest : (may : List Record) (known : Known) (waiters : List Waiter) (job : ℕ) (service : Service) → IsHonest s may known
      → Honest s now (IsHonestLeft s) may (ticket_over s known waiters job service now)
  ticket_over_honest may (Automatic view) waiters job service h =
      as_left may _ (ends_job may h.0 view waiters job service h.1 h.2)
  ticket_over_honest may (Manual known) waiters job service h = absurd h

  pub ticket_asked_honest : (may : List Record) (known : Known) (waiters : List Waiter) (spare : ℕ) (ready : Bool) (job : Option ℕ) (request : Request)
      → IsHonest s may known
      → Honest s now (IsHonestLeft s) may (ticket_asked s known waiters spare (record { now = now; ready = ready; job = job }) request)
  ticket_asked_honest may (Automatic view) waiters spare ready job request h =
      as_left may _ (follows may h.0 view waiters spare (record { now = now; ready = ready; job = job }) request request.wish refl h.1 h.2)
  ticket_asked_honest may (Manual known) waiters spare ready job request h = absurd h
