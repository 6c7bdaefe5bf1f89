-- One walk through all that a ticket may do: where such asks are allowed as a ticket makes, each of its asks is
-- allowed, and its setup stays, whatever is answered.
use Rattle.std.proofs.Common.{◌≡◌, ℕ, ◌/◌, ◌&&◌, Bool, true, false, List, [], ◌∷◌, refl, sym, ap, subst, if◌then◌else◌}
use Rattle.std.specs.Prelude.{Option, Some, None, nat_le}
use Rattle.std.specs.Option.{is_some}
use Rattle.booth_base.specs.Tree.{Deeds, ◌>>=◌, each, Always}
use Rattle.booth_base.proofs.TreeLemmas.{always_then}
use Rattle.booth_rec.specs.declared.record.Record.{Record}
use Rattle.booth_wire.specs.declared.codes.reasons.TheConstants.{ADMN, LOCF, TLST}
use Rattle.booth_wire.specs.declared.message.Head.{Head}
use Rattle.booth_wire.specs.declared.message.Say.{Say as Words}
use Rattle.booth_wire.specs.declared.message.Say.TheVariants as words
use Rattle.booth_wire.specs.declared.message.Setup.{Setup}
use Rattle.booth_wire.specs.declared.message.TicketPart.{TicketPart}
use Rattle.booth_raft.specs.declared.deed.Note.TheVariants.{Asked as WasAsked, AskFailed as AcquisitionFailed, JobOver as JobIsOver}
use Rattle.booth_raft.specs.declared.deed.Told.{Told}
use Rattle.booth_raft.specs.declared.deed.Told.TheVariants as tells
use Rattle.booth_raft.specs.declared.deed.Want.{Want}
use Rattle.booth_raft.specs.declared.deed.Want.TheVariants as wants
use Rattle.booth_raft.specs.declared.view.View.{View}
use Rattle.booth_raft.specs.AskAndRenew.{acquisition_failed, are_terms_spent, ask, finish, renew}
use Rattle.booth_raft.specs.Deadlines.{due_now, greeted, hello}
use Rattle.booth_raft.specs.GainReleaseLost.{lost, own_end, release}
use Rattle.booth_raft.specs.Members.{is_promised_elsewhere, is_working}
use Rattle.booth_raft.specs.Messages.{head_of, state_part}
use Rattle.booth_raft.specs.Notes.{noted}
use Rattle.booth_raft.specs.OtherMessages.{hear as heard}
use Rattle.booth_raft.specs.Outcome.{Outcome, quiet, telling}
use Rattle.booth_raft.specs.Speech.{IsOwn, IsSpeech, Speaks}
use Rattle.booth_raft.specs.State.{State, Step, step, with_view}
use Rattle.booth_raft.proofs.FactsLemmas.{on_cond, on_role}
use Rattle.booth_raft.proofs.SpeechLemmas.{rules_speak}
use Rattle.booth_manual.specs.GrantAndRevoke.{are_terms_spent as are_terms_spent_by_hand, finish as finish_by_hand, grant as grant_by_hand}
use Rattle.booth_manual.specs.State.{State as Rules, with_view as with_rules}
use Rattle.booth_ticket.specs.declared.handling.Service.{Service}
use Rattle.booth_ticket.specs.declared.handling.Service.TheVariants.{CanRun, CannotRun}
use Rattle.booth_ticket.specs.declared.hands.To.TheVariants.{Client, Member}
use Rattle.booth_ticket.specs.declared.manual.Job.{Job}
use Rattle.booth_ticket.specs.declared.request.Given.{Given}
use Rattle.booth_ticket.specs.declared.request.Request.{Request}
use Rattle.booth_ticket.specs.declared.request.Wish.{Wish}
use Rattle.booth_ticket.specs.declared.request.Wish.TheVariants.{Grant, Revoke}
use Rattle.booth_ticket.specs.declared.waiters.Waiter.{Waiter}
use Rattle.booth_ticket.specs.Acts.{Ask, Keep, Say, Start}
use Rattle.booth_ticket.specs.Automatic.{come_due, due_step, end_job, follow, hear, hear_job, hear_message, role_due, take_over, tick}
use Rattle.booth_ticket.specs.Handling.{acquire, acquires, checks, goes_on, is_job, job_over, leads_on, renews_by, works, works_on}
use Rattle.booth_ticket.specs.Keeping.{carry_out, keep_of, keep_once}
use Rattle.booth_ticket.specs.Manual.{ManualKnown, ManualLeft, ManualState, heard_of, known_as, manual_heard, manual_state, rules_of}
use Rattle.booth_ticket.specs.ManualHandling.{Granted, end_handler, fail_handler, grant_after, grant_now, greeting, is_awaited, is_late, limit_due, manual_due, manual_over, tell_waiters}
use Rattle.booth_ticket.specs.ManualRequests.{Begun, Tried, begin_for, do_for as begin, done_by_hand, keep_for, keep_tried, manual_asked, manual_reply, refused_by_hand, start_for, tries_for, waits_for, wants_handler}
use Rattle.booth_ticket.specs.Requests.{Answered, acquire_for, do_for, follow_request, grant, refused_grant, refused_revoke, release_for, reply, reply_cmd, revoke}
use Rattle.booth_ticket.specs.Saying.{others, places_in, say, say_each, say_to}
use Rattle.booth_ticket.specs.Ticket.{Automatic, Known, Manual, TicketLeft, ticket_asked, ticket_due, ticket_heard, ticket_over}
use Rattle.booth_ticket.specs.Waiting.{Left, tell, tell_each, tell_one}
use Rattle.booth_ticket.proofs.ManualSpeechLemmas.{greeting_speaks, hearing_speaks, keep_speaks}

-- ---- what the rules say

module _ (setup : Setup) where
  acquires_speak : (view : View) (reason now : ℕ) → Speaks setup (acquire setup view reason now)
  acquires_speak view reason now =
      on_cond (Speaks setup) (are_terms_spent view)
      (telling (acquisition_failed setup view now) tells.AskFailed)
      (ask setup view reason now) tt (rules_speak.asked setup view reason now)

  works_speak : (view : View) (job reason now : ℕ) (ok : Bool) → Speaks setup (works setup view job reason now ok)
  works_speak view job reason now true = tt
  works_speak view job reason now false = tt

  checks_speak : (view : View) (job now : ℕ) (ok : Bool) → Speaks setup (checks setup view job now ok)
  checks_speak view job now true = tt
  checks_speak view job now false = rules_speak.released setup view LOCF now

  works_on_speak : (view : View) (service : Service) (now : ℕ) → Speaks setup (works_on setup view service now)
  works_on_speak view CanRun now =
      on_cond (Speaks setup) (is_promised_elsewhere view.promise setup.me now)
      (telling (noted setup view now AcquisitionFailed) tells.AskFailed)
      (acquire setup view view.reason now) tt (acquires_speak view view.reason now)
  works_on_speak view CannotRun now = tt

  leads_on_speak : (view : View) (service : Service) (now : ℕ) → Speaks setup (leads_on setup view service now)
  leads_on_speak view CanRun now =
      on_cond (Speaks setup) (nat_le (own_end view) now) (telling (lost setup view now) tells.Lost)
      (renew setup view now) tt (rules_speak.renewed setup view now)
  leads_on_speak view CannotRun now =
      on_cond (Speaks setup) (nat_le (own_end view) now) (telling (lost setup view now) tells.Lost)
      (release setup view LOCF now) tt (rules_speak.released setup view LOCF now)

  job_speaks : (view : View) (job : ℕ) (service : Service) (now : ℕ) → Speaks setup (job_over setup view job service now)
  job_speaks view job service now =
      on_cond (Speaks setup) (setup.site && is_job view.job job) (goes_on setup view service now) (quiet view)
      (on_role (Speaks setup) view.role (quiet view) (works_on setup view service now) (quiet view)
      (leads_on setup (noted setup view now JobIsOver) service now) tt (works_on_speak view service now) tt
      (leads_on_speak (noted setup view now JobIsOver) service now)) tt

-- ---- the walk

abbrev pub Any : {S : Type 0} → S → Type 0
Any s = Unit {0}

-- What a ticket of this setup asks is allowed: keeps and starts, a member's commands about it, and what those that wait
-- are told.
pub record Allows (setup : Setup) (waiters : List Waiter) (P : Ask → Type 0) : Type 0 where
  pub keeps : (tried : Record) → P (Keep tried)
  pub starts : (job expires : ℕ) → P (Start job expires)
  pub says : (place : ℕ) (head : Head) (part : TicketPart) → IsOwn setup head part → P (Say (Member place) head part)
  pub tells : (part : TicketPart) (told : Told) → part.ticket ≡ setup.ticket
      → Always P Any (each (tell_one setup part told) waiters)

-- and so is the reply to a request
abbrev pub Replies : Setup → Request → (Ask → Type 0) → Type 0
Replies setup request P =
    (wanted : Wish) (result : ℕ) (part : TicketPart) → part.ticket ≡ setup.ticket
    → P (Say (Client request.from) (head_of setup (reply_cmd wanted) request.number 0 0 result) part)

module _ (setup : Setup) (waiters : List Waiter) (P : Ask → Type 0) (allows : Allows setup waiters P) where
  abbrev Walks : {S : Type 0} → (S → Type 0) → Deeds Ask S → Type 0
  Walks Q t = Always P Q t

  after : {S T : Type 0} (Q : S → Type 0) (R : T → Type 0) (t : Deeds Ask S) (f : S → Deeds Ask T) → Walks Q t
      → ((s : S) → Q s → Walks R (f s)) → Walks R (t >>= f)
  after Q R t f all on = always_then P Q R t f all on

  -- a step of this ticket that speaks of it, and any step of it
  abbrev Says : Step → Type 0
  Says x = (x.core.setup ≡ setup) × IsSpeech setup x.deed.say

  abbrev IsIts : Step → Type 0
  IsIts x = x.core.setup ≡ setup

  abbrev pub AnswersIts : Answered → Type 0
  AnswersIts done = done.last.core.setup ≡ setup

  abbrev pub LeavesIts : Left → Type 0
  LeavesIts left = left.core.setup ≡ setup

  says_of : (core : State) (outcome : Outcome) → core.setup ≡ setup → Speaks core.setup outcome → Says (step core outcome)
  says_of core outcome its speaks = (its, subst (λ (s : Setup). IsSpeech s outcome.deed.say) its speaks)

  -- ---- what is said

  each_said : (places : List ℕ) (head : Head) (part : TicketPart) → IsOwn setup head part → Walks Any (say_each places head part)
  unfolding say_each say_to
  each_said [] head part own = tt
  each_said (place ∷ places) head part own = (allows.says place head part own, λ ok. each_said places head part own)

  said : (from : Option ℕ) (rule_words : Words) → IsSpeech setup rule_words → Walks Any (say setup from rule_words)
  unfolding say_to
  said from words.Nothing speaks = tt
  said None (words.Reply head part) speaks = tt
  said (Some from) (words.Reply head part) speaks = (allows.says from head part speaks, λ ok. tt)
  said from (words.All head part) speaks = each_said (others setup) head part speaks
  said from (words.Unanswered head part bits) speaks = each_said (places_in bits) head part speaks

  -- by whatever setup, where it is this one
  said_by : (found : Setup) (from : Option ℕ) (rule_words : Words) → found ≡ setup → IsSpeech setup rule_words
      → Walks Any (say found from rule_words)
  said_by found from rule_words same speaks =
      subst (λ (s : Setup). Walks Any (say s from rule_words)) (sym same) (said from rule_words speaks)

  pub told_by : (found : Setup) (part : TicketPart) (told : Told) → found ≡ setup → part.ticket ≡ setup.ticket
      → Walks Any (tell_each found part told waiters)
  unfolding tell_each
  told_by found part told same names =
      subst (λ (s : Setup). Walks Any (tell_each s part told waiters)) (sym same)
      (after Any Any (each (tell_one setup part told) waiters) _ (allows.tells part told names) (λ done any. tt))

  -- ---- what is kept

  kept : (now : ℕ) (keep : Option Record) (x : Step) → Says x → Walks Says (keep_of now keep x)
  kept now None x says = says
  kept now (Some tried) x says = (
    allows.keeps tried,
    λ ok. says_of x.core (finish x.core.setup x.core.view now ok) says.0
        (rules_speak.answered x.core.setup x.core.view now ok),
  )

  carried : (from : Option ℕ) (now : ℕ) (x : Step) → Says x → Walks IsIts (carry_out from now x)
  unfolding carry_out keep_once
  carried from now x says =
      after Says IsIts (keep_of now x.deed.keep x) _ (kept now x.deed.keep x says)
      (λ first first_says. after Says IsIts (keep_of now first.deed.keep first) _ (kept now first.deed.keep first first_says)
      (λ last last_says. after Any IsIts (say last.core.setup from last.deed.say) _
      (said_by last.core.setup from last.deed.say last_says.0 last_says.1) (λ done any. last_says.0)))

  told : (now : ℕ) (last : Step) → IsIts last → Walks LeavesIts (tell now waiters last)
  unfolding tell
  told now last its =
      after Any LeavesIts
      (tell_each last.core.setup (state_part last.core.setup last.core.view now) last.deed.told waiters) _
      (told_by last.core.setup (state_part last.core.setup last.core.view now) last.deed.told its (ap (λ (s : Setup). s.ticket) its))
      (λ stay any. its)

  -- ---- the handler, and the deadline

  acquired : (core : State) (job : Option ℕ) (reason now : ℕ) → core.setup ≡ setup → Walks Says (acquires core job reason now)
  acquired core None reason now its =
      says_of core (acquire core.setup core.view reason now) its (acquires_speak core.setup core.view reason now)
  acquired core (Some job) reason now its = (
    allows.starts job 0,
    λ ok. says_of core (works core.setup core.view job reason now ok) its (works_speak core.setup core.view job reason now ok),
  )

  renewed : (core : State) (job : Option ℕ) (now : ℕ) → core.setup ≡ setup → Walks Says (renews_by core job now)
  renewed core None now its =
      says_of core (renew core.setup core.view now) its (rules_speak.renewed core.setup core.view now)
  renewed core (Some job) now its = (
    allows.starts job (own_end core.view / 1000),
    λ ok. says_of core (checks core.setup core.view job now ok) its (checks_speak core.setup core.view job now ok),
  )

  taken_over : (core : State) (given : Given) → core.setup ≡ setup → Walks Says (take_over core given)
  taken_over core given its =
      on_cond (Walks Says) given.ready _ _ (acquired core given.job TLST given.now its) (its, tt)

  followed : (begun : Step) (want : Want) (given : Given) → Says begun → Walks Says (follow begun want given)
  followed begun wants.Nothing given says = says
  followed begun wants.Renew given says = renewed begun.core (if begun.core.setup.site then given.job else None) given.now says.0
  followed begun wants.Acquire given says = taken_over begun.core given says.0

  role_walks : (core : State) (given : Given) → core.setup ≡ setup → Walks Says (role_due core given)
  role_walks core given its =
      on_cond (Walks Says) (is_working core.view.role) _ _ (its, tt)
      (followed (due_step core given.now) (due_step core given.now).deed.want given
      (says_of core (due_now core.setup core.view given.now) its (rules_speak.due core.setup core.view given.now)))

  abbrev core_of : View → State
  core_of view = record { setup = setup; view = view }

  -- ---- the calls, but for what those that wait are told

  pub message_walks : (view : View) (from : ℕ) (head : Head) (part : TicketPart) (now : ℕ)
      → Walks IsIts (hear_message (core_of view) from head part now)
  unfolding hear_message
  message_walks view from head part now =
      carried (Some from) now (step (core_of view) (heard setup view from head part now head.cmd))
      (refl, rules_speak.heard setup view from head part now head.cmd)

  pub tick_walks : (view : View) (given : Given) → Walks IsIts (tick (core_of view) given)
  unfolding tick
  tick_walks view given =
      after Any IsIts (say setup None (hello setup view given.now)) _
      (said None (hello setup view given.now) (rules_speak.greeted setup view given.now))
      (λ done any. after Says IsIts (role_due (core_of (greeted setup view)) given) _ (role_walks (core_of (greeted setup view)) given refl)
      (λ begun says. carried None given.now begun says))

  pub job_walks : (view : View) (job : ℕ) (service : Service) (now : ℕ) → Walks IsIts (hear_job (core_of view) job service now)
  unfolding hear_job
  job_walks view job service now =
      carried None now (step (core_of view) (job_over setup view job service now)) (refl, job_speaks setup view job service now)

  acquired_for : (core : State) (options : ℕ) (job : Option ℕ) (now : ℕ) → core.setup ≡ setup
      → Walks AnswersIts (acquire_for core options job now)
  unfolding acquire_for
  acquired_for core options job now its =
      let asked : State = with_view core (noted core.setup core.view now WasAsked) in
      after Says AnswersIts (acquires asked job ADMN now) _ (acquired asked job ADMN now its)
      (λ begun says. after IsIts AnswersIts (carry_out None now begun) _ (carried None now begun says)
      (λ last last_its. last_its))

  released_for : (core : State) (now : ℕ) → core.setup ≡ setup → Walks AnswersIts (release_for core now)
  unfolding release_for
  released_for core now its =
      let begun : Step = step core (release core.setup core.view ADMN now) in
      after IsIts AnswersIts (carry_out None now begun) _
      (carried None now begun
      (says_of core (release core.setup core.view ADMN now) its (rules_speak.released core.setup core.view ADMN now)))
      (λ last last_its. last_its)

  granted : (core : State) (options : ℕ) (refused job : Option ℕ) (now : ℕ) → core.setup ≡ setup
      → Walks AnswersIts (grant core options refused job now)
  granted core options None job now its = acquired_for core options job now its
  granted core options (Some result) job now its = its

  revoked : (core : State) (refused : Option ℕ) (now : ℕ) → core.setup ≡ setup → Walks AnswersIts (revoke core refused now)
  revoked core None now its = released_for core now its
  revoked core (Some result) now its = its

  pub done_walks : (view : View) (spare : ℕ) (given : Given) (options : ℕ) (wished : Wish)
      → Walks AnswersIts (do_for (core_of view) spare given options wished)
  done_walks view spare given options Grant =
      granted (core_of view) options (refused_grant setup view spare given.ready options given.now) given.job given.now refl
  done_walks view spare given options Revoke =
      revoked (core_of view) (refused_revoke setup view options given.now) given.now refl

  -- ---- by hand

  abbrev TriedIts : Tried → Type 0
  TriedIts done = done.rules.setup ≡ setup

  abbrev pub BegunIts : Begun → Type 0
  BegunIts done = done.rules.setup ≡ setup

  abbrev pub GrantedIts : Granted → Type 0
  GrantedIts done = done.rules.setup ≡ setup

  abbrev LeftIts : ManualLeft → Type 0
  LeftIts left = left.ticket.setup ≡ setup

  tried_walks : (rules : Rules) (wish : Wish) (tried : Record) → rules.setup ≡ setup → Walks TriedIts (keep_tried rules wish tried)
  unfolding keep_tried
  tried_walks rules wish tried its = (
    allows.keeps tried,
    λ ok. after Any TriedIts (say rules.setup None (finish_by_hand rules.setup rules.view ok).say) _
        (said_by rules.setup None (finish_by_hand rules.setup rules.view ok).say its
        (subst (λ (s : Setup). IsSpeech s (finish_by_hand rules.setup rules.view ok).say) its
        (keep_speaks rules.setup rules.view ok))) (λ done any. its),
  )

  begun_walks : (rules : Rules) (running : Option Job) (job : Option ℕ) (wish : Wish) (now : ℕ) → rules.setup ≡ setup
      → Walks BegunIts (begin_for rules running job wish now)
  unfolding start_for keep_for
  begun_walks rules running None wish now its =
      after TriedIts BegunIts (keep_for rules wish) _
      (tried_walks (with_rules rules (tries_for rules.setup rules.view wish).view) wish
      (tries_for rules.setup rules.view wish).tried its) (λ done done_its. done_its)
  begun_walks rules running (Some job) wish now its = (allows.starts job 0, by_answer)
    where
      by_answer : (ok : Bool) → BegunIts (waits_for rules running job now ok)
      by_answer true = its
      by_answer false = its

  pub begin_walks : (rules : Rules) (running : Option Job) (refused job : Option ℕ) (wish : Wish) (now : ℕ) → rules.setup ≡ setup
      → Walks BegunIts (begin rules running refused job wish now)
  begin_walks rules running (Some result) job wish now its = its
  begin_walks rules running None job wish now its =
      begun_walks rules running (if wants_handler rules.view wish then job else None) wish now its

  pub hand_walks : (known : ManualKnown) (spare : ℕ) (given : Given) (request : Request)
      → Walks BegunIts (done_by_hand (record { setup = setup; known = known }) spare given request)
  hand_walks known spare given request =
      begin_walks (record { setup = setup; view = known.view }) known.job
      (refused_by_hand setup known.view (is_some known.job) spare given.ready request.options request.wish)
      given.job request.wish given.now refl

  pub after_walks : (rules : Rules) (service : Service) → rules.setup ≡ setup → Walks GrantedIts (grant_after rules service)
  unfolding grant_now
  after_walks rules CanRun its =
      on_cond (Walks GrantedIts) (are_terms_spent_by_hand rules.view) _ _ its
      (after TriedIts GrantedIts
      (keep_tried (with_rules rules (grant_by_hand rules.setup rules.view).view) Grant (grant_by_hand rules.setup rules.view).tried) _
      (tried_walks (with_rules rules (grant_by_hand rules.setup rules.view).view) Grant (grant_by_hand rules.setup rules.view).tried its)
      (λ done done_its. done_its))
  after_walks rules CannotRun its = its

  waiters_walk : (rules : Rules) (told_so : Told) → rules.setup ≡ setup → Walks Any (tell_waiters rules told_so waiters)
  unfolding tell_waiters
  waiters_walk rules told_so its =
      told_by rules.setup (manual_state rules.setup rules.view) told_so its (ap (λ (s : Setup). s.ticket) its)

  over_walks : (ticket : ManualState) (job : ℕ) (service : Service) → ticket.setup ≡ setup
      → Walks LeftIts (manual_over ticket waiters job service)
  unfolding end_handler
  over_walks ticket job service its =
      on_cond (Walks LeftIts) (is_awaited ticket.known.job job) _ _
      (after GrantedIts LeftIts (grant_after (rules_of ticket) service) _ (after_walks (rules_of ticket) service its)
      (λ done done_its. after Any LeftIts (tell_waiters done.rules done.told waiters) _
      (waiters_walk done.rules done.told done_its) (λ stay any. done_its)))
      its

  late_walks : (ticket : ManualState) (now : ℕ) → ticket.setup ≡ setup → Walks LeftIts (limit_due ticket waiters now)
  unfolding fail_handler
  late_walks ticket now its =
      on_cond (Walks LeftIts) (is_late ticket.known.job now) _ _
      (after Any LeftIts (tell_waiters (rules_of ticket) tells.HandlerFailed waiters) _
      (waiters_walk (rules_of ticket) tells.HandlerFailed its) (λ stay any. its))
      its

  pub greeting_walks : (known : ManualKnown) → Walks Any (say setup None (greeting setup known))
  greeting_walks known = said None (greeting setup known) (greeting_speaks setup known)

  -- ---- what befalls a ticket

  abbrev pub HasSetup : TicketLeft → Type 0
  HasSetup left = left.ticket.setup ≡ setup

  pub ticket_heard_walks : (known : Known) (from : ℕ) (head : Head) (part : TicketPart) (now : ℕ)
      → Walks HasSetup (ticket_heard setup known waiters from head part now)
  unfolding hear manual_heard
  ticket_heard_walks (Automatic view) from head part now =
      after LeavesIts HasSetup (hear (core_of view) waiters from head part now) _
      (after IsIts LeavesIts (hear_message (core_of view) from head part now) _ (message_walks view from head part now)
      (λ last its. told now last its)) (λ left its. its)
  ticket_heard_walks (Manual known) from head part now =
      let ticket : ManualState = record { setup = setup; known = known } in
      let IsTicket : ManualState → Type 0 = λ t. t.setup ≡ setup in
      after IsTicket HasSetup (manual_heard ticket from head part) _
      (after Any IsTicket (say setup (Some from) (heard_of ticket head part).say) _
      (said (Some from) (heard_of ticket head part).say (hearing_speaks setup known.view head part head.cmd)) (λ done any. refl))
      (λ left its. its)

  pub ticket_due_walks : (known : Known) (given : Given) → Walks HasSetup (ticket_due setup known waiters given)
  unfolding come_due manual_due
  ticket_due_walks (Automatic view) given =
      after LeavesIts HasSetup (come_due (core_of view) waiters given) _
      (after IsIts LeavesIts (tick (core_of view) given) _ (tick_walks view given) (λ last its. told given.now last its))
      (λ left its. its)
  ticket_due_walks (Manual known) given =
      after LeftIts HasSetup (manual_due (record { setup = setup; known = known }) waiters given.now) _
      (after Any LeftIts (say setup None (greeting setup known)) _ (greeting_walks known)
      (λ done any. late_walks (record { setup = setup; known = known_as known.view None known.job }) given.now refl))
      (λ left its. its)

  pub ticket_over_walks : (known : Known) (job : ℕ) (service : Service) (now : ℕ)
      → Walks HasSetup (ticket_over setup known waiters job service now)
  unfolding end_job
  ticket_over_walks (Automatic view) job service now =
      after LeavesIts HasSetup (end_job (core_of view) waiters job service now) _
      (after IsIts LeavesIts (hear_job (core_of view) job service now) _ (job_walks view job service now)
      (λ last its. told now last its)) (λ left its. its)
  ticket_over_walks (Manual known) job service now =
      after LeftIts HasSetup (manual_over (record { setup = setup; known = known }) waiters job service) _
      (over_walks (record { setup = setup; known = known }) job service refl) (λ left its. its)

  pub ticket_asked_walks : (known : Known) (spare : ℕ) (given : Given) (request : Request) → Replies setup request P
      → Walks HasSetup (ticket_asked setup known waiters spare given request)
  unfolding follow_request reply manual_asked manual_reply say_to
  ticket_asked_walks (Automatic view) spare given request replies =
      after LeavesIts HasSetup (follow_request (core_of view) waiters spare given request request.wish) _
      (after AnswersIts LeavesIts (do_for (core_of view) spare given request.options request.wish) _
      (done_walks view spare given request.options request.wish)
      (λ done done_its. after LeavesIts LeavesIts (tell given.now waiters done.last) _ (told given.now done.last done_its)
      (λ left left_its. (
        subst (λ (s : Setup). P (Say (Client request.from) (head_of s (reply_cmd request.wish) request.number 0 0 done.answer)
            (state_part left.core.setup left.core.view given.now))) (sym left_its)
            (replies request.wish done.answer (state_part left.core.setup left.core.view given.now)
            (ap (λ (s : Setup). s.ticket) left_its)),
        λ ok. left_its,
      ))))
      (λ left its. its)
  ticket_asked_walks (Manual known) spare given request replies =
      after LeftIts HasSetup (manual_asked (record { setup = setup; known = known }) waiters spare given request) _
      (after BegunIts LeftIts (done_by_hand (record { setup = setup; known = known }) spare given request) _
      (hand_walks known spare given request)
      (λ done its. (
        subst (λ (s : Setup). P (Say (Client request.from) (head_of s (reply_cmd request.wish) request.number 0 0 done.answer)
            (manual_state done.rules.setup done.rules.view))) (sym its)
            (replies request.wish done.answer (manual_state done.rules.setup done.rules.view) (ap (λ (s : Setup). s.ticket) its)),
        λ ok. its,
      )))
      (λ left its. its)
