-- A ticket's deeds are those of its plan.
use Rattle.std.proofs.Common.{◌≡◌, ℕ, ◌/◌, ◌<◌, Bool, true, false, ◌&&◌, List, [], ◌∷◌, refl, sym, ap, ◌∙◌, subst, arith}
use Rattle.std.specs.Prelude.{Option, Some, None, option_map, if◌then◌else◌, nat_le}
use Rattle.booth_base.specs.Tree.{Deeds, Ends, Does, ◌>>=◌, ◌>>◌, each}
use Rattle.booth_base.proofs.TreeLemmas.{then_ends, then_then}
use Rattle.booth_wire.specs.declared.codes.reasons.TheConstants.{ADMN, TLST, LOCF, RACQ}
use Rattle.booth_wire.specs.declared.message.Head.{Head}
use Rattle.booth_wire.specs.declared.message.TicketPart.{TicketPart}
use Rattle.booth_wire.specs.declared.message.Setup.{Setup}
use Rattle.booth_raft.specs.declared.deed.Note.TheVariants as notes
use Rattle.booth_wire.specs.declared.command.Direction.TheVariants.{ToClient}
use Rattle.booth_wire.specs.Command.{direction_of}
use Rattle.booth_raft.specs.declared.deed.Told.{Told}
use Rattle.booth_raft.specs.declared.deed.Told.TheVariants as tells
use Rattle.booth_raft.specs.declared.deed.Want.{Want}
use Rattle.booth_raft.specs.declared.deed.Want.TheVariants as wants
use Rattle.booth_raft.specs.declared.view.Role.{Role}
use Rattle.booth_raft.specs.declared.view.Role.TheVariants.{Follower, Working, Candidate, Leader}
use Rattle.booth_raft.specs.declared.view.View.{View}
use Rattle.booth_raft.specs.AskAndRenew.{acquisition_failed, are_terms_spent, ask, renew}
use Rattle.booth_raft.specs.Deadlines.{due_now, greeted, hello, follower_due, leader_due, candidate_due}
use Rattle.booth_raft.specs.GainReleaseLost.{lost, own_end, release}
use Rattle.booth_raft.specs.Members.{is_promised_elsewhere, is_working}
use Rattle.booth_raft.specs.Messages.{state_part}
use Rattle.booth_raft.specs.Notes.{noted, handler_failed}
use Rattle.booth_raft.specs.OtherMessages.{hear}
use Rattle.booth_raft.specs.Outcome.{Outcome, quiet, telling}
use Rattle.booth_raft.specs.State.{State, Step}
use Rattle.booth_raft.proofs.FactsLemmas.{on_test}
use Rattle.booth_ticket.specs.declared.request.Given.{Given}
use Rattle.booth_ticket.specs.declared.request.Request.{Request}
use Rattle.booth_ticket.specs.declared.request.Wish.{Wish}
use Rattle.booth_ticket.specs.declared.request.Wish.TheVariants.{Grant, Revoke}
use Rattle.booth_ticket.specs.declared.handling.Service.{Service}
use Rattle.booth_ticket.specs.declared.handling.Service.TheVariants.{CanRun, CannotRun}
use Rattle.booth_ticket.specs.Acts.{Ask, Start}
use Rattle.booth_ticket.specs.Automatic.{come_due, end_job, hear as hears, hear_job, hear_message, take_over, follow, rule_due, role_due, tick}
use Rattle.booth_ticket.specs.Handling.{acquire, acquires as acquires_by, checks, goes_on, is_job, leads_on as leads_with, renews as renews_with, renews_by, renews_or_releases, works, works_on}
use Rattle.booth_ticket.specs.Keeping.{carry_out, keep_once}
use Rattle.booth_ticket.specs.Requests.{Answered, acquire_for, do_for, follow_request, refused_grant, grant, grant_result, refused_revoke, release_for, revoke, revoke_result, reply, reply_cmd}
use Rattle.booth_ticket.specs.Saying.{say, say_to}
use Rattle.booth_ticket.specs.declared.waiters.Waiter.{Waiter}
use Rattle.booth_ticket.specs.Waiting.{Left, joined, result_for, staying, tell, tell_each, tell_one, tell_result}
use Rattle.booth_world.specs.Rules.{MemberMessage, Asks, Hears, MeetsDeadline, MakesNote, GivesBack}
use Rattle.booth_world.specs.Turns.{TurnTree, deeds_of, call_tree, Plan, Calls, Waits, plan_tree}
use Rattle.booth_world.proofs.RuleKeeps.{Awaits, hear_awaits, due_awaits, renew_awaits}
use Rattle.booth_world.proofs.Mirrors.{IsKept, later}
use Rattle.booth_world.proofs.Echoes.{Echoes, at_step, said, carried}
use Rattle.booth_world.proofs.DueWants.{WantsWell, by_role, wants_well, never_both, no_deeds}
use Rattle.booth_world.proofs.Plans.{counted_by, counted_from, job_plan, asks_plan, acquire_plan, renews_plan, renew_plan, take_over_plan, want_plan, role_plan, due_plan, grant_plan, revoke_plan, wish_plan, ask_plan, works_on_plan, goes_on_plan, leads_plan, by_role_plan, over_plan}

module _ (s : Setup) (now most : ℕ) where
  -- ---- the ticket's deeds are those of the plan

  -- a core with this view, of a ticket of this setup
  abbrev core_of : View → State
  core_of view = record { setup = s; view = view }

  module _ (own : s.place < s.members) (P : List MemberMessage → Left → TurnTree → Type 0) (kept : IsKept P) (go : View → Plan)
      (on : (left : Left) (sent : List MemberMessage) → left.core.setup ≡ s
      → P sent left (plan_tree s now left.core.view (go left.core.view)))
      (handler : Option (List ℕ)) (number : ℕ) (few : number < most) where
    -- the job that the ticket may start
    abbrev job_now : Option ℕ
    job_now = option_map (λ words_of. number) handler

    -- what is given, whether the ticket is ready
    abbrev given_now : Bool → Given
    given_now ready = record { now = now; ready = ready; job = job_now }

    -- those that wait are told, which no member hears
    told_each : (part : TicketPart) (told : Told) (waiters : List Waiter) (rest : Deeds Ask Left) (sent : List MemberMessage) (tree : TurnTree)
        → Echoes s P sent rest tree → Echoes s P sent (each (tell_one s part told) waiters >> rest) tree
    unfolding tell_one say_to
    told_each part told [] rest sent tree m = m
    told_each part told (w ∷ ws) rest sent tree m =
        subst (λ (t : Deeds Ask Left). Echoes s P sent t tree)
        (sym (then_then (tell_one s part told w) (λ done. each (tell_one s part told) ws) (λ done. rest)))
        (by_result (result_for told w) (told_each part told ws rest sent tree m))
      where
        by_result : (r : Option ℕ) → Echoes s P sent (each (tell_one s part told) ws >> rest) tree
            → Echoes s P sent (tell_result s part w r >> (each (tell_one s part told) ws >> rest)) tree
        by_result None more = more
        by_result (Some result) more = (refl, more)

    -- what is left of those that wait
    abbrev left_of : List Waiter → Outcome → Left
    left_of waiters o = record { core = core_of o.view; waiters = staying o.deed.told waiters }

    told_and_then : (waiters : List Waiter) (o : Outcome) (rest : Left → Deeds Ask Left) (sent : List MemberMessage) (tree : TurnTree)
        → Echoes s P sent (rest (left_of waiters o)) tree → Echoes s P sent (tell now waiters (at_step s o) >>= rest) tree
    unfolding tell tell_each
    told_and_then waiters o rest sent tree m =
        let part : TicketPart = state_part s o.view now in
        let left : List Waiter → Left = λ stay. record { core = core_of o.view; waiters = stay } in
        subst (λ (t : Deeds Ask Left). Echoes s P sent t tree)
        (sym (then_then (tell_each s part o.deed.told waiters) (λ stay. Ends (left stay)) rest
        ∙ then_then (each (tell_one s part o.deed.told) waiters) (λ done. Ends (staying o.deed.told waiters)) (λ stay. rest (left stay))))
        (told_each part o.deed.told waiters (rest (left_of waiters o)) sent tree m)

    -- those that wait are told last
    ended : (waiters : List Waiter) (o : Outcome) (sent : List MemberMessage)
        → Echoes s P sent (tell now waiters (at_step s o)) (plan_tree s now o.view (go o.view))
    ended waiters o sent =
        subst (λ (t : Deeds Ask Left). Echoes s P sent t (plan_tree s now o.view (go o.view)))
        (then_ends (tell now waiters (at_step s o)))
        (told_and_then waiters o (λ left. Ends left) sent (plan_tree s now o.view (go o.view)) (on (left_of waiters o) sent refl))

    -- a call's outcome is carried out, and then what follows it
    called : (from : Option ℕ) (outcome : Outcome) (rest : Step → Deeds Ask Left) (sent : List MemberMessage) (follows : View → Plan) → Awaits outcome
        → ((o : Outcome) (sent' : List MemberMessage) → Echoes s P sent' (rest (at_step s o)) (plan_tree s now o.view (follows o.view)))
        → Echoes s P sent (carry_out from now (at_step s outcome) >>= rest) (deeds_of s now outcome >>= (λ left. plan_tree s now left (follows left)))
    called from outcome rest sent follows awaits then_so =
        carried s own P kept (λ left. plan_tree s now left (follows left)) from now outcome rest sent awaits then_so

    -- what an outcome leads to
    abbrev ThenSo : (Step → Deeds Ask Left) → Type 0
    ThenSo rest = (o : Outcome) (sent' : List MemberMessage) → Echoes s P sent' (rest (at_step s o)) (plan_tree s now o.view (go o.view))

    -- a step is carried out, and then what follows it
    abbrev carries : (Step → Deeds Ask Left) → Step → Deeds Ask Left
    carries rest begun = carry_out None now begun >>= rest

    -- with nothing to keep or to say, what follows does at once
    at_once : (view : View) (told : Told) (rest : Step → Deeds Ask Left) (sent : List MemberMessage) → ThenSo rest
        → Echoes s P sent (carries rest (at_step s (telling view told))) (plan_tree s now view (go view))
    unfolding carry_out keep_once
    at_once view told rest sent then_so = then_so (telling view told) sent

    asked_anew : (reason : ℕ) (view : View) (rest : Step → Deeds Ask Left) (sent : List MemberMessage) → ThenSo rest
        → Echoes s P sent (carries rest (at_step s (acquire s view reason now))) (plan_tree s now view (asks_plan reason go view))
    asked_anew reason view rest sent then_so = by_test (are_terms_spent view)
      where
        by_test : (b : Bool)
            → Echoes s P sent
            (carries rest (at_step s (if b then telling (acquisition_failed s view now) tells.AskFailed else ask s view reason now)))
            (plan_tree s now view (if b then Calls (MakesNote notes.AskFailed) go else Calls (Asks reason) go))
        by_test true = at_once (acquisition_failed s view now) tells.AskFailed rest sent then_so
        by_test false = called None (ask s view reason now) rest sent go tt then_so

    -- a handler is started, and the plan is told its number
    started_so : (expires : ℕ) (view : View) (outcome : Bool → Outcome) (starts : ℕ → Plan) (fails : Plan) (rest : Step → Deeds Ask Left)
        (sent : List MemberMessage)
        → ((sent' : List MemberMessage) → Echoes s P sent' (carries rest (at_step s (outcome true))) (plan_tree s now view (starts number)))
        → ((sent' : List MemberMessage) → Echoes s P sent' (carries rest (at_step s (outcome false))) (plan_tree s now view fails))
        → Echoes s P sent (Does (Start number expires) (λ ok. carries rest (at_step s (outcome ok)))) (plan_tree s now view (Waits (job_plan most starts fails)))
    started_so expires view outcome starts fails rest sent on_start on_fail =
        ((λ ok. plan_tree s now view (job_plan most starts fails ok)), refl, by_answer)
      where
        by_answer : (ok : Bool) → (answers : List Bool)
            × Echoes s P sent (carries rest (at_step s (outcome ok))) (later answers (plan_tree s now view (job_plan most starts fails ok)))
        by_answer true = (
          counted_by number,
          subst (λ (t : TurnTree). Echoes s P sent (carries rest (at_step s (outcome true))) t)
              (sym (counted_from s now view starts most number 0 few ∙ ap (λ (n : ℕ). plan_tree s now view (starts n)) (omega arith)))
              (on_start sent),
        )
        by_answer false = ([], on_fail sent)

    acquired : (h : Option (List ℕ)) (reason : ℕ) (view : View) (rest : Step → Deeds Ask Left) (sent : List MemberMessage) → ThenSo rest
        → Echoes s P sent (acquires_by (core_of view) (option_map (λ words_of. number) h) reason now >>= carries rest)
        (plan_tree s now view (acquire_plan most h reason go view))
    acquired None reason view rest sent then_so = asked_anew reason view rest sent then_so
    acquired (Some h) reason view rest sent then_so =
        started_so 0 view (works s view number reason now) (λ job. Calls (MakesNote (notes.JobStarted job reason)) go)
        (Calls (MakesNote notes.HandlerFailed) go) rest sent
        (λ sent'. at_once (noted s view now (notes.JobStarted number reason)) tells.Nothing rest sent' then_so)
        (λ sent'. at_once (noted s view now notes.HandlerFailed) tells.HandlerFailed rest sent' then_so)

    renewed : (view : View) (rest : Step → Deeds Ask Left) (sent : List MemberMessage) → ThenSo rest
        → Echoes s P sent (renews_with (core_of view) job_now now >>= carries rest) (plan_tree s now view (renew_plan s most handler go view))
    renewed view rest sent then_so = by_site s.site
      where
        by_handler : (h : Option (List ℕ))
            → Echoes s P sent (renews_by (core_of view) (option_map (λ words_of. number) h) now >>= carries rest) (plan_tree s now view (renews_plan most h go))
        by_handler None = called None (renew s view now) rest sent go (renew_awaits s view now) then_so
        by_handler (Some h) =
            started_so (own_end view / 1000) view (checks s view number now) (λ job. Calls (MakesNote (notes.JobStarted job RACQ)) go)
            (Calls (GivesBack LOCF) go) rest sent
            (λ sent'. at_once (noted s view now (notes.JobStarted number RACQ)) tells.Nothing rest sent' then_so)
            (λ sent'. called None (release s view LOCF now) rest sent' go tt then_so)

        by_site : (b : Bool)
            → Echoes s P sent (renews_by (core_of view) (if b then job_now else None) now >>= carries rest)
            (plan_tree s now view (renews_plan most (if b then handler else None) go))
        by_site true = by_handler handler
        by_site false = by_handler None

    pub heard : (view : View) (waiters : List Waiter) (from : ℕ) (head : Head) (part : TicketPart) (sent : List MemberMessage)
        → Echoes s P sent (hears (core_of view) waiters from head part now)
        (call_tree s now view (Hears (record { sender = from; head = head; part = part })) >>= (λ left. plan_tree s now left (go left)))
    unfolding hears hear_message
    heard view waiters from head part sent =
        called (Some from) (hear s view from head part now head.cmd) (tell now waiters) sent go (hear_awaits s view from head part now head.cmd) (ended waiters)

    taken_over : (view : View) (ready : Bool) (rest : Step → Deeds Ask Left) (sent : List MemberMessage) → ThenSo rest
        → Echoes s P sent (take_over (core_of view) (given_now ready) >>= carries rest) (plan_tree s now view (take_over_plan most ready handler go view))
    taken_over view true rest sent then_so = acquired handler TLST view rest sent then_so
    taken_over view false rest sent then_so = at_once (noted s view now notes.Unready) tells.Nothing rest sent then_so

    want_due : (view : View) (waiters : List Waiter) (ready : Bool) (want : Want) (sent : List MemberMessage) → WantsWell s (due_now s view now) want
        → Echoes s P sent (follow (at_step s (due_now s view now)) want (given_now ready) >>= carries (tell now waiters))
        (plan_tree s now view (want_plan s most ready handler go want))
    want_due view waiters ready wants.Nothing sent w = called None (due_now s view now) (tell now waiters) sent go (due_awaits s view now) (ended waiters)
    want_due view waiters ready wants.Renew sent w =
        subst (λ (t : TurnTree). Echoes s P sent (renews_with (core_of (due_now s view now).view) job_now now >>= carries (tell now waiters))
        (t >>= (λ left. plan_tree s now left (renew_plan s most handler go left)))) (sym (no_deeds s now (due_now s view now) w.0 w.1))
        (renewed (due_now s view now).view (tell now waiters) sent (ended waiters))
    want_due view waiters ready wants.Acquire sent w =
        subst (λ (t : TurnTree). Echoes s P sent (take_over (core_of (due_now s view now).view) (given_now ready) >>= carries (tell now waiters))
        (t >>= (λ left. plan_tree s now left (take_over_plan most ready handler go left)))) (sym (no_deeds s now (due_now s view now) w.0 w.1))
        (taken_over (due_now s view now).view ready (tell now waiters) sent (ended waiters))

    role : (waiters : List Waiter) (ready : Bool) (view : View) (sent : List MemberMessage)
        → Echoes s P sent (role_due (core_of view) (given_now ready) >>= carries (tell now waiters))
        (plan_tree s now view (role_plan s now most ready handler go view))
    role waiters ready view sent = by_test (is_working view.role)
      where
        by_test : (b : Bool)
            → Echoes s P sent
            ((if b
            then Ends (at_step s (telling (handler_failed s view now) tells.HandlerFailed))
            else rule_due (core_of view) (given_now ready)) >>= carries (tell now waiters))
            (plan_tree s now view (if b then Calls (MakesNote notes.HandlerFailed) go else want_plan s most ready handler go (due_now s view now).deed.want))
        by_test true = at_once (handler_failed s view now) tells.HandlerFailed (tell now waiters) sent (ended waiters)
        by_test false = want_due view waiters ready (due_now s view now).deed.want sent (wants_well s view now)

    -- the deadline's deeds, each part after the other
    due_parts : (view : View) (waiters : List Waiter) (ready : Bool)
        → come_due (core_of view) waiters (given_now ready)
        ≡ (say s None (hello s view now) >> (role_due (core_of (greeted s view)) (given_now ready) >>= carries (tell now waiters)))
    unfolding come_due tick
    due_parts view waiters ready =
        let hail = say s None (hello s view now) in
        let due = role_due (core_of (greeted s view)) (given_now ready) in
        then_then hail (λ done. due >>= (λ begun. carry_out None now begun)) (tell now waiters)
        ∙ ap (λ (t : Deeds Ask Left). hail >> t) (then_then due (λ begun. carry_out None now begun) (tell now waiters))

    pub ticked : (view : View) (waiters : List Waiter) (ready : Bool) (sent : List MemberMessage)
        → Echoes s P sent (come_due (core_of view) waiters (given_now ready)) (plan_tree s now view (due_plan s now most ready handler go))
    ticked view waiters ready sent =
        subst (λ (t : Deeds Ask Left). Echoes s P sent t (plan_tree s now view (due_plan s now most ready handler go)))
        (sym (due_parts view waiters ready))
        (said s own P kept (λ left. plan_tree s now left (role_plan s now most ready handler go left)) None (hello s view now) sent (greeted s view)
        (role_due (core_of (greeted s view)) (given_now ready) >>= carries (tell now waiters)) (role waiters ready (greeted s view) sent))

    -- a job is over
    worked_on : (service : Service) (view : View) (rest : Step → Deeds Ask Left) (sent : List MemberMessage) → ThenSo rest
        → Echoes s P sent (carries rest (at_step s (works_on s view service now))) (plan_tree s now view (works_on_plan s now service go view))
    worked_on CanRun view rest sent then_so = by_test (is_promised_elsewhere view.promise s.me now)
      where
        by_test : (b : Bool)
            → Echoes s P sent
            (carries rest (at_step s (if b then telling (noted s view now notes.AskFailed) tells.AskFailed else acquire s view view.reason now)))
            (plan_tree s now view (if b then Calls (MakesNote notes.AskFailed) go else asks_plan view.reason go view))
        by_test true = at_once (noted s view now notes.AskFailed) tells.AskFailed rest sent then_so
        by_test false = asked_anew view.reason view rest sent then_so
    worked_on CannotRun view rest sent then_so = at_once (noted s view now notes.HandlerFailed) tells.HandlerFailed rest sent then_so

    goes_so : (service : Service) (view : View) (rest : Step → Deeds Ask Left) (sent : List MemberMessage) → ThenSo rest
        → Echoes s P sent (carries rest (at_step s (renews_or_releases s view service now))) (plan_tree s now view (goes_on_plan service go))
    goes_so CanRun view rest sent then_so = called None (renew s view now) rest sent go (renew_awaits s view now) then_so
    goes_so CannotRun view rest sent then_so = called None (release s view LOCF now) rest sent go tt then_so

    led_on : (service : Service) (view : View) (rest : Step → Deeds Ask Left) (sent : List MemberMessage) → ThenSo rest → view.role ≡ Leader
        → Echoes s P sent (carries rest (at_step s (leads_with s view service now))) (plan_tree s now view (leads_plan now service go view))
    led_on service view rest sent then_so leads = by_test (nat_le (own_end view) now) refl
      where
        lost_now : Outcome
        lost_now = telling (lost s view now) tells.Lost

        is_lost : nat_le (own_end view) now ≡ true → due_now s view now ≡ lost_now
        is_lost over = by_leader view.role leads
          where
            by_leader : (role : Role) → role ≡ Leader
                → elim role [ Follower ↦ follower_due s view now | Working ↦ quiet view | Candidate ↦ candidate_due s view now | Leader ↦ leader_due s view now ] ≡ lost_now
            by_leader Follower is = absurd cc
            by_leader Working is = absurd cc
            by_leader Candidate is = absurd cc
            by_leader Leader is = on_test (λ (o : Outcome). o ≡ lost_now) (nat_le (own_end view) now) _ _ (λ e. refl) (λ e. absurd (never_both (nat_le (own_end view) now) over e))

        by_test : (b : Bool) → nat_le (own_end view) now ≡ b
            → Echoes s P sent (carries rest (at_step s (if b then lost_now else renews_or_releases s view service now)))
            (plan_tree s now view (if b then Calls MeetsDeadline go else goes_on_plan service go))
        by_test true over =
            subst (λ (o : Outcome). Echoes s P sent (carries rest (at_step s lost_now)) (deeds_of s now o >>= (λ left. plan_tree s now left (go left)))) (sym (is_lost over))
            (called None lost_now rest sent go tt then_so)
        by_test false over = goes_so service view rest sent then_so

    pub job_ended : (view : View) (waiters : List Waiter) (job : ℕ) (service : Service) (sent : List MemberMessage)
        → Echoes s P sent (end_job (core_of view) waiters job service now) (plan_tree s now view (over_plan s now job service go view))
    unfolding end_job hear_job
    job_ended view waiters job service sent = by_test (s.site && is_job view.job job)
      where
        by_role : (role : Role) → view.role ≡ role
            → Echoes s P sent
            (carries (tell now waiters)
            (at_step s (elim role [
              | Follower ↦ quiet view
              | Working ↦ works_on s view service now
              | Candidate ↦ quiet view
              | Leader ↦ leads_with s (noted s view now notes.JobOver) service now
            ]))) (plan_tree s now view (by_role_plan s now service go view role))
        by_role Follower is = at_once view tells.Nothing (tell now waiters) sent (ended waiters)
        by_role Working is = worked_on service view (tell now waiters) sent (ended waiters)
        by_role Candidate is = at_once view tells.Nothing (tell now waiters) sent (ended waiters)
        by_role Leader is = led_on service (noted s view now notes.JobOver) (tell now waiters) sent (ended waiters) is

        by_test : (b : Bool)
            → Echoes s P sent (carries (tell now waiters) (at_step s (if b then goes_on s view service now else quiet view)))
            (plan_tree s now view (if b then by_role_plan s now service go view view.role else go view))
        by_test true = by_role view.role refl
        by_test false = at_once view tells.Nothing (tell now waiters) sent (ended waiters)

    -- what is done for a client is told to those that wait, and it is answered last
    abbrev replies : Request → Wish → List Waiter → Answered → Deeds Ask Left
    replies request wanted waiters done =
        tell now waiters done.last >>= (λ left. reply left.core request wanted done.answer now
        >> Ends (record { core = left.core; waiters = joined request done.answer left.waiters }))

    to_client : (wanted : Wish) → direction_of (reply_cmd wanted) ≡ ToClient
    to_client Grant = refl
    to_client Revoke = refl

    replied : (waiters : List Waiter) (request : Request) (wanted : Wish) (result : ℕ) (o : Outcome) (sent : List MemberMessage)
        → Echoes s P sent (replies request wanted waiters (record { answer = result; last = at_step s o })) (plan_tree s now o.view (go o.view))
    unfolding reply say_to
    replied waiters request wanted result o sent =
        told_and_then waiters o (λ left. reply left.core request wanted result now
        >> Ends (record { core = left.core; waiters = joined request result left.waiters }))
        sent (plan_tree s now o.view (go o.view))
        (to_client wanted, on (record { core = core_of o.view; waiters = joined request result (staying o.deed.told waiters) }) sent refl)

    -- an acquisition that a client asked for, each part after the other
    acquire_parts : (view : View) (options : ℕ) (ends : Answered → Deeds Ask Left)
        → (acquire_for (core_of view) options job_now now >>= ends)
        ≡ (acquires_by (core_of (noted s view now notes.Asked)) job_now ADMN now
        >>= carries (λ last. ends (record { answer = grant_result options last.deed.told; last = last })))
    unfolding acquire_for
    acquire_parts view options ends =
        let first = acquires_by (core_of (noted s view now notes.Asked)) job_now ADMN now in
        let answered : Step → Answered = λ last. record { answer = grant_result options last.deed.told; last = last } in
        then_then first (λ begun. carry_out None now begun >>= (λ last. Ends (answered last))) ends
        ∙ ap (λ (k : Step → Deeds Ask Left). first >>= k)
        (λ i begun. then_then (carry_out None now begun) (λ last. Ends (answered last)) ends i)

    granted : (view : View) (waiters : List Waiter) (request : Request) (refused : Option ℕ) (sent : List MemberMessage)
        → Echoes s P sent (grant (core_of view) request.options refused job_now now >>= replies request Grant waiters)
        (plan_tree s now view (grant_plan most handler go view refused))
    granted view waiters request (Some result) sent = replied waiters request Grant result (quiet view) sent
    granted view waiters request None sent =
        subst (λ (t : Deeds Ask Left). Echoes s P sent t (plan_tree s now view (grant_plan most handler go view None)))
        (sym (acquire_parts view request.options (replies request Grant waiters)))
        (acquired handler ADMN (noted s view now notes.Asked)
        (λ last. replies request Grant waiters (record { answer = grant_result request.options last.deed.told; last = last })) sent
        (λ o sent'. replied waiters request Grant (grant_result request.options o.deed.told) o sent'))

    release_parts : (view : View) (ends : Answered → Deeds Ask Left)
        → (release_for (core_of view) now >>= ends)
        ≡ carries (λ last. ends (record { answer = revoke_result last.deed.told; last = last })) (at_step s (release s view ADMN now))
    unfolding release_for
    release_parts view ends =
        then_then (carry_out None now (at_step s (release s view ADMN now)))
        (λ last. Ends (record { answer = revoke_result last.deed.told; last = last })) ends

    revoked : (view : View) (waiters : List Waiter) (request : Request) (refused : Option ℕ) (sent : List MemberMessage)
        → Echoes s P sent (revoke (core_of view) refused now >>= replies request Revoke waiters) (plan_tree s now view (revoke_plan go view refused))
    revoked view waiters request (Some result) sent = replied waiters request Revoke result (quiet view) sent
    revoked view waiters request None sent =
        subst (λ (t : Deeds Ask Left). Echoes s P sent t (plan_tree s now view (revoke_plan go view None)))
        (sym (release_parts view (replies request Revoke waiters)))
        (called None (release s view ADMN now)
        (λ last. replies request Revoke waiters (record { answer = revoke_result last.deed.told; last = last })) sent go tt
        (λ o sent'. replied waiters request Revoke (revoke_result o.deed.told) o sent'))

    wished : (view : View) (waiters : List Waiter) (spare : ℕ) (ready : Bool) (request : Request) (w : Wish) (sent : List MemberMessage)
        → Echoes s P sent (do_for (core_of view) spare (given_now ready) request.options w >>= replies request w waiters)
        (plan_tree s now view (wish_plan s now most spare ready handler request go view w))
    wished view waiters spare ready request Grant sent = granted view waiters request (refused_grant s view spare ready request.options now) sent
    wished view waiters spare ready request Revoke sent = revoked view waiters request (refused_revoke s view request.options now) sent

    pub asked : (view : View) (waiters : List Waiter) (spare : ℕ) (ready : Bool) (request : Request) (sent : List MemberMessage)
        → Echoes s P sent (follow_request (core_of view) waiters spare (given_now ready) request request.wish)
        (plan_tree s now view (ask_plan s now most spare ready handler request go view))
    unfolding follow_request
    asked view waiters spare ready request sent = wished view waiters spare ready request request.wish sent
