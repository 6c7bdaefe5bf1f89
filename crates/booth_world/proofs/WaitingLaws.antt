-- Who was told waits no more, and for a manual ticket clients wait only while its handler runs.
use Rattle.std.proofs.Common.{◌≡◌, ◌≢◌, ◌⊎◌, inl, inr, ⊎_elim, ℕ, Bool, true, false, ◌&&◌, ◌||◌, not, List, [], ◌∷◌, ◌++◌, refl, sym, ap, ◌∙◌, subst, arith, if◌then◌else◌}
use Rattle.std.specs.Prelude.{Option, Some, None, ◌==◌, is_some}
use Rattle.std.specs.List.{filter}
use Rattle.std.specs.Option.{is_none}
use Rattle.std.proofs.lemmas.Bool.Decides.{nat_tests}
use Rattle.booth_base.specs.Tree.{Deeds, Ends, Does, Always, each}
use Rattle.booth_base.proofs.TreeLemmas.{always_then}
use Rattle.booth_wire.specs.declared.codes.results.TheConstants.{APRQ, ASYN, BUSY, FAIL, IARG, OVER, PEND, REDR, SUCCESS, TIDL}
use Rattle.booth_wire.specs.declared.codes.options.TheConstants.{WAIT}
use Rattle.booth_wire.specs.declared.message.Head.{Head}
use Rattle.booth_wire.specs.declared.message.Setup.{Setup}
use Rattle.booth_wire.specs.declared.message.TicketPart.{TicketPart}
use Rattle.booth_raft.specs.declared.deed.Told.{Told}
use Rattle.booth_raft.specs.declared.deed.Told.TheVariants as tells
use Rattle.booth_raft.proofs.FactsLemmas.{on_cond}
use Rattle.booth_manual.specs.declared.view.ManualView.{ManualView}
use Rattle.booth_manual.specs.GrantAndRevoke.{are_terms_spent, finish, grant}
use Rattle.booth_manual.specs.State.{State as Rules, with_view}
use Rattle.booth_ticket.specs.declared.handling.Service.{Service}
use Rattle.booth_ticket.specs.declared.handling.Service.TheVariants.{CanRun, CannotRun}
use Rattle.booth_ticket.specs.declared.manual.Job.{Job}
use Rattle.booth_ticket.specs.declared.request.Given.{Given}
use Rattle.booth_ticket.specs.declared.request.Request.{Request}
use Rattle.booth_ticket.specs.declared.request.Wish.{Wish}
use Rattle.booth_ticket.specs.declared.request.Wish.TheVariants.{Grant, Revoke}
use Rattle.booth_ticket.specs.declared.waiters.Waiter.{Waiter}
use Rattle.booth_ticket.specs.Acts.{Ask}
use Rattle.booth_ticket.specs.Manual.{ManualKnown, ManualState, heard_of, manual_heard, rules_of, ticket_as}
use Rattle.booth_ticket.specs.ManualHandling.{Granted, end_handler, fail_handler, grant_after, grant_now, greeting, is_awaited, is_late, limit_of, manual_deadline, manual_due, manual_over, tell_waiters}
use Rattle.booth_ticket.specs.ManualRequests.{Begun, Tried, as_waiting, begin_for, do_for, done_by_hand, forces, is_another_shown, is_strange, keep_for, keep_tried, manual_asked, manual_reply, refused_by_hand, refused_manual_grant, result_of_keep, start_for, tries_for, unforced, waits_for, wants_handler}
use Rattle.booth_ticket.specs.Saying.{say}
use Rattle.booth_ticket.specs.Waiting.{commits, joined, joins, result_for, staying, tell_each, tell_one, waiter_of, waits}
use Rattle.booth_ticket.proofs.WalkLemmas.{Any}
use Rattle.booth_node.specs.Records.{Has}
use Rattle.booth_world.specs.Kept.{AnyAsk, LeavesJobs, ManualWaitersHaveJobs, ToldStopWaiting, WaitForJob}
use Rattle.booth_world.proofs.Lists.{none_is, some_same}
use Rattle.booth_world.proofs.WorldEntries.{when_false}

-- ---- lists

-- all that are left pass
passes : {X : Type 0} (p : X → Bool) (xs : List X) (x : X) → Has (filter p xs) x → p x ≡ true
passes p [] x h = absurd h
passes {X} p (y ∷ ys) x h = by_test (p y) refl (λ on. passes p ys x on) h
  where
    by_test : (b : Bool) → p y ≡ b → (Has (filter p ys) x → p x ≡ true) → Has (if b then y ∷ filter p ys else filter p ys) x → p x ≡ true
    by_test true e rest (inl same) = subst (λ (z : X). p z ≡ true) same e
    by_test true e rest (inr on) = rest on
    by_test false e rest on = rest on

-- where none passes, none is left
none_left : {X : Type 0} (p : X → Bool) (xs : List X) → ((x : X) → Has xs x → p x ≡ false) → filter p xs ≡ []
none_left p [] none = refl
none_left p (x ∷ xs) none =
    when_false (p x) (x ∷ filter p xs) (filter p xs) (none x (inl refl)) ∙ none_left p xs (λ y h. none y (inr h))

in_either : {X : Type 0} (xs : List X) (e x : X) → Has (xs ++ e ∷ []) x → Has xs x ⊎ (e ≡ x)
in_either [] e x (inl is) = inr is
in_either [] e x (inr h) = absurd h
in_either {X} (y ∷ ys) e x (inl is) = inl (inl is)
in_either {X} (y ∷ ys) e x (inr h) = ⊎_elim (λ (a : Has ys x). inl (inr a)) (λ (b : e ≡ x). inr b) (in_either ys e x h)

-- ---- who was told

is_none_is : (o : Option ℕ) → is_none o ≡ true → o ≡ None
is_none_is None e = refl
is_none_is (Some n) e = absurd cc

-- whatever deeds ask, and leave
pub all_any : {S : Type 0} (deeds : Deeds Ask S) → Always AnyAsk Any deeds
all_any (Ends left) = tt
all_any (Does ask go) = (tt, λ ok. all_any (go ok))

pub told_stop_waiting : ToldStopWaiting
unfolding tell_each
told_stop_waiting setup part told waiters =
    always_then AnyAsk Any _ (each (tell_one setup part told) waiters) _ (all_any _)
    (λ done any waiter h. is_none_is (result_for told waiter) (passes (λ (w : Waiter). is_none (result_for told w)) waiters waiter h))

-- ---- by hand

-- each that does not wait for a record alone is told
abbrev TellsAll : Told → Type 0
TellsAll told = (waiter : Waiter) → waiter.commit ≡ false → is_none (result_for told waiter) ≡ false

failed_tells : TellsAll tells.HandlerFailed
failed_tells waiter e = refl

asked_tells : TellsAll tells.AskFailed
asked_tells waiter e = refl

gained_tells : (sure : Bool) → TellsAll (tells.Gained sure)
gained_tells true waiter e = refl
gained_tells false waiter e = ap (λ (c : Bool). is_none (if c then None else Some PEND)) e

-- so nobody waits on
none_stays : (told : Told) (known : ManualKnown) (waiters : List Waiter) → TellsAll told → WaitForJob known waiters → staying told waiters ≡ []
none_stays told known waiters all wait =
    none_left (λ (w : Waiter). is_none (result_for told w)) waiters (λ waiter h. all waiter (wait.uncommitted waiter h))

nobody : (known : ManualKnown) (waiters : List Waiter) → waiters ≡ [] → WaitForJob known waiters
nobody known waiters none =
    subst (λ (ws : List Waiter). WaitForJob known ws) (sym none) (record { uncommitted = λ w h. absurd h; idle = λ e. refl })

tells_so : (rules : Rules) (told : Told) (waiters : List Waiter)
    → Always AnyAsk (λ (stay : List Waiter). stay ≡ staying told waiters) (tell_waiters rules told waiters)
unfolding tell_waiters tell_each
tells_so rules told waiters = always_then AnyAsk Any _ (each _ waiters) _ (all_any _) (λ done any. refl)

heard_jobs : (ticket : ManualState) (from : ℕ) (head : Head) (part : TicketPart) (waiters : List Waiter) → WaitForJob ticket.known waiters
    → Always AnyAsk (λ (left : ManualState). WaitForJob left.known waiters) (manual_heard ticket from head part)
unfolding manual_heard
heard_jobs ticket from head part waiters wait =
    always_then AnyAsk Any _ (say ticket.setup (Some from) (heard_of ticket head part).say) _ (all_any _)
    (λ done any. record { uncommitted = wait.uncommitted; idle = wait.idle })

fail_jobs : (ticket : ManualState) (waiters : List Waiter) → WaitForJob ticket.known waiters → LeavesJobs (fail_handler ticket waiters)
unfolding fail_handler
fail_jobs ticket waiters wait =
    always_then AnyAsk (λ (stay : List Waiter). stay ≡ staying tells.HandlerFailed waiters) _ (tell_waiters (rules_of ticket) tells.HandlerFailed waiters) _
    (tells_so (rules_of ticket) tells.HandlerFailed waiters)
    (λ stay same. nobody _ stay (same ∙ none_stays tells.HandlerFailed ticket.known waiters failed_tells wait))

due_jobs : (ticket : ManualState) (waiters : List Waiter) (now : ℕ) → WaitForJob ticket.known waiters → LeavesJobs (manual_due ticket waiters now)
unfolding manual_due
due_jobs ticket waiters now wait =
    always_then AnyAsk Any _ (say ticket.setup None (greeting ticket.setup ticket.known)) _ (all_any _)
    (λ done any. on_cond LeavesJobs (is_late ticket.known.job now) (fail_handler greeted waiters)
    (Ends (record { ticket = greeted; waiters = waiters })) (fail_jobs greeted waiters same) same)
  where
    greeted : ManualState
    greeted = ticket_as (rules_of ticket) None ticket.known.job

    same : WaitForJob greeted.known waiters
    same = record { uncommitted = wait.uncommitted; idle = wait.idle }

-- a grant by hand, of which all that wait are told
abbrev GrantTells : Deeds Ask Granted → Type 0
GrantTells deeds = Always AnyAsk (λ (done : Granted). TellsAll done.told) deeds

grant_tells : (rules : Rules) → GrantTells (grant_now rules)
unfolding grant_now
grant_tells rules =
    always_then AnyAsk Any _ (keep_tried (with_view rules (grant rules.setup rules.view).view) Grant (grant rules.setup rules.view).tried) _
    (all_any {S = Tried} (keep_tried (with_view rules (grant rules.setup rules.view).view) Grant (grant rules.setup rules.view).tried))
    (λ done any. gained_tells done.rules.view.sure)

granted_tells : (rules : Rules) (service : Service) → GrantTells (grant_after rules service)
granted_tells rules CanRun =
    on_cond GrantTells (are_terms_spent rules.view)
    (Ends (record { told = tells.AskFailed; rules = rules })) (grant_now rules) asked_tells (grant_tells rules)
granted_tells rules CannotRun = failed_tells

ended_jobs : (ticket : ManualState) (waiters : List Waiter) (service : Service) → WaitForJob ticket.known waiters
    → LeavesJobs (end_handler ticket waiters service)
unfolding end_handler
ended_jobs ticket waiters service wait =
    always_then AnyAsk (λ (done : Granted). TellsAll done.told) _ (grant_after (rules_of ticket) service) _ (granted_tells (rules_of ticket) service)
    (λ done all. always_then AnyAsk (λ (stay : List Waiter). stay ≡ staying done.told waiters) _ (tell_waiters done.rules done.told waiters) _
    (tells_so done.rules done.told waiters)
    (λ stay same. nobody _ stay (same ∙ none_stays done.told ticket.known waiters all wait)))

over_jobs : (ticket : ManualState) (waiters : List Waiter) (job : ℕ) (service : Service) → WaitForJob ticket.known waiters
    → LeavesJobs (manual_over ticket waiters job service)
over_jobs ticket waiters job service wait =
    on_cond LeavesJobs (is_awaited ticket.known.job job) (end_handler ticket waiters service)
    (Ends (record { ticket = ticket; waiters = waiters })) (ended_jobs ticket waiters service wait) wait

-- ---- requests

-- a request that is refused was not begun
abbrev IsDecided : Option ℕ → Type 0
IsDecided o = (result : ℕ) → o ≡ Some result → result ≢ ASYN

decided : (n : ℕ) → n ≢ ASYN → IsDecided (Some n)
decided n ne result e same = ne (some_same n result e ∙ same)

undecided : IsDecided None
undecided result e same = none_is result e

refused_grants : (s : Setup) (view : ManualView) (runs : Bool) (spare : ℕ) (ready : Bool) (options : ℕ)
    → IsDecided (refused_manual_grant s view runs spare ready options)
refused_grants s view runs spare ready options =
    on_cond IsDecided (not s.site || is_strange options) _ _ (decided IARG (λ e. absurd (omega (arith, e))))
    (on_cond IsDecided view.owner _ _
    (on_cond IsDecided view.sure _ _ (decided SUCCESS (λ e. absurd (omega (arith, e)))) undecided)
    (on_cond IsDecided runs _ _ (decided BUSY (λ e. absurd (omega (arith, e))))
    (on_cond IsDecided (is_another_shown view.shown s.me && not (forces options)) _ _ (decided OVER (λ e. absurd (omega (arith, e))))
    (on_cond IsDecided (not ready) _ _ (decided APRQ (λ e. absurd (omega (arith, e))))
    (on_cond IsDecided (are_terms_spent view) _ _ (decided FAIL (λ e. absurd (omega (arith, e))))
    (on_cond IsDecided (waits (unforced options) && spare == 0) _ _ (decided BUSY (λ e. absurd (omega (arith, e)))) undecided))))))

refused_so : (s : Setup) (view : ManualView) (runs : Bool) (spare : ℕ) (ready : Bool) (options : ℕ) (wish : Wish)
    → IsDecided (refused_by_hand s view runs spare ready options wish)
refused_so s view runs spare ready options Grant = refused_grants s view runs spare ready options
refused_so s view runs spare ready options Revoke =
    on_cond IsDecided view.owner _ _ undecided
    (on_cond IsDecided runs _ _ (decided BUSY (λ e. absurd (omega (arith, e))))
    (on_cond IsDecided (is_another_shown view.shown s.me) _ _ (decided REDR (λ e. absurd (omega (arith, e))))
    (decided TIDL (λ e. absurd (omega (arith, e))))))

answer_decided : (wish : Wish) (ok : Bool) → result_of_keep wish ok ≢ ASYN
answer_decided Grant true e = absurd (omega (arith, e))
answer_decided Grant false e = absurd (omega (arith, e))
answer_decided Revoke true e = absurd (omega (arith, e))
answer_decided Revoke false e = absurd (omega (arith, e))

kept_decided : (rules : Rules) (wish : Wish) → Always AnyAsk (λ (tried : Tried). tried.answer ≢ ASYN) (keep_for rules wish)
unfolding keep_for keep_tried
kept_decided rules wish = (
  tt,
  λ ok. always_then AnyAsk Any _ (say rules.setup None (finish rules.setup (tries_for rules.setup rules.view wish).view ok).say) _ (all_any _)
      (λ done any. answer_decided wish ok),
)

-- where no handler runs, nobody waited, and the request was not begun
abbrev IsBegunSo : List Waiter → Begun → Type 0
IsBegunSo waiters begun = begun.running ≡ None → (waiters ≡ []) × (begun.answer ≢ ASYN)

starts_so : (waiters : List Waiter) (rules : Rules) (running : Option Job) (job now : ℕ) → (running ≡ None → waiters ≡ [])
    → Always AnyAsk (IsBegunSo waiters) (start_for rules running job now)
unfolding start_for
starts_so waiters rules running job now idle = (tt, by_answer)
  where
    by_answer : (ok : Bool) → IsBegunSo waiters (waits_for rules running job now ok)
    by_answer true e = absurd (none_is _ (sym e))
    by_answer false e = (idle e, λ same. absurd (omega (arith, same)))

begins_so : (waiters : List Waiter) (rules : Rules) (running : Option Job) (job : Option ℕ) (wish : Wish) (now : ℕ)
    → (running ≡ None → waiters ≡ []) → Always AnyAsk (IsBegunSo waiters) (begin_for rules running job wish now)
begins_so waiters rules running None wish now idle =
    always_then AnyAsk (λ (tried : Tried). tried.answer ≢ ASYN) _ (keep_for rules wish) _ (kept_decided rules wish)
    (λ done decided_now e. (idle e, decided_now))
begins_so waiters rules running (Some job) wish now idle = starts_so waiters rules running job now idle

does_so : (waiters : List Waiter) (rules : Rules) (running : Option Job) (refused job : Option ℕ) (wish : Wish) (now : ℕ)
    → (running ≡ None → waiters ≡ []) → IsDecided refused → Always AnyAsk (IsBegunSo waiters) (do_for rules running refused job wish now)
does_so waiters rules running (Some result) job wish now idle so = λ e. (idle e, so result refl)
does_so waiters rules running None job wish now idle so =
    begins_so waiters rules running (if wants_handler rules.view wish then job else None) wish now idle

-- who joins waits for a grant by hand
not_committed : (request : Request) → commits (as_waiting request).options ≡ false
not_committed request = by_test (waits (unforced request.options))
  where
    by_test : (b : Bool) → commits (if b then WAIT else 0) ≡ false
    by_test true = refl
    by_test false = refl

pub not_joined : (request : Request) (answer : ℕ) → answer ≢ ASYN → joins request answer ≡ false
not_joined request answer ne = by_test (waits request.options)
  where
    other : answer == ASYN ≡ false
    other = grind (arith, nat_tests)

    by_test : (b : Bool) → b && answer == ASYN ≡ false
    by_test true = other
    by_test false = refl

asked_jobs : (ticket : ManualState) (waiters : List Waiter) (spare : ℕ) (given : Given) (request : Request) → WaitForJob ticket.known waiters
    → LeavesJobs (manual_asked ticket waiters spare given request)
unfolding manual_asked
asked_jobs ticket waiters spare given request wait =
    always_then AnyAsk (IsBegunSo waiters) _ (done_by_hand ticket spare given request) _
    (does_so waiters (rules_of ticket) ticket.known.job
    (refused_by_hand ticket.setup ticket.known.view (is_some ticket.known.job) spare given.ready request.options request.wish)
    given.job request.wish given.now wait.idle
    (refused_so ticket.setup ticket.known.view (is_some ticket.known.job) spare given.ready request.options request.wish))
    (λ done so. always_then AnyAsk Any _ (manual_reply done.rules request done.answer) _ (all_any _) (λ said any. left done so))
  where
    by_join : (answer : ℕ) (b : Bool) (waiter : Waiter)
        → Has (if b then waiters ++ waiter_of (as_waiting request) ∷ [] else waiters) waiter → waiter.commit ≡ false
    by_join answer false waiter h = wait.uncommitted waiter h
    by_join answer true waiter h =
        ⊎_elim (λ (old : Has waiters waiter). wait.uncommitted waiter old)
        (λ (new : waiter_of (as_waiting request) ≡ waiter). ap (λ (x : Waiter). x.commit) (sym new) ∙ not_committed request)
        (in_either waiters (waiter_of (as_waiting request)) waiter h)

    left : (done : Begun) → IsBegunSo waiters done
        → WaitForJob (ticket_as done.rules ticket.known.greets_at done.running).known (joined (as_waiting request) done.answer waiters)
    left done so = record {
      uncommitted = λ waiter h. by_join done.answer (joins (as_waiting request) done.answer) waiter h;
      idle = λ e. let q = so e in when_false (joins (as_waiting request) done.answer) _ _ (not_joined (as_waiting request) done.answer q.1) ∙ q.0;
    }

pub manual_waiters_have_jobs : ManualWaitersHaveJobs
manual_waiters_have_jobs = record {
  starts = λ rec now. record { uncommitted = λ waiter h. absurd h; idle = λ e. refl };
  heard = heard_jobs;
  due = due_jobs;
  over = over_jobs;
  asked = asked_jobs;
  coming = comes;
}
  where
    comes : (known : ManualKnown) (waiters : List Waiter) → WaitForJob known waiters → (waiters ≡ []) ⊎ (is_some (manual_deadline known) ≡ true)
    comes known waiters wait = by_parts known.greets_at known.job wait.idle
      where
        by_parts : (greets : Option ℕ) (job : Option Job) → (job ≡ None → waiters ≡ [])
            → (waiters ≡ []) ⊎ (is_some (if is_some greets then greets else limit_of job) ≡ true)
        by_parts (Some at) job idle = inr refl
        by_parts None (Some job) idle = inr refl
        by_parts None None idle = inl (idle refl)
