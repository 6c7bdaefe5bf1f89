-- Each call of a ticket's plan may be made.
use Rattle.std.proofs.Common.{◌≡◌, ℕ, zero, suc, ◌+◌, Bool, true, false, ◌&&◌, ◌||◌, List, refl, sym, ap, subst}
use Rattle.std.specs.Prelude.{Option, Some, None, ◌==◌, not, if◌then◌else◌, is_some, nat_lt, nat_le, IsTrue}
use Rattle.booth_base.specs.Tree.{Ends, Does}
use Rattle.booth_wire.specs.declared.codes.reasons.TheConstants.{ADMN, TLST, LOCF, RACQ}
use Rattle.booth_wire.specs.declared.codes.options.TheConstants.{WAIT}
use Rattle.booth_wire.specs.declared.codes.results.TheConstants.{IARG, OVER, BUSY, REDR, TIDL}
use Rattle.booth_wire.specs.declared.message.Setup.{Setup}
use Rattle.booth_raft.specs.declared.deed.Note.{Note}
use Rattle.booth_raft.specs.declared.deed.Note.TheVariants as notes
use Rattle.booth_raft.specs.declared.deed.Want.{Want}
use Rattle.booth_raft.specs.declared.deed.Want.TheVariants as wants
use Rattle.booth_raft.specs.declared.view.Role.{Role}
use Rattle.booth_raft.specs.declared.view.Role.TheVariants.{Follower, Working, Candidate, Leader}
use Rattle.booth_raft.specs.declared.view.View.{View}
use Rattle.booth_raft.specs.AskAndRenew.{are_terms_spent, ask}
use Rattle.booth_raft.specs.Deadlines.{due_now, is_silent}
use Rattle.booth_raft.specs.GainReleaseLost.{own_end}
use Rattle.booth_raft.specs.Members.{is_promised_elsewhere, is_follower, is_leader, is_working}
use Rattle.booth_raft.specs.Notes.{MayNote, noted}
use Rattle.booth_raft.proofs.FactsLemmas.{on_cond, on_test}
use Rattle.booth_ticket.specs.declared.request.Request.{Request}
use Rattle.booth_ticket.specs.declared.request.Wish.{Wish}
use Rattle.booth_ticket.specs.declared.request.Wish.TheVariants.{Grant, Revoke}
use Rattle.booth_ticket.specs.declared.handling.Service.{Service}
use Rattle.booth_ticket.specs.declared.handling.Service.TheVariants.{CanRun, CannotRun}
use Rattle.booth_ticket.specs.Handling.{is_job}
use Rattle.booth_ticket.specs.Requests.{is_busy, is_holder, is_shown_elsewhere, refused_grant, refused_revoke}
use Rattle.booth_ticket.specs.Waiting.{waits}
use Rattle.booth_world.specs.Rules.{Asks, Greets, MeetsDeadline, MakesNote, RenewsLease, GivesBack}
use Rattle.booth_world.specs.Turns.{TurnTree, call_tree, Plan, Calls, Waits, LeavesAlways, MayPlan}
use Rattle.booth_world.proofs.DueWants.{WantsWell, both_true, wants_well, no_deeds}
use Rattle.booth_world.proofs.Plans.{counts, job_plan, asks_plan, acquire_plan, renews_plan, renew_plan, take_over_plan, want_plan, role_plan, due_plan, grant_plan, revoke_plan, wish_plan, ask_plan, works_on_plan, goes_on_plan, leads_plan, by_role_plan, over_plan}

-- ---- each call may be made

pub always : (P : View → Type 0) (tree : TurnTree) → ((view : View) → P view) → LeavesAlways P tree
always P (Ends view) so = so view
always P (Does ask go) so = λ ok. always P (go ok) so

either_true : (a b : Bool) → b ≡ true → a || b ≡ true
either_true true b e = refl
either_true false b e = e

first_true : (a b : Bool) → a ≡ true → a || b ≡ true
first_true true b e = refl
first_true false b e = absurd cc

not_refused : (b : Bool) (x : ℕ) (r : Option ℕ) → (if b then Some x else r) ≡ None → (b ≡ false) × (r ≡ None)
not_refused true x r e = absurd cc
not_refused false x r e = (refl, e)

first_false : (a b : Bool) → not a || b ≡ false → a ≡ true
first_false true b e = refl
first_false false b e = absurd cc

holds : (b : Bool) (r : Option ℕ) → (if b then None else r) ≡ None → (r ≡ None → ⊥) → b ≡ true
holds true r e never = refl
holds false r e never = absurd (never e)

never_none : (a b : Bool) → (if a then Some BUSY else (if b then Some REDR else Some TIDL)) ≡ None → ⊥
never_none true b e = cc
never_none false true e = cc
never_none false false e = cc

module _ (s : Setup) (now most : ℕ) where
  abbrev MayGoOn : (View → Plan) → Type 0
  MayGoOn go = (view : View) → MayPlan s now view (go view)

  -- a note is made, and then this
  notes_may : (note : Note) (go : View → Plan) (view : View) → MayGoOn go → MayNote view note → MayPlan s now view (Calls (MakesNote note) go)
  notes_may note go view may noting = (noting, always (λ left. MayPlan s now left (go left)) (call_tree s now view (MakesNote note)) may)

  gives_back_may : (reason : ℕ) (go : View → Plan) (view : View) → MayGoOn go → IsTrue s.site → MayPlan s now view (Calls (GivesBack reason) go)
  gives_back_may reason go view may site = (site, always (λ left. MayPlan s now left (go left)) (call_tree s now view (GivesBack reason)) may)

  renews_lease_may : (go : View → Plan) (view : View) → MayGoOn go → IsTrue (is_leader view.role) → MayPlan s now view (Calls RenewsLease go)
  renews_lease_may go view may leads = (leads, always (λ left. MayPlan s now left (go left)) (call_tree s now view RenewsLease) may)

  counts_may : (bound number : ℕ) (go : ℕ → Plan) (view : View) → ((n : ℕ) → MayPlan s now view (go n)) → MayPlan s now view (counts bound number go)
  counts_may zero number go view may = may number
  counts_may (suc bound) number go view may =
      λ more. on_cond (MayPlan s now view) more (counts bound (number + 1) go) (go number) (counts_may bound (number + 1) go view may) (may number)

  job_may : (starts : ℕ → Plan) (fails : Plan) (view : View) → ((n : ℕ) → MayPlan s now view (starts n)) → MayPlan s now view fails
      → MayPlan s now view (Waits (job_plan most starts fails))
  job_may starts fails view may_start may_fail = λ ok. by_answer ok
    where
      by_answer : (ok : Bool) → MayPlan s now view (job_plan most starts fails ok)
      by_answer true = counts_may most 0 starts view may_start
      by_answer false = may_fail

  asks_may : (reason : ℕ) (go : View → Plan) (view : View) → MayGoOn go → IsTrue s.site → IsTrue (is_follower view.role || is_working view.role)
      → MayPlan s now view (asks_plan reason go view)
  asks_may reason go view may site rests =
      on_cond (MayPlan s now view) (are_terms_spent view) _ _
      (notes_may notes.AskFailed go view may rests)
      (site, always (λ left. MayPlan s now left (go left)) (call_tree s now view (Asks reason)) may)

  acquire_may : (handler : Option (List ℕ)) (reason : ℕ) (go : View → Plan) (view : View) → MayGoOn go → IsTrue s.site → IsTrue (is_follower view.role)
      → MayPlan s now view (acquire_plan most handler reason go view)
  acquire_may None reason go view may site follows =
      asks_may reason go view may site (first_true (is_follower view.role) (is_working view.role) follows)
  acquire_may (Some handler) reason go view may site follows =
      job_may (λ job. Calls (MakesNote (notes.JobStarted job reason)) go) (Calls (MakesNote notes.HandlerFailed) go) view
      (λ job. notes_may (notes.JobStarted job reason) go view may (first_true (is_follower view.role) (is_leader view.role) follows))
      (notes_may notes.HandlerFailed go view may (first_true (is_follower view.role) (is_working view.role) follows))

  renew_may : (handler : Option (List ℕ)) (go : View → Plan) (view : View) → MayGoOn go → IsTrue (is_leader view.role)
      → MayPlan s now view (renew_plan s most handler go view)
  renew_may handler go view may leads =
      on_test (λ (h : Option (List ℕ)). MayPlan s now view (renews_plan most h go)) s.site handler None (λ site. by_handler handler site)
      (λ arbitrates. renews_lease_may go view may leads)
    where
      by_handler : (h : Option (List ℕ)) → s.site ≡ true → MayPlan s now view (renews_plan most h go)
      by_handler None site = renews_lease_may go view may leads
      by_handler (Some words_of) site =
          job_may (λ job. Calls (MakesNote (notes.JobStarted job RACQ)) go) (Calls (GivesBack LOCF) go) view
          (λ job. notes_may (notes.JobStarted job RACQ) go view may (either_true (is_follower view.role) (is_leader view.role) leads))
          (gives_back_may LOCF go view may site)

  take_over_may : (ready : Bool) (handler : Option (List ℕ)) (go : View → Plan) (view : View) → MayGoOn go → IsTrue s.site → IsTrue (is_follower view.role)
      → MayPlan s now view (take_over_plan most ready handler go view)
  take_over_may ready handler go view may site follows =
      on_cond (MayPlan s now view) ready _ _ (acquire_may handler TLST go view may site follows) (notes_may notes.Unready go view may follows)

  want_may : (ready : Bool) (handler : Option (List ℕ)) (go : View → Plan) (view : View) (want : Want) → MayGoOn go → WantsWell s (due_now s view now) want
      → MayPlan s now view (want_plan s most ready handler go want)
  want_may ready handler go view wants.Nothing may w = (tt, always (λ left. MayPlan s now left (go left)) (call_tree s now view MeetsDeadline) may)
  want_may ready handler go view wants.Renew may w = (
    tt,
    subst (λ (t : TurnTree). LeavesAlways (λ left. MayPlan s now left (renew_plan s most handler go left)) t)
        (sym (no_deeds s now (due_now s view now) w.0 w.1))
        (renew_may handler go (due_now s view now).view may w.2),
  )
  want_may ready handler go view wants.Acquire may w = (
    tt,
    subst (λ (t : TurnTree). LeavesAlways (λ left. MayPlan s now left (take_over_plan most ready handler go left)) t)
        (sym (no_deeds s now (due_now s view now) w.0 w.1))
        (take_over_may ready handler go (due_now s view now).view may w.2 w.3),
  )

  role_may : (ready : Bool) (handler : Option (List ℕ)) (go : View → Plan) → MayGoOn go → MayGoOn (role_plan s now most ready handler go)
  role_may ready handler go may view =
      on_test (MayPlan s now view) (is_working view.role) (Calls (MakesNote notes.HandlerFailed) go)
      (want_plan s most ready handler go (due_now s view now).deed.want)
      (λ e. notes_may notes.HandlerFailed go view may (either_true (is_follower view.role) (is_working view.role) e))
      (λ e. want_may ready handler go view (due_now s view now).deed.want may (wants_well s view now))

  pub due_may : (ready : Bool) (handler : Option (List ℕ)) (go : View → Plan) (view : View) → MayGoOn go
      → MayPlan s now view (due_plan s now most ready handler go)
  due_may ready handler go view may = (
    tt,
    always (λ left. MayPlan s now left (role_plan s now most ready handler go left)) (call_tree s now view Greets) (role_may ready handler go may),
  )

  grant_may : (handler : Option (List ℕ)) (go : View → Plan) (view : View) (spare : ℕ) (ready : Bool) (request : Request) (result : Option ℕ) → MayGoOn go
      → refused_grant s view spare ready request.options now ≡ result → MayPlan s now view (grant_plan most handler go view result)
  grant_may handler go view spare ready request (Some result) may is = may view
  grant_may handler go view spare ready request None may is =
      let site = not_refused (not s.site || not (request.options == 0 || waits request.options)) IARG _ is in
      let other = not_refused (is_holder s view now) _ _ site.1 in
      let open_now = not_refused (is_shown_elsewhere view.shown s.me now) OVER _ other.1 in
      let idle = not_refused (is_busy s view now) BUSY _ open_now.1 in
      let follows : is_follower view.role ≡ true =
      first_false (is_follower view.role) (is_promised_elsewhere view.promise s.me now || is_silent s view now) idle.0 in
      (follows, acquire_may handler ADMN go (noted s view now notes.Asked) may (first_false s.site (not (request.options == 0 || waits request.options)) site.0) follows)

  revoke_may : (go : View → Plan) (view : View) (request : Request) (result : Option ℕ) → MayGoOn go
      → refused_revoke s view request.options now ≡ result → MayPlan s now view (revoke_plan go view result)
  revoke_may go view request (Some result) may is = may view
  revoke_may go view request None may is =
      let asks = not_refused (not (request.options == 0 || request.options == WAIT)) IARG _ is in (
        both_true s.site (is_leader view.role) (both_true (s.site && is_leader view.role) (nat_lt now (own_end view))
            (holds (is_holder s view now) _ asks.1
            (λ e. never_none (not (is_follower view.role)) (is_shown_elsewhere view.shown s.me now) e))),
        always (λ left. MayPlan s now left (go left)) (call_tree s now view (GivesBack ADMN)) may,
      )

  pub ask_may : (spare : ℕ) (ready : Bool) (handler : Option (List ℕ)) (request : Request) (go : View → Plan) → MayGoOn go
      → MayGoOn (ask_plan s now most spare ready handler request go)
  ask_may spare ready handler request go may view = by_wish request.wish
    where
      by_wish : (w : Wish) → MayPlan s now view (wish_plan s now most spare ready handler request go view w)
      by_wish Grant = grant_may handler go view spare ready request (refused_grant s view spare ready request.options now) may refl
      by_wish Revoke = revoke_may go view request (refused_revoke s view request.options now) may refl

  works_on_may : (service : Service) (go : View → Plan) (view : View) → MayGoOn go → IsTrue s.site → IsTrue (is_working view.role)
      → MayPlan s now view (works_on_plan s now service go view)
  works_on_may CanRun go view may site works_now =
      on_cond (MayPlan s now view) (is_promised_elsewhere view.promise s.me now) _ _
      (notes_may notes.AskFailed go view may (either_true (is_follower view.role) (is_working view.role) works_now))
      (asks_may view.reason go view may site (either_true (is_follower view.role) (is_working view.role) works_now))
  works_on_may CannotRun go view may site works_now =
      notes_may notes.HandlerFailed go view may (either_true (is_follower view.role) (is_working view.role) works_now)

  goes_on_may : (service : Service) (go : View → Plan) (view : View) → MayGoOn go → IsTrue s.site → IsTrue (is_leader view.role)
      → MayPlan s now view (goes_on_plan service go)
  goes_on_may CanRun go view may site leads = renews_lease_may go view may leads
  goes_on_may CannotRun go view may site leads = gives_back_may LOCF go view may site

  leads_may : (service : Service) (go : View → Plan) (view : View) → MayGoOn go → IsTrue s.site → IsTrue (is_leader view.role)
      → MayPlan s now view (leads_plan now service go view)
  leads_may service go view may site leads =
      on_cond (MayPlan s now view) (nat_le (own_end view) now) _ _
      (tt, always (λ left. MayPlan s now left (go left)) (call_tree s now view MeetsDeadline) may)
      (goes_on_may service go view may site leads)

  has_job : (job : Option ℕ) (number : ℕ) → is_job job number ≡ true → is_some job ≡ true
  has_job None number e = absurd cc
  has_job (Some n) number e = refl

  second_true : (a b : Bool) → a && b ≡ true → b ≡ true
  second_true true b e = e
  second_true false b e = absurd cc

  pub over_may : (job : ℕ) (service : Service) (go : View → Plan) → MayGoOn go → MayGoOn (over_plan s now job service go)
  over_may job service go may view =
      on_test (MayPlan s now view) (s.site && is_job view.job job) (by_role_plan s now service go view view.role) (go view)
      (λ e. by_role_may (both_true s.site (is_job view.job job) e) (has_job view.job job (second_true s.site (is_job view.job job) e)) view.role refl)
      (λ e. may view)
    where
      by_role_may : s.site ≡ true → is_some view.job ≡ true → (role : Role) → view.role ≡ role → MayPlan s now view (by_role_plan s now service go view role)
      by_role_may site runs Follower is = may view
      by_role_may site runs Working is = works_on_may service go view may site (ap is_working is)
      by_role_may site runs Candidate is = may view
      by_role_may site runs Leader is = (runs, leads_may service go (noted s view now notes.JobOver) may site (ap is_leader is))
