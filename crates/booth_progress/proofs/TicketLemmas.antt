-- The calls of a ticket at a member that is behind a site, and at a leader.
use Rattle.std.proofs.Common.{◌≡◌, ◌≢◌, inl, inr, ℕ, ◌<◌, Bool, true, false, ◌&&◌, ◌||◌, not, arith, refl, sym, ◌∙◌, subst, if◌then◌else◌}
use Rattle.std.specs.Prelude.{List, Option, Some, None, nat_lt, ◌==◌}
use Rattle.booth_base.specs.Tree.{Deeds}
use Rattle.booth_base.specs.declared.address.MemberId.{MemberId}
use Rattle.booth_wire.specs.declared.codes.options.TheConstants.{WAIT}
use Rattle.booth_wire.specs.declared.codes.results.TheConstants.{BUSY, IARG, OVER, REDR, TIDL}
use Rattle.booth_wire.specs.declared.message.Setup.{Setup}
use Rattle.booth_raft.specs.declared.deed.Want.{Want}
use Rattle.booth_raft.specs.declared.deed.Want.TheVariants as wants
use Rattle.booth_raft.specs.declared.view.Role.{Role}
use Rattle.booth_raft.specs.declared.view.Role.TheVariants.{Follower, Working, Candidate, Leader}
use Rattle.booth_raft.specs.declared.view.View.{View}
use Rattle.booth_raft.specs.AskAndRenew.{renew}
use Rattle.booth_raft.specs.Deadlines.{due_now, greeted, is_silent}
use Rattle.booth_raft.specs.GainReleaseLost.{own_end}
use Rattle.booth_raft.specs.Members.{is_follower, is_leader, is_promised_elsewhere, is_working}
use Rattle.booth_raft.specs.Outcome.{Outcome}
use Rattle.booth_raft.specs.State.{Step, step}
use Rattle.booth_raft.proofs.FactsLemmas.{on_cond, on_test, untrue}
use Rattle.booth_ticket.specs.declared.handling.Service.{Service}
use Rattle.booth_ticket.specs.declared.request.Given.{Given}
use Rattle.booth_ticket.specs.declared.request.Request.{Request}
use Rattle.booth_ticket.specs.declared.request.Wish.{Wish}
use Rattle.booth_ticket.specs.declared.request.Wish.TheVariants.{Grant, Revoke}
use Rattle.booth_ticket.specs.declared.waiters.Waiter.{Waiter}
use Rattle.booth_ticket.specs.Acts.{Ask}
use Rattle.booth_ticket.specs.Automatic.{come_due, due_step, end_job, follow, role_due}
use Rattle.booth_ticket.specs.Handling.{is_job, renews_by}
use Rattle.booth_ticket.specs.Requests.{Answered, do_for, follow_request, grant, is_busy, is_holder, is_shown_elsewhere, refused_grant, refused_revoke, revoke}
use Rattle.booth_ticket.specs.Waiting.{waits}
use Rattle.booth_progress.specs.Behind.{BehindAfter, IsBehind}
use Rattle.booth_progress.specs.Kept.{AllKept}
use Rattle.booth_progress.specs.Leading.{IsLeading, IsToRenew, KeepsLease, LeadsOn, SendsAgain}
use Rattle.booth_progress.specs.Tickets.{TicketsKeepLeases, TicketsStayBehind}
use Rattle.booth_progress.specs.Written.{IsWritten, Leaves, Whenever, core_of}
use Rattle.booth_progress.proofs.BehindLemmas.{behind_alike, on_follower, elsewhere, members_stay_behind}
use Rattle.booth_progress.proofs.LeadingLemmas.{leaders_lead_on, leading_near}
use Rattle.booth_progress.proofs.OpeningLemmas.{leaders_open_rounds}
use Rattle.booth_progress.proofs.WrittenLemmas.{IsIts, Viewed, asked_leaves, due_leaves, heard_leaves, over_leaves}

-- ---- what is refused

abbrev IsRefused : Option ℕ → Type 0
IsRefused o = o ≡ None → ⊥

is_refused : (n : ℕ) → IsRefused (Some n)
is_refused n e = cc

grant_refused : (setup : Setup) (view : View) (spare : ℕ) (ready : Bool) (options now : ℕ) → is_busy setup view now ≡ true
    → IsRefused (refused_grant setup view spare ready options now)
grant_refused setup view spare ready options now busy =
    on_cond IsRefused (not setup.site || not (options == 0 || waits options)) _ _ (is_refused IARG)
    (on_cond IsRefused (is_holder setup view now) _ _ (is_refused _)
    (on_cond IsRefused (is_shown_elsewhere view.shown setup.me now) _ _ (is_refused OVER)
    (on_test IsRefused (is_busy setup view now) _ _ (λ yes. is_refused BUSY) (λ no. absurd (untrue (sym no ∙ busy))))))

revoke_refused : (setup : Setup) (view : View) (options now : ℕ) → (is_holder setup view now ≡ true → ⊥)
    → IsRefused (refused_revoke setup view options now)
revoke_refused setup view options now other =
    on_cond IsRefused (not (options == 0 || options == WAIT)) _ _ (is_refused IARG)
    (on_test IsRefused (is_holder setup view now) _ _ (λ yes. absurd (other yes))
    (λ no. on_cond IsRefused (not (is_follower view.role)) _ _ (is_refused BUSY)
    (on_cond IsRefused (is_shown_elsewhere view.shown setup.me now) _ _ (is_refused REDR) (is_refused TIDL))))

not_holder : (site runs : Bool) (role : Role) → is_follower role ≡ true → site && is_leader role && runs ≡ true → ⊥
not_holder true runs Follower f e = untrue e
not_holder false runs Follower f e = untrue e
not_holder site runs Working f e = untrue f
not_holder site runs Candidate f e = untrue f
not_holder site runs Leader f e = untrue f

promised_busy : (follows elsewhere_so silent : Bool) → elsewhere_so ≡ true → not follows || (elsewhere_so || silent) ≡ true
promised_busy true true silent e = refl
promised_busy true false silent e = absurd (untrue e)
promised_busy false other silent e = refl

leader_busy : (role : Role) (other : Bool) → is_leader role ≡ true → not (is_follower role) || other ≡ true
leader_busy Follower other e = absurd (untrue e)
leader_busy Working other e = absurd (untrue e)
leader_busy Candidate other e = absurd (untrue e)
leader_busy Leader other e = refl

-- what is refused changes nothing
module _ (setup : Setup) (view : View) (Holds : View → Type 0) (h : Holds view) where
  abbrev Answers : Answered → Type 0
  Answers done = (done.last.core.setup ≡ setup) × Holds done.last.core.view

  grant_so : (options : ℕ) (job : Option ℕ) (now : ℕ) (o : Option ℕ) → IsRefused o
      → Whenever IsWritten Answers (grant (core_of setup view) options o job now)
  grant_so options job now (Some result) refused = (refl, h)
  grant_so options job now None refused = absurd (refused refl)

  revoke_so : (now : ℕ) (o : Option ℕ) → IsRefused o → Whenever IsWritten Answers (revoke (core_of setup view) o now)
  revoke_so now (Some result) refused = (refl, h)
  revoke_so now None refused = absurd (refused refl)

-- ---- a member that is behind a site

not_working : (role : Role) → is_follower role ≡ true → is_working role ≡ true → ⊥
not_working Follower f e = untrue e
not_working Working f e = untrue f
not_working Candidate f e = untrue f
not_working Leader f e = untrue f

module _ (setup : Setup) (site : MemberId) (since term until : ℕ) (waiters : List Waiter) where
  abbrev Behind : ℕ → View → Type 0
  Behind now view = IsBehind site since term until now view

  behind_greeted : (view : View) (now : ℕ) → Behind now view → Behind now (greeted setup view)
  behind_greeted view now b =
      behind_alike site since term until now view (greeted setup view)
      (record { role = refl; round = refl; waiting = refl; abstain = refl; force = refl; promise = refl; term = refl; bound = refl }) b

  behind_over : (view : View) (job : ℕ) (service : Service) (now : ℕ) → Behind now view
      → Leaves setup (Behind now) (end_job (core_of setup view) waiters job service now)
  behind_over view job service now b =
      over_leaves setup (Behind now) waiters view job service now
      (on_cond (AllKept setup now (Viewed setup (Behind now) waiters)) (setup.site && is_job view.job job) _ _
      (on_follower (AllKept setup now (Viewed setup (Behind now) waiters)) view.role _ _ _ _ b.follows b) b)

  behind_due : (view : View) (given : Given) → given.now < until → setup.me ≢ site → Behind given.now view
      → Leaves setup (Behind given.now) (come_due (core_of setup view) waiters given)
  behind_due view given before other b =
      due_leaves setup (Behind given.now) waiters view given
      (on_test Goes (is_working view.role) _ _ (λ yes. absurd (not_working view.role b.follows yes))
      (λ no. subst (λ (w : Want). Goes (follow (due_step (core_of setup met) given.now) w given)) (sym rule.1) (refl, rule.0)))
    where
      met : View
      met = greeted setup view

      Goes : Deeds Ask Step → Type 0
      Goes deeds = Whenever IsWritten (IsIts setup given.now (AllKept setup given.now (Viewed setup (Behind given.now) waiters))) deeds

      rule : AllKept setup given.now (BehindAfter site since term until given.now) (due_now setup met given.now)
          × ((due_now setup met given.now).deed.want ≡ wants.Nothing)
      rule = members_stay_behind.due setup met site since term until given.now before other (behind_greeted view given.now b)

  behind_does : (view : View) (spare : ℕ) (given : Given) (options : ℕ) (wish : Wish) → given.now < until → setup.me ≢ site
      → Behind given.now view
      → Whenever IsWritten (λ (done : Answered). (done.last.core.setup ≡ setup) × Behind given.now done.last.core.view)
      (do_for (core_of setup view) spare given options wish)
  behind_does view spare given options Grant before other b =
      grant_so setup view (Behind given.now) b options given.job given.now
      (refused_grant setup view spare given.ready options given.now)
      (grant_refused setup view spare given.ready options given.now
      (promised_busy (is_follower view.role) (is_promised_elsewhere view.promise setup.me given.now) (is_silent setup view given.now)
      (elsewhere site since term until given.now view.promise setup.me before other b.promised)))
  behind_does view spare given options Revoke before other b =
      revoke_so setup view (Behind given.now) b given.now (refused_revoke setup view options given.now)
      (revoke_refused setup view options given.now
      (not_holder setup.site (nat_lt given.now (own_end view)) view.role b.follows))

pub tickets_stay_behind : TicketsStayBehind
tickets_stay_behind = record {
  heard = λ setup view waiters site since term until from head part now before lasts b fair.
      heard_leaves setup (IsBehind site since term until now) waiters view from head part now
      (members_stay_behind.heard setup view site since term until now from head part head.cmd before lasts b fair);
  due = λ setup view waiters site since term until given before other b. behind_due setup site since term until waiters view given before other b;
  over = λ setup view waiters site since term until job service now b. behind_over setup site since term until waiters view job service now b;
  asked = λ setup view waiters site since term until spare given request before other b.
      asked_leaves setup (IsBehind site since term until given.now) waiters view spare given request request.wish
      (behind_does setup site since term until waiters view spare given request.options request.wish before other b);
}

-- ---- a leader

pub leads_not_works : (role : Role) → is_leader role ≡ true → is_working role ≡ true → ⊥
leads_not_works Follower f e = untrue f
leads_not_works Working f e = untrue f
leads_not_works Candidate f e = untrue f
leads_not_works Leader f e = untrue e

no_job : (site : Bool) (running : Option ℕ) (job : ℕ) → running ≡ None → site && is_job running job ≡ true → ⊥
no_job true None job none e = untrue e
no_job false None job none e = untrue e
no_job site (Some number) job none e = absurd cc

module _ (setup : Setup) (waiters : List Waiter) where
  keeps_same : (view : View) (now : ℕ) → IsLeading setup now view → KeepsLease setup now view view
  keeps_same view now l = record { leading = l; longer = omega arith }

  abbrev Kept : View → ℕ → Outcome → Type 0
  Kept old now outcome = KeepsLease setup now old outcome.view

  -- the end of a handler, and a request that is no revoke, change nothing
  pub leading_over : (Holds : View → Type 0) (view : View) (job : ℕ) (service : Service) (now : ℕ) → IsLeading setup now view → Holds view
      → Leaves setup Holds (end_job (core_of setup view) waiters job service now)
  leading_over Holds view job service now l h =
      over_leaves setup Holds waiters view job service now
      (on_test (AllKept setup now (Viewed setup Holds waiters)) (setup.site && is_job view.job job) _ _
      (λ yes. absurd (no_job setup.site view.job job l.free yes)) (λ no. h))

  -- a step by the rule of the role, and then a renewal where one is wanted
  module _ (view : View) (given : Given) (no_handler : given.job ≡ None) (two : 1 < setup.members)
      (l : IsLeading setup given.now view) where
    abbrev met : View
    met = greeted setup view

    met_leads : IsLeading setup given.now met
    met_leads =
        leading_near setup given.now view met
        (record { role = refl; job = refl; waiting = refl; kept = refl; force = refl; round = refl; due = refl; above = omega arith; abstain = refl; promise = λ at h. h }) l

    abbrev Goes : Deeds Ask Step → Type 0
    Goes deeds = Whenever IsWritten (IsIts setup given.now (AllKept setup given.now (Kept view given.now))) deeds

    abbrev GoesOn : Outcome → Type 0
    GoesOn outcome = Goes (follow (step (core_of setup met) outcome) outcome.deed.want given)

    sent_again : (outcome : Outcome) → SendsAgain setup given.now met outcome → GoesOn outcome
    sent_again outcome sends =
        subst GoesOn (sym sends.sent) (refl, record { leading = sends.leading; longer = omega arith })

    renewed : AllKept setup given.now (Kept view given.now) (renew setup met given.now)
    renewed =
        let keeps : AllKept setup given.now (Kept met given.now) (renew setup met given.now) =
        leaders_open_rounds.kept setup met given.now two met_leads in
        record { leading = keeps.leading; longer = keeps.longer }

    renews : (job : Option ℕ) → job ≡ None → Goes (renews_by (core_of setup met) job given.now)
    renews None none = (refl, renewed)
    renews (Some job) none = absurd cc

    to_renew : (outcome : Outcome) → IsToRenew setup given.now met outcome → GoesOn outcome
    to_renew outcome wanted =
        subst GoesOn (sym wanted.wanted)
        (renews (if setup.site then given.job else None)
        (on_cond (λ (o : Option ℕ). o ≡ None) setup.site given.job None no_handler refl))

    role_leads : Goes (role_due (core_of setup met) given)
    role_leads =
        on_test Goes (is_working view.role) _ _ (λ yes. absurd (leads_not_works view.role l.leads yes))
        (λ no. elim (leaders_open_rounds.due setup met given.now met_leads) [
          | inl again ↦ sent_again (due_now setup met given.now) again
          | inr renewal ↦ to_renew (due_now setup met given.now) renewal
        ])

  leading_does : (Holds : View → Type 0) (view : View) (spare : ℕ) (given : Given) (options : ℕ) (wish : Wish) → wish ≢ Revoke
      → IsLeading setup given.now view → Holds view
      → Whenever IsWritten (λ (done : Answered). (done.last.core.setup ≡ setup) × Holds done.last.core.view)
      (do_for (core_of setup view) spare given options wish)
  leading_does Holds view spare given options Grant other l h =
      grant_so setup view Holds h options given.job given.now
      (refused_grant setup view spare given.ready options given.now)
      (grant_refused setup view spare given.ready options given.now
      (leader_busy view.role (is_promised_elsewhere view.promise setup.me given.now || is_silent setup view given.now) l.leads))
  leading_does Holds view spare given options Revoke other l h = absurd (other refl)

  pub leading_asked : (Holds : View → Type 0) (view : View) (spare : ℕ) (given : Given) (request : Request) → request.wish ≢ Revoke
      → IsLeading setup given.now view → Holds view
      → Leaves setup Holds (follow_request (core_of setup view) waiters spare given request request.wish)
  leading_asked Holds view spare given request other l h =
      asked_leaves setup Holds waiters view spare given request request.wish
      (leading_does Holds view spare given request.options request.wish other l h)

pub tickets_keep_leases : TicketsKeepLeases
tickets_keep_leases = record {
  heard = λ setup view waiters from head part now short l.
      heard_leaves setup (KeepsLease setup now view) waiters view from head part now
      (let on : LeadsOn setup now view _ = leaders_lead_on setup view now from head part head.cmd short l in
      record { leading = on.leading; longer = on.longer });
  due = λ setup view waiters given no_handler two l.
      due_leaves setup (KeepsLease setup given.now view) waiters view given
      (role_leads setup waiters view given no_handler two l);
  over = λ setup view waiters job service now l.
      leading_over setup waiters (KeepsLease setup now view) view job service now l (keeps_same setup waiters view now l);
  asked = λ setup view waiters spare given request other l.
      leading_asked setup waiters (KeepsLease setup given.now view) view spare given request other l
      (keeps_same setup waiters view given.now l);
}
