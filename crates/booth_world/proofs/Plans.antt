-- What a turn calls of a ticket's core, as plans.
use Rattle.std.proofs.Common.{◌≡◌, ℕ, zero, suc, ◌+◌, ◌<◌, Bool, true, false, ◌&&◌, List, [], ◌∷◌, ap, ◌∙◌, arith}
use Rattle.std.specs.Prelude.{Option, Some, None, if◌then◌else◌, nat_le}
use Rattle.booth_wire.specs.declared.codes.reasons.TheConstants.{ADMN, TLST, LOCF, RACQ}
use Rattle.booth_wire.specs.declared.message.Setup.{Setup}
use Rattle.booth_raft.specs.declared.deed.Note.TheVariants as notes
use Rattle.booth_raft.specs.declared.deed.Want.{Want}
use Rattle.booth_raft.specs.declared.deed.Want.TheVariants as wants
use Rattle.booth_raft.specs.declared.view.Role.{Role}
use Rattle.booth_raft.specs.declared.view.Role.TheVariants.{Follower, Working, Candidate, Leader}
use Rattle.booth_raft.specs.declared.view.View.{View}
use Rattle.booth_raft.specs.AskAndRenew.{are_terms_spent}
use Rattle.booth_raft.specs.Deadlines.{due_now}
use Rattle.booth_raft.specs.GainReleaseLost.{own_end}
use Rattle.booth_raft.specs.Members.{is_promised_elsewhere, is_working}
use Rattle.booth_ticket.specs.declared.request.Request.{Request}
use Rattle.booth_ticket.specs.declared.request.Wish.{Wish}
use Rattle.booth_ticket.specs.declared.request.Wish.TheVariants.{Grant, Revoke}
use Rattle.booth_ticket.specs.declared.handling.Service.{Service}
use Rattle.booth_ticket.specs.declared.handling.Service.TheVariants.{CanRun, CannotRun}
use Rattle.booth_ticket.specs.Handling.{is_job}
use Rattle.booth_ticket.specs.Requests.{refused_grant, refused_revoke}
use Rattle.booth_world.specs.Rules.{Asks, Greets, MeetsDeadline, MakesNote, RenewsLease, GivesBack}
use Rattle.booth_world.specs.Turns.{Plan, Calls, Waits, plan_tree}
use Rattle.booth_world.proofs.Mirrors.{later}

-- ---- plans

-- A number below `most`, as answers tell it, since a plan is made before the number of a job is known: one answer for
-- each one that is counted, and then one that ends.
abbrev pub counts : ℕ → ℕ → (ℕ → Plan) → Plan
counts zero number go = go number
counts (suc most) number go = Waits (λ more. if more then counts most (number + 1) go else go number)

abbrev pub counted_by : ℕ → List Bool
counted_by zero = false ∷ []
counted_by (suc number) = true ∷ counted_by number

pub counted_from : (s : Setup) (now : ℕ) (view : View) (go : ℕ → Plan) (most number from : ℕ) → number < most
    → later (counted_by number) (plan_tree s now view (counts most from go)) ≡ plan_tree s now view (go (from + number))
counted_from s now view go zero number from below = absurd (omega (arith, below))
counted_from s now view go (suc most) zero from below = ap (λ (n : ℕ). plan_tree s now view (go n)) (omega arith)
counted_from s now view go (suc most) (suc number) from below =
    counted_from s now view go most number (from + 1) (omega (arith, below)) ∙ ap (λ (n : ℕ). plan_tree s now view (go n)) (omega arith)

-- a job was started, and its number is told; or it was not
abbrev pub job_plan : ℕ → (ℕ → Plan) → Plan → Bool → Plan
job_plan most starts fails true = counts most 0 starts
job_plan most starts fails false = fails

-- a new term is asked for, or none is left
abbrev pub asks_plan : ℕ → (View → Plan) → View → Plan
asks_plan reason go view = if are_terms_spent view then Calls (MakesNote notes.AskFailed) go else Calls (Asks reason) go

-- the ticket is acquired: its handler is started first, where it has one
abbrev pub acquire_plan : ℕ → Option (List ℕ) → ℕ → (View → Plan) → View → Plan
acquire_plan most None reason go view = asks_plan reason go view
acquire_plan most (Some handler) reason go view =
    Waits (job_plan most (λ job. Calls (MakesNote (notes.JobStarted job reason)) go) (Calls (MakesNote notes.HandlerFailed) go))

-- the lease is renewed: the handler is started first, where there is one
abbrev pub renews_plan : ℕ → Option (List ℕ) → (View → Plan) → Plan
renews_plan most None go = Calls RenewsLease go
renews_plan most (Some handler) go =
    Waits (job_plan most (λ job. Calls (MakesNote (notes.JobStarted job RACQ)) go) (Calls (GivesBack LOCF) go))

abbrev pub renew_plan : Setup → ℕ → Option (List ℕ) → (View → Plan) → View → Plan
renew_plan s most handler go view = renews_plan most (if s.site then handler else None) go

-- the ticket is taken over where its prerequisites hold, and else it is noted that they do not
abbrev pub take_over_plan : ℕ → Bool → Option (List ℕ) → (View → Plan) → View → Plan
take_over_plan most ready handler go view =
    if ready then acquire_plan most handler TLST go view else Calls (MakesNote notes.Unready) go

abbrev pub want_plan : Setup → ℕ → Bool → Option (List ℕ) → (View → Plan) → Want → Plan
want_plan s most ready handler go wants.Nothing = Calls MeetsDeadline go
want_plan s most ready handler go wants.Renew = Calls MeetsDeadline (renew_plan s most handler go)
want_plan s most ready handler go wants.Acquire = Calls MeetsDeadline (take_over_plan most ready handler go)

-- the rule of the role at its deadline
abbrev pub role_plan : Setup → ℕ → ℕ → Bool → Option (List ℕ) → (View → Plan) → View → Plan
role_plan s now most ready handler go view =
    if is_working view.role
    then Calls (MakesNote notes.HandlerFailed) go
    else want_plan s most ready handler go (due_now s view now).deed.want

-- the deadline has come: hello, and then the rule of the role
abbrev pub due_plan : Setup → ℕ → ℕ → Bool → Option (List ℕ) → (View → Plan) → Plan
due_plan s now most ready handler go = Calls Greets (role_plan s now most ready handler go)

-- a client's request is refused, or followed
abbrev pub grant_plan : ℕ → Option (List ℕ) → (View → Plan) → View → Option ℕ → Plan
grant_plan most handler go view (Some result) = go view
grant_plan most handler go view None = Calls (MakesNote notes.Asked) (acquire_plan most handler ADMN go)

abbrev pub revoke_plan : (View → Plan) → View → Option ℕ → Plan
revoke_plan go view (Some result) = go view
revoke_plan go view None = Calls (GivesBack ADMN) go

abbrev pub wish_plan : Setup → ℕ → ℕ → ℕ → Bool → Option (List ℕ) → Request → (View → Plan) → View → Wish → Plan
wish_plan s now most spare ready handler request go view Grant =
    grant_plan most handler go view (refused_grant s view spare ready request.options now)
wish_plan s now most spare ready handler request go view Revoke = revoke_plan go view (refused_revoke s view request.options now)

abbrev pub ask_plan : Setup → ℕ → ℕ → ℕ → Bool → Option (List ℕ) → Request → (View → Plan) → View → Plan
ask_plan s now most spare ready handler request go view = wish_plan s now most spare ready handler request go view request.wish

-- a job before an acquisition is over
abbrev pub works_on_plan : Setup → ℕ → Service → (View → Plan) → View → Plan
works_on_plan s now CanRun go view =
    if is_promised_elsewhere view.promise s.me now
    then Calls (MakesNote notes.AskFailed) go
    else asks_plan view.reason go view
works_on_plan s now CannotRun go view = Calls (MakesNote notes.HandlerFailed) go

-- a job before a renewal is over
abbrev pub goes_on_plan : Service → (View → Plan) → Plan
goes_on_plan CanRun go = Calls RenewsLease go
goes_on_plan CannotRun go = Calls (GivesBack LOCF) go

abbrev pub leads_plan : ℕ → Service → (View → Plan) → View → Plan
leads_plan now service go view = if nat_le (own_end view) now then Calls MeetsDeadline go else goes_on_plan service go

abbrev pub by_role_plan : Setup → ℕ → Service → (View → Plan) → View → Role → Plan
by_role_plan s now service go view Follower = go view
by_role_plan s now service go view Working = works_on_plan s now service go view
by_role_plan s now service go view Candidate = go view
by_role_plan s now service go view Leader = Calls (MakesNote notes.JobOver) (leads_plan now service go)

-- a job is over: this ticket's, or another
abbrev pub over_plan : Setup → ℕ → ℕ → Service → (View → Plan) → View → Plan
over_plan s now job service go view =
    if s.site && is_job view.job job then by_role_plan s now service go view view.role else go view
