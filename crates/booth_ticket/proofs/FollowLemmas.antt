-- What the rule of a deadline wants may follow it.
use Rattle.std.proofs.Common.{◌≡◌, ℕ, Bool, true, false, ◌&&◌, refl, ap}
use Rattle.std.specs.Prelude.{None, nat_lt, nat_le, not, IsTrue, is_some}
use Rattle.booth_wire.specs.declared.message.Setup.{Setup}
use Rattle.booth_raft.specs.declared.view.Role.{Role}
use Rattle.booth_raft.specs.declared.view.Role.TheVariants.{Follower, Working, Candidate, Leader}
use Rattle.booth_raft.specs.declared.view.View.{View}
use Rattle.booth_raft.specs.Deadlines.{candidate_due, due_now, due_to_ask, follower_due, is_sent_again, is_silent, is_tried, leader_due, resends_or_renews, waits_or_acquires}
use Rattle.booth_raft.specs.GainReleaseLost.{own_end}
use Rattle.booth_raft.specs.Members.{is_promised_elsewhere, is_follower, is_leader}
use Rattle.booth_raft.specs.Messages.{shown_end}
use Rattle.booth_raft.specs.Outcome.{Outcome, quiet}
use Rattle.booth_raft.proofs.FactsLemmas.{on_cond, on_option, on_test}
use Rattle.booth_ticket.specs.Automatic.{MayFollow}

abbrev Fits : Setup → Outcome → Type 0
Fits setup outcome = MayFollow setup outcome.view outcome.deed.want

both_true : (a b : Bool) → a && b ≡ true → a ≡ true
both_true true b e = refl
both_true false b e = absurd (cc)

acquires : (setup : Setup) (view : View) (now : ℕ) → view.waiting ≡ None
    → IsTrue (is_follower view.role)
    → IsTrue setup.site → Fits setup (waits_or_acquires setup view now)
acquires setup view now idle follows site =
    on_cond (Fits setup) (nat_lt now (shown_end view.shown)) _ _ tt
    (on_cond (Fits setup) (is_silent setup view now) _ _ tt
    (on_cond (Fits setup) (is_promised_elsewhere view.promise setup.me now) _ _ tt
    (site, follows, idle)))

follower_fits : (setup : Setup) (view : View) (now : ℕ) → view.waiting ≡ None
    → IsTrue (is_follower view.role)
    → Fits setup (follower_due setup view now)
follower_fits setup view now idle follows =
    on_cond (Fits setup) (nat_lt 0 view.repeat) _ _ tt
    (on_test (Fits setup) (setup.site && view.managed) (waits_or_acquires setup view now)
    (quiet (record view { due = due_to_ask setup view now }))
    (λ e. acquires setup view now idle follows (both_true setup.site view.managed e)) (λ e. tt))

candidate_fits : (setup : Setup) (view : View) (now : ℕ) → Fits setup (candidate_due setup view now)
candidate_fits setup view now =
    on_option (Fits setup) view.round _ _ (λ none. tt)
    (λ round is. on_cond (Fits setup) (is_tried setup round now) _ _ tt tt)

renews : (setup : Setup) (view : View) (now : ℕ) → view.waiting ≡ None
    → IsTrue (is_leader view.role)
    → Fits setup (resends_or_renews setup view now)
renews setup view now idle leads =
    on_option (Fits setup) view.round _ _ (λ none. (leads, idle))
    (λ round is. on_cond (Fits setup) (is_sent_again setup view round now) _ _ tt
    (leads, idle))

leader_fits : (setup : Setup) (view : View) (now : ℕ) → view.waiting ≡ None
    → IsTrue (is_leader view.role)
    → Fits setup (leader_due setup view now)
leader_fits setup view now idle leads =
    on_cond (Fits setup) (nat_le (own_end view) now) _ _ tt
    (on_cond (Fits setup) (is_some view.job) _ _ tt (renews setup view now idle leads))

by_role : (setup : Setup) (view : View) (now : ℕ) (role : Role) → view.waiting ≡ None
    → view.role ≡ role
    → Fits setup (elim role [
      | Follower ↦ follower_due setup view now
      | Working ↦ quiet view
      | Candidate ↦ candidate_due setup view now
      | Leader ↦ leader_due setup view now
    ])
by_role setup view now Follower idle is = follower_fits setup view now idle (ap is_follower is)
by_role setup view now Working idle is = tt
by_role setup view now Candidate idle is = candidate_fits setup view now
by_role setup view now Leader idle is = leader_fits setup view now idle (ap is_leader is)

pub may_follow : (setup : Setup) (view : View) (now : ℕ) → view.waiting ≡ None
    → MayFollow setup (due_now setup view now).view (due_now setup view now).deed.want
may_follow setup view now idle = by_role setup view now view.role idle refl
