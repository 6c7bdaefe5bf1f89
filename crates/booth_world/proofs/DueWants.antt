-- What the rule of a deadline wants to follow may follow.
use Rattle.std.proofs.Common.{◌≡◌, ℕ, Bool, true, false, ◌&&◌, refl, ap, ◌∙◌, subst}
use Rattle.std.specs.Prelude.{None, not, is_some, nat_lt, nat_le, IsTrue}
use Rattle.booth_base.specs.Tree.{Ends}
use Rattle.booth_wire.specs.declared.message.Say.TheVariants as words
use Rattle.booth_wire.specs.declared.message.Setup.{Setup}
use Rattle.booth_raft.specs.declared.deed.Want.{Want}
use Rattle.booth_raft.specs.declared.deed.Want.TheVariants as wants
use Rattle.booth_raft.specs.declared.view.Role.{Role}
use Rattle.booth_raft.specs.declared.view.Role.TheVariants.{Follower, Working, Candidate, Leader}
use Rattle.booth_raft.specs.declared.view.View.{View}
use Rattle.booth_raft.specs.Deadlines.{due_now, is_tried, waits_or_acquires, follower_due, leader_due, resends_or_renews, candidate_due, is_sent_again, is_silent, due_to_ask}
use Rattle.booth_raft.specs.GainReleaseLost.{own_end}
use Rattle.booth_raft.specs.Members.{is_promised_elsewhere, is_follower, is_leader}
use Rattle.booth_raft.specs.Messages.{shown_end}
use Rattle.booth_raft.specs.Outcome.{Outcome, quiet}
use Rattle.booth_raft.proofs.FactsLemmas.{on_cond, on_option, on_test}
use Rattle.booth_ticket.specs.Saying.{say}
use Rattle.booth_world.specs.Turns.{keeps_of, says_last, says_of, deeds_of}

-- ---- what the rule of a deadline wants to follow

-- where something is to follow, nothing is kept or said, and it may follow
abbrev pub WantsWell : Setup → Outcome → Want → Type 0
WantsWell s outcome wants.Renew = (outcome.deed.keep ≡ None) × (outcome.deed.say ≡ words.Nothing) × IsTrue (is_leader outcome.view.role)
WantsWell s outcome wants.Acquire =
    (outcome.deed.keep ≡ None) × (outcome.deed.say ≡ words.Nothing) × IsTrue s.site × IsTrue (is_follower outcome.view.role)
WantsWell s outcome want = Unit {0}

abbrev Wants : Setup → Outcome → Type 0
Wants s outcome = WantsWell s outcome outcome.deed.want

pub both_true : (a b : Bool) → a && b ≡ true → a ≡ true
both_true true b e = refl
both_true false b e = absurd (cc)

acquires : (s : Setup) (view : View) (now : ℕ) → IsTrue (is_follower view.role) → IsTrue s.site → Wants s (waits_or_acquires s view now)
acquires s view now follows site =
    on_cond (Wants s) (nat_lt now (shown_end view.shown)) _ _ tt
    (on_cond (Wants s) (is_silent s view now) _ _ tt
    (on_cond (Wants s) (is_promised_elsewhere view.promise s.me now) _ _ tt (refl, refl, site, follows)))

follower_wants : (s : Setup) (view : View) (now : ℕ) → IsTrue (is_follower view.role) → Wants s (follower_due s view now)
follower_wants s view now follows =
    on_cond (Wants s) (nat_lt 0 view.repeat) _ _ tt
    (on_test (Wants s) (s.site && view.managed) (waits_or_acquires s view now) (quiet (record view { due = due_to_ask s view now }))
    (λ e. acquires s view now follows (both_true s.site view.managed e)) (λ e. tt))

candidate_wants : (s : Setup) (view : View) (now : ℕ) → Wants s (candidate_due s view now)
candidate_wants s view now =
    on_option (Wants s) view.round _ _ (λ none. tt) (λ round is. on_cond (Wants s) (is_tried s round now) _ _ tt tt)

renews : (s : Setup) (view : View) (now : ℕ) → IsTrue (is_leader view.role) → Wants s (resends_or_renews s view now)
renews s view now leads =
    on_option (Wants s) view.round _ _ (λ none. (refl, refl, leads))
    (λ round is. on_cond (Wants s) (is_sent_again s view round now) _ _ tt (refl, refl, leads))

leader_wants : (s : Setup) (view : View) (now : ℕ) → IsTrue (is_leader view.role) → Wants s (leader_due s view now)
leader_wants s view now leads =
    on_cond (Wants s) (nat_le (own_end view) now) _ _ tt
    (on_cond (Wants s) (is_some view.job) _ _ tt (renews s view now leads))

pub by_role : (s : Setup) (view : View) (now : ℕ) (role : Role) → view.role ≡ role
    → Wants s (elim role [
      | Follower ↦ follower_due s view now
      | Working ↦ quiet view
      | Candidate ↦ candidate_due s view now
      | Leader ↦ leader_due s view now
    ])
by_role s view now Follower is = follower_wants s view now (ap is_follower is)
by_role s view now Working is = tt
by_role s view now Candidate is = candidate_wants s view now
by_role s view now Leader is = leader_wants s view now (ap is_leader is)

pub wants_well : (s : Setup) (view : View) (now : ℕ) → Wants s (due_now s view now)
wants_well s view now = by_role s view now view.role refl

wants_this : (s : Setup) (outcome : Outcome) (want : Want) → outcome.deed.want ≡ want → Wants s outcome → WantsWell s outcome want
wants_this s outcome want is w = subst (λ (x : Want). WantsWell s outcome x) is w

pub never_both : (b : Bool) → b ≡ true → b ≡ false → ⊥
never_both b holds_now fails_now = cc

-- where nothing is kept or said, the view is all that is left
pub no_deeds : (s : Setup) (now : ℕ) (outcome : Outcome) → outcome.deed.keep ≡ None → outcome.deed.say ≡ words.Nothing
    → deeds_of s now outcome ≡ Ends outcome.view
no_deeds s now outcome none nothing =
    ap (λ keep. keeps_of s now keep outcome (λ second. keeps_of s now second.deed.keep second (says_last s))) none
    ∙ ap (λ keep. keeps_of s now keep outcome (says_last s)) none
    ∙ ap (λ said_words. says_of s said_words (Ends outcome.view)) nothing
