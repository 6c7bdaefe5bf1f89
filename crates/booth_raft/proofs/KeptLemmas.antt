-- Ask, release, renew, and what the answer of a keep leads to, leave what is true of every view.
use Rattle.std.proofs.Common.{◌≡◌, ℕ, ◌+◌, ◌<◌, ◌^◌, Bool, true, false, ◌||◌, Some, None, refl, sym, ◌∙◌, subst}
use Rattle.std.specs.Prelude.{◌==◌, ◌&&◌}
use Rattle.booth_rec.specs.declared.record.Record.{Record}
use Rattle.booth_wire.specs.declared.message.Setup.{Setup}
use Rattle.booth_wire.specs.declared.codes.reasons.TheConstants.{SPLT, RACQ}
use Rattle.booth_raft.specs.declared.view.Round.{Round}
use Rattle.booth_raft.specs.declared.view.TheConstants.{LAST_NUMBER}
use Rattle.booth_raft.specs.declared.view.Rule.{Rule}
use Rattle.booth_raft.specs.declared.view.Rule.TheVariants as rules
use Rattle.booth_raft.specs.declared.view.View.{View}
use Rattle.booth_raft.specs.Facts.{RoundFits, TriesOf, ViewFacts}
use Rattle.booth_raft.specs.AskAndRenew.{acquisition_failed, answers_itself, are_terms_spent, ask, asking, finish_renewal, with_own_promise, renew_in_term, finish_ask, asked_all, goes_on, in_next_term, finish, needs_term, new_round, begin_round, own_answer, promised_itself, renew, renew_by_term, runs_out, with_round}
use Rattle.booth_raft.specs.GainReleaseLost.{finish_gain, release, finish_release, released, finish_round_end, round_ends, unreleased, without_round}
use Rattle.booth_raft.specs.Members.{is_candidate, is_leader, is_majority}
use Rattle.booth_raft.proofs.FactsLemmas.{on_cond, on_option, on_test, some_same, no_round, Same, fits_same, Good, quiet_good, saying_good, keeping_good}
use Rattle.booth_raft.proofs.HeardLemmas.{gain_good}

-- ---- what asks for a keep

-- no round is open while a term is asked for, and the record is as it was
record IsAsking (view after : View) : Type 0 where
  round : after.round ≡ None
  kept : after.kept ≡ view.kept

asking_rests : (setup : Setup) (view : View) (reason now : ℕ) → IsAsking view (asking setup view reason now)
asking_rests setup view reason now =
    on_cond (IsAsking view) setup.second _ _
    (on_cond (IsAsking view) (answers_itself setup (in_next_term view reason) now) _ _
    (record { round = refl; kept = refl })
    (record { round = refl; kept = refl }))
    (record { round = refl; kept = refl })

pub ask_good : (setup : Setup) (view : View) (reason now : ℕ) → Good setup now (ask setup view reason now)
ask_good setup view reason now =
    let rests = asking_rests setup view reason now in
    keeping_good setup now (asking setup view reason now) _ _ (rw rests.round (no_round _ _)) (rests.round, rw rests.kept refl)

pub release_good : (setup : Setup) (view : View) (reason now : ℕ) → RoundFits view.term view.role view.round → Good setup now (release setup view reason now)
release_good setup view reason now fits = keeping_good setup now view _ _ fits refl

pub round_ends_good : (setup : Setup) (view : View) (now : ℕ) → Good setup now (round_ends setup view now)
round_ends_good setup view now = keeping_good setup now (without_round view) _ _ (no_round _ _) refl

-- ---- a round is opened

-- an open round of the view's term, opened now, at a leader or a candidate
asked_all_good : (setup : Setup) (view : View) (round : Round) (now : ℕ) → now < 2 ^ 62 → view.round ≡ Some round
    → round.term ≡ view.term → round.opened ≡ now
    → RoundFits (asked_all setup view now).term (asked_all setup view now).role (asked_all setup view now).round
asked_all_good setup view round now early is_round own at_now =
    let own_term : (r : Round) → view.round ≡ Some r → r.term ≡ view.term =
    λ r e. subst (λ (r : Round). r.term ≡ view.term) (some_same (sym is_round ∙ e)) own in
    let at_reading : (r : Round) → view.round ≡ Some r → r.opened < 2 ^ 62 =
    λ r e. subst (λ (r : Round). r.opened < 2 ^ 62) (some_same (sym is_round ∙ e)) (rw at_now early) in
    on_test (λ (w : View). RoundFits w.term w.role w.round) (is_leader view.role) _ _
    (λ leads. record { active = λ r e. rw leads (or_true (is_candidate view.role)); own_term = own_term; at_reading = at_reading })
    (λ follows. record { active = λ r e. refl; own_term = own_term; at_reading = at_reading })
  where
    or_true : (b : Bool) → b || true ≡ true
    or_true true = refl
    or_true false = refl

asked_all_waiting : (setup : Setup) (view : View) (now : ℕ) → (asked_all setup view now).waiting ≡ view.waiting
asked_all_waiting setup view now =
    on_cond (λ (w : View). w.waiting ≡ view.waiting) (is_leader view.role) _ _ refl refl

promised_waiting : (setup : Setup) (view : View) (now : ℕ) → (promised_itself setup view now).waiting ≡ view.waiting
promised_waiting setup view now =
    on_cond (λ (w : View). w.waiting ≡ view.waiting) (answers_itself setup view now) _ _ refl refl

promised_term : (setup : Setup) (view : View) (now : ℕ) → (promised_itself setup view now).term ≡ view.term
promised_term setup view now =
    on_cond (λ (w : View). w.term ≡ view.term) (answers_itself setup view now) _ _ refl refl

pub begin_round_good : (setup : Setup) (view : View) (number now : ℕ) → now < 2 ^ 62 → view.waiting ≡ None → Good setup now (begin_round setup view number now)
begin_round_good setup view number now early none =
    let open_view : View = with_round setup view number now in
    let round : Round = new_round setup view number now in
    let own : round.term ≡ open_view.term = sym (promised_term setup view now) in
    on_cond (Good setup now) (is_majority setup (own_answer setup view now)) _ _
    (gain_good setup open_view round now own early)
    (saying_good setup now (asked_all setup open_view now) _ _
    (asked_all_waiting setup open_view now ∙ promised_waiting setup view now ∙ none)
    (asked_all_good setup open_view round now early refl own refl))

-- ---- the answer of a keep

finish_gain_good : (setup : Setup) (view : View) (now : ℕ) (ok : Bool) → view.waiting ≡ None → RoundFits view.term view.role view.round
    → Good setup now (finish_gain setup view now ok)
finish_gain_good setup view now true none fits = saying_good setup now (record view { sure = true }) _ _ none fits
finish_gain_good setup view now false none fits = saying_good setup now (record view { sure = false }) _ _ none fits

finish_ask_good : (setup : Setup) (view : View) (tried : Record) (now : ℕ) (ok : Bool) → now < 2 ^ 62 → view.waiting ≡ None → view.round ≡ None
    → Good setup now (finish_ask setup view tried now ok)
finish_ask_good setup view tried now true early none alone = begin_round_good setup _ 0 now early none
finish_ask_good setup view tried now false early none alone =
    on_cond (Good setup now) (is_leader view.role) _ _
    (quiet_good setup now _ none (rw alone (no_round _ _)))
    (saying_good setup now (acquisition_failed setup (record view { sure = false }) now) _ _ none (rw alone (no_round _ _)))

released_fits : (setup : Setup) (view : View) (tried : Record) (reason now : ℕ) →
    RoundFits (released setup view tried reason now).term (released setup view tried reason now).role (released setup view tried reason now).round
released_fits setup view tried reason now =
    on_cond (λ (w : View). RoundFits w.term w.role w.round) (reason == SPLT) _ _ (no_round _ _) (no_round _ _)

released_waiting : (setup : Setup) (view : View) (tried : Record) (reason now : ℕ) → (released setup view tried reason now).waiting ≡ view.waiting
released_waiting setup view tried reason now =
    on_cond (λ (w : View). w.waiting ≡ view.waiting) (reason == SPLT) _ _ refl refl

same_unreleased : (setup : Setup) (view : View) (reason now : ℕ) → Same view (unreleased setup view reason now)
same_unreleased setup view reason now =
    on_cond (λ (w : View). Same view w) (reason == SPLT) _ _
    (record { term = refl; role = refl; round = refl; kept = refl; waiting = refl })
    (on_cond (λ (w : View). Same view w) (is_leader view.role) _ _
    (record { term = refl; role = refl; round = refl; kept = refl; waiting = refl })
    (record { term = refl; role = refl; round = refl; kept = refl; waiting = refl }))

finish_release_good : (setup : Setup) (view : View) (tried : Record) (reason now : ℕ) (ok : Bool) → view.waiting ≡ None
    → RoundFits view.term view.role view.round → Good setup now (finish_release setup view tried reason now ok)
finish_release_good setup view tried reason now true none fits =
    saying_good setup now (released setup view tried reason now) _ _
    (released_waiting setup view tried reason now ∙ none) (released_fits setup view tried reason now)
finish_release_good setup view tried reason now false none fits =
    let after = same_unreleased setup view reason now in
    saying_good setup now (unreleased setup view reason now) _ _ (after.waiting ∙ none) (fits_same view _ after fits)

finish_round_end_good : (setup : Setup) (view : View) (tried : Record) (now : ℕ) (ok : Bool) → view.waiting ≡ None
    → RoundFits view.term view.role view.round → Good setup now (finish_round_end setup view tried now ok)
finish_round_end_good setup view tried now ok none fits =
    let same_but_told = finish_release_good setup view tried SPLT now ok none fits in
    record { facts = same_but_told.facts; waits = same_but_told.waits }

finish_renewal_good : (setup : Setup) (view : View) (tried : Record) (number now : ℕ) (ok : Bool) → now < 2 ^ 62 → view.waiting ≡ None
    → RoundFits view.term view.role view.round → Good setup now (finish_renewal setup view tried number now ok)
finish_renewal_good setup view tried number now true early none fits = begin_round_good setup (record view { kept = tried; sure = true }) number now early none
finish_renewal_good setup view tried number now false early none fits = quiet_good setup now _ none fits

goes_on_good : (setup : Setup) (view : View) (rule : Rule) (tried : Record) (now : ℕ) (ok : Bool) → now < 2 ^ 62 → view.waiting ≡ None
    → RoundFits view.term view.role view.round → TriesOf setup view rule tried
    → Good setup now (goes_on setup view rule tried now ok)
goes_on_good setup view rules.Gain tried now ok early none fits tries = finish_gain_good setup view now ok none fits
goes_on_good setup view (rules.Ask reason) tried now ok early none fits tries = finish_ask_good setup view tried now ok early none tries.0
goes_on_good setup view (rules.Release reason) tried now ok early none fits tries = finish_release_good setup view tried reason now ok none fits
goes_on_good setup view rules.EndRound tried now ok early none fits tries = finish_round_end_good setup view tried now ok none fits
goes_on_good setup view (rules.Answer kind to number request told) tried now true early none fits tries = saying_good setup now (record view { kept = tried; sure = true }) _ _ none fits
goes_on_good setup view (rules.Answer kind to number request told) tried now false early none fits tries = saying_good setup now (record view { sure = false }) _ _ none fits
goes_on_good setup view (rules.Renew number) tried now ok early none fits tries = finish_renewal_good setup view tried number now ok early none fits

pub finish_good : (setup : Setup) (view : View) (now : ℕ) (ok : Bool) → now < 2 ^ 62 → ViewFacts setup view
    → Good setup now (finish setup view now ok)
finish_good setup view now ok early facts =
    on_option (Good setup now) view.waiting _ _
    (λ e. quiet_good setup now view e facts.round_fits)
    (λ waits e. goes_on_good setup (record view { waiting = None }) waits.rule waits.tried now ok early refl facts.round_fits (facts.tried waits e))

-- ---- renew

runs_out_good : (setup : Setup) (view : View) (now : ℕ) → view.waiting ≡ None → RoundFits view.term view.role view.round → Good setup now (runs_out view)
runs_out_good setup view now none fits = quiet_good setup now _ none fits

renew_by_term_good : (setup : Setup) (view : View) (now : ℕ) → view.waiting ≡ None → RoundFits view.term view.role view.round
    → Good setup now (renew_by_term setup view now)
renew_by_term_good setup view now none fits =
    on_cond (Good setup now) (are_terms_spent view) _ _ (runs_out_good setup view now none fits) (ask_good setup view RACQ now)

renew_in_term_good : (setup : Setup) (view : View) (number now : ℕ) → now < 2 ^ 62 → view.waiting ≡ None
    → RoundFits view.term view.role view.round → Good setup now (renew_in_term setup view number now)
renew_in_term_good setup view number now early none fits =
    on_cond (Good setup now) (setup.second && answers_itself setup view now) _ _
    (keeping_good setup now (with_own_promise setup view now) _ _ fits refl)
    (begin_round_good setup view number now early none)

pub renew_good : (setup : Setup) (view : View) (now : ℕ) → now < 2 ^ 62 → view.waiting ≡ None → ViewFacts setup view
    → Good setup now (renew setup view now)
renew_good setup view now early none facts =
    on_option (Good setup now) view.round _ _
    (λ e. renew_by_term_good setup view now none facts.round_fits)
    (λ round e. on_cond (Good setup now) (needs_term setup view round) _ _
    (renew_by_term_good setup view now none facts.round_fits)
    (on_cond (Good setup now) (round.number == LAST_NUMBER) _ _
    (runs_out_good setup view now none facts.round_fits)
    (renew_in_term_good setup view (round.number + 1) now early none facts.round_fits)))
