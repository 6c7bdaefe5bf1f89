-- At its deadline a leader sends its round again, or opens one.
use Rattle.std.proofs.Common.{◌≡◌, ◌≢◌, ◌⊎◌, inl, inr, ℕ, suc, zero, ◌+◌, ◌*◌, ◌<◌, ◌≤◌, Bool, true, false, count_by, ◌&&◌, not, List, [], ◌∷◌, arith, refl, sym, ap, ◌∙◌, subst, if◌then◌else◌}
use Rattle.std.specs.Prelude.{Option, Some, None, IsSomeAnd, is_some, nat_lt, nat_le, ◌==◌, length, slice_set}
use Rattle.std.specs.Option.{ForSome}
use Rattle.std.proofs.lemmas.Bool.Decides.{nat_tests}
use Rattle.booth_base.specs.declared.limits.TheConstants.{MEMBERS}
use Rattle.booth_rec.specs.declared.record.Promise.{Promise}
use Rattle.booth_rec.specs.declared.record.Record.{Record}
use Rattle.booth_rec.specs.Record.{lease_end}
use Rattle.booth_wire.specs.declared.codes.reasons.TheConstants.{RACQ}
use Rattle.booth_wire.specs.declared.message.Setup.{Setup}
use Rattle.booth_raft.specs.declared.deed.Told.TheVariants as tells
use Rattle.booth_raft.specs.declared.view.Role.{Role}
use Rattle.booth_raft.specs.declared.view.Role.TheVariants.{Follower, Working, Candidate, Leader}
use Rattle.booth_raft.specs.declared.view.Round.{Round}
use Rattle.booth_raft.specs.declared.view.TheConstants.{LAST_NUMBER}
use Rattle.booth_raft.specs.declared.view.View.{View}
use Rattle.booth_raft.specs.AskAndRenew.{answers_itself, are_terms_spent, asked_all, asking, begin_round, in_next_term, needs_term, own_answer, promised_itself, renew, renew_by_term, renew_in_term, runs_out, with_own_promise, with_round}
use Rattle.booth_raft.specs.Deadlines.{due_now, is_over_early, is_sent_again, is_tried}
use Rattle.booth_raft.specs.GainReleaseLost.{own_end, record_of, retry_at}
use Rattle.booth_raft.specs.Members.{is_leader, is_majority, is_promised_elsewhere, joined_by, nobody}
use Rattle.booth_raft.specs.Messages.{asks_all}
use Rattle.booth_raft.specs.Outcome.{Outcome, saying}
use Rattle.booth_raft.proofs.AnswerLemmas.{unpromised}
use Rattle.booth_raft.proofs.FactsLemmas.{on_cond, on_option, on_test, some_same, not_some, untrue}
use Rattle.booth_progress.specs.Kept.{AllKept, OneKept, all_kept}
use Rattle.booth_progress.specs.Leading.{Extends, HasAnswered, HasTermsLeft, IsLeading, IsSpent, IsToRenew, KeepsLease, LeadersOpenRounds, OpensRound, SendsAgain}
use Rattle.booth_progress.proofs.LeadingLemmas.{Near, count_cons, near, set_length, set_there}

-- ---- a member that is not the only one

set_counts : (flags : List Bool) (p : ℕ)
    → count_by (λ (answered : Bool). answered) (slice_set flags p true) ≤ count_by (λ (answered : Bool). answered) flags + 1
set_counts [] p = omega arith
set_counts (flag ∷ flags) zero =
    let with_it = count_cons true flags in
    let without_it = count_cons flag flags in omega (arith, with_it, without_it)
set_counts (flag ∷ flags) (suc p) =
    let rest = set_counts flags p in
    let new = count_cons flag (slice_set flags p true) in
    let old = count_cons flag flags in omega (arith, rest, new, old)

not_less : (a b : ℕ) → b ≤ a → nat_lt a b ≡ false
not_less a b above = grind (arith, nat_tests)

not_alone : (setup : Setup) (view : View) (now : ℕ) → 1 < setup.members → is_majority setup (own_answer setup view now) ≡ false
not_alone setup view now two =
    on_cond (λ (answers : List Bool). is_majority setup answers ≡ false) (answers_itself setup view now) _ nobody
    (let few = set_counts nobody setup.place in
    not_less setup.members (2 * count_by (λ (answered : Bool). answered) (joined_by nobody setup.place)) (omega (arith, few, two)))
    (not_less setup.members (2 * count_by (λ (answered : Bool). answered) nobody) (omega (arith, two)))

-- ---- a deadline

-- a round that is sent again is not won, has retries left, and is not over early
all_three : (won tried early : Bool) → not won && (tried && not early) ≡ true → (won ≡ false) × (tried ≡ true) × (early ≡ false)
all_three true tried early e = absurd (untrue e)
all_three false false early e = absurd (untrue e)
all_three false true true e = absurd (untrue e)
all_three false true false e = (refl, refl, refl)

one_of_three : (won tried early : Bool) → not won && (tried && not early) ≡ false
    → (won ≡ true) ⊎ ((tried ≡ false) ⊎ (early ≡ true))
one_of_three true tried early e = inl refl
one_of_three false false early e = inr (inl refl)
one_of_three false true true e = inr (inr refl)
one_of_three false true false e = absurd (untrue (sym e))

is_last_number : (number : ℕ) → number == LAST_NUMBER ≡ true → number ≡ LAST_NUMBER
is_last_number number e = grind (arith, nat_tests)

-- who neither abstains nor has promised to another answers itself
answers_so : (setup : Setup) (view : View) (now : ℕ) → view.abstain ≤ now
    → ForSome view.promise (λ p. p.to ≢ setup.me → p.until ≤ now) → answers_itself setup view now ≡ true
answers_so setup view now rested free =
    let unpromised_so : not (is_promised_elsewhere view.promise setup.me now) ≡ true = (unpromised view.promise setup.me now).1 free in
    let rested_so : nat_le view.abstain now ≡ true = grind (arith, nat_tests) in
    both_so (nat_le view.abstain now) (not (is_promised_elsewhere view.promise setup.me now)) rested_so unpromised_so
  where
    both_so : (a b : Bool) → a ≡ true → b ≡ true → a && b ≡ true
    both_so false b p q = absurd (untrue p)
    both_so true b p q = q

on_leader : {B : Type 0} (P : B → Type 0) (role : Role) (follower working candidate leader : B) → is_leader role ≡ true
    → P leader → P (elim role [ Follower ↦ follower | Working ↦ working | Candidate ↦ candidate | Leader ↦ leader ])
on_leader P Follower follower working candidate leader e p = absurd (untrue e)
on_leader P Working follower working candidate leader e p = absurd (untrue e)
on_leader P Candidate follower working candidate leader e p = absurd (untrue e)
on_leader P Leader follower working candidate leader e p = p

module _ (setup : Setup) (now : ℕ) where
  abbrev Asks : View → Outcome → Type 0
  Asks view outcome = SendsAgain setup now view outcome ⊎ IsToRenew setup now view outcome

  due_asks : (view : View) → IsLeading setup now view → Asks view (due_now setup view now)
  due_asks view l =
      on_leader (Asks view) view.role _ _ _ _ l.leads
      (on_test (Asks view) (nat_le (own_end view) now) _ _ (λ e. absurd (is_over e))
      (λ e. on_test (Asks view) (is_some view.job) _ _
      (λ works. absurd (untrue (sym (ap (λ (o : Option ℕ). is_some o) l.free) ∙ works)))
      (λ idle. on_option (Asks view) view.round _ _
      (λ none. inr (record { over = λ r e. absurd (not_some (sym none ∙ e)); wanted = refl }))
      (λ round some. on_test (Asks view) (is_sent_again setup view round now) _ _
      (λ t.
      let three = all_three round.won (is_tried setup round now) (is_over_early setup view) t in
      inl (record { round = round; current = some; unwon = three.0; tried = three.1; timely = three.2; leading = sent_leads; sent = refl }))
      (λ f. inr (record {
        over = λ r e.
            subst (λ (x : Round). (x.won ≡ true) ⊎ ((is_tried setup x now ≡ false) ⊎ (is_over_early setup view ≡ true))) (some_same (sym some ∙ e))
            (one_of_three round.won (is_tried setup round now) (is_over_early setup view) f);
        wanted = refl;
      }))))))
    where
      sent_leads : IsLeading setup now (record view { due = Some (retry_at setup view now) })
      sent_leads = record {
        leads = l.leads;
        free = l.free;
        rests = l.rests;
        runs = l.runs;
        forced = l.forced;
        within = l.within;
        rested = l.rested;
        unpromised = l.unpromised;
        round = λ r e. let x : Extends setup now view r = l.round r e in record { opened = x.opened; longer = x.longer };
        due = (omega arith, inl (inl (omega arith)));
      }

      is_over : nat_le (own_end view) now ≡ true → ⊥
      is_over e =
          let over : own_end view ≤ now = grind (arith, nat_tests) in
          let runs : now < own_end view = l.runs in absurd (omega (arith, over, runs))

  -- what a round is opened from
  record Begins (view : View) (ending : ℕ) : Type 0 where
    leads : is_leader view.role ≡ true
    free : view.job ≡ None
    rests : view.waiting ≡ None
    ends : own_end view ≡ ending
    runs : now < ending
    forced : ending ≤ view.force
    within : ending ≤ now + setup.times.expire
    rested : view.abstain ≤ now
    unpromised : ForSome view.promise (λ p. p.to ≢ setup.me → p.until ≤ now)

  promised_near : (view : View) → Near setup.me view (promised_itself setup view now)
  promised_near view =
      on_cond (λ (w : View). Near setup.me view w) (answers_itself setup view now) _ view
      (record { role = refl; job = refl; waiting = refl; kept = refl; force = refl; round = refl; due = refl; above = omega arith; abstain = refl; promise = λ at h p e other. absurd (other (sym (ap (λ (x : Promise). x.to) (some_same e)))) })
      (near view)

  opens : (old view : View) (number : ℕ) → is_majority setup (own_answer setup view now) ≡ false → Begins view (own_end old)
      → OpensRound setup now old
      (saying (asked_all setup (with_round setup view number now) now) (asks_all setup (with_round setup view number now) number now) tells.Nothing)
  opens old view number few b =
      on_test (λ (w : View). OpensRound setup now old (saying w (asks_all setup begun number now) tells.Nothing)) (is_leader begun.role) _ _
      (λ leads. record {
        leading = record {
          leads = leads;
          free = n.job ∙ b.free;
          rests = n.waiting ∙ b.rests;
          runs = omega (arith, ends, runs);
          forced = omega (arith, ends, forced, same_force);
          within = omega (arith, ends, within);
          rested = rw n.abstain b.rested;
          unpromised = n.promise now b.unpromised;
          round = λ r e.
              let at : now ≡ r.opened = ap (λ (x : Round). x.opened) (some_same e) in
              record { opened = omega (arith, at); longer = omega (arith, at, ends, within) };
          due = (omega arith, inl (inl (omega arith)));
        };
        same_end = ends;
        round = record {
          opened = refl;
          term = sym (on_cond (λ (w : View). w.term ≡ view.term) (answers_itself setup view now) _ view refl refl);
          unwon = refl;
          size = sized (answers_itself setup view now);
          own = owned;
          few = few;
          said = refl;
        };
        due = refl;
      })
      (λ other. absurd (untrue (sym other ∙ (ap (λ (r : Role). is_leader r) n.role ∙ b.leads))))
    where
      begun : View
      begun = with_round setup view number now

      n : Near setup.me view (promised_itself setup view now)
      n = promised_near view

      ends : own_end begun ≡ own_end old
      ends = ap (λ (k : Record). lease_end k.lease) n.kept ∙ b.ends

      runs : now < own_end old
      runs = b.runs

      forced : own_end old ≤ view.force
      forced = b.forced

      same_force : begun.force ≡ view.force
      same_force = n.force

      within : own_end old ≤ now + setup.times.expire
      within = b.within

      sized : (itself : Bool) → length (if itself then joined_by nobody setup.place else nobody) ≡ MEMBERS
      sized true = set_length nobody setup.place
      sized false = refl

      owned : setup.place < MEMBERS → HasAnswered (own_answer setup view now) setup.place
      owned below =
          on_test (λ (answers : List Bool). HasAnswered answers setup.place) (answers_itself setup view now) _ nobody
          (λ yes. set_there nobody setup.place below)
          (λ no. absurd (untrue (sym no ∙ itself)))
        where
          itself : answers_itself setup view now ≡ true
          itself = answers_so setup view now b.rested b.unpromised

  module _ (two : 1 < setup.members) where
    begins_once : (old view : View) (number : ℕ) → Begins view (own_end old)
        → OneKept setup now (OpensRound setup now old) (begin_round setup view number now)
    begins_once old view number b =
        on_test (OneKept setup now (OpensRound setup now old)) (is_majority setup (own_answer setup view now)) _ _
        (λ e. absurd (untrue (sym (not_alone setup view now two) ∙ e))) (λ e. opens old view number e b)

    -- the round is in the view's term
    pub term_once : (view : View) (number : ℕ) → OneKept setup now (λ outcome. outcome.view.term ≡ view.term) (begin_round setup view number now)
    term_once view number =
        on_test (OneKept setup now (λ outcome. outcome.view.term ≡ view.term)) (is_majority setup (own_answer setup view now)) _ _
        (λ e. absurd (untrue (sym (not_alone setup view now two) ∙ e)))
        (λ e. on_cond (λ (w : View). w.term ≡ view.term) (is_leader (with_round setup view number now).role) _ _ promised promised)
      where
        promised : (with_round setup view number now).term ≡ view.term
        promised = on_cond (λ (w : View). w.term ≡ view.term) (answers_itself setup view now) _ view refl refl

    begins : (old view : View) (number : ℕ) → Begins view (own_end old)
        → AllKept setup now (OpensRound setup now old) (begin_round setup view number now)
    begins old view number b =
        on_test (AllKept setup now (OpensRound setup now old)) (is_majority setup (own_answer setup view now)) _ _
        (λ e. absurd (untrue (sym (not_alone setup view now two) ∙ e))) (λ e. opens old view number e b)

    pub asking_near : (view : View) (reason : ℕ) → Near setup.me (in_next_term view reason) (asking setup view reason now)
    asking_near view reason =
        let next : View = in_next_term view reason in
        on_cond (λ (w : View). Near setup.me next w) setup.second _ _
        (on_cond (λ (w : View). Near setup.me next w) (answers_itself setup next now) _ _
        (record { role = refl; job = refl; waiting = refl; kept = refl; force = refl; round = refl; due = refl; above = omega arith; abstain = refl; promise = λ at h p e other. absurd (other (sym (ap (λ (x : Promise). x.to) (some_same e)))) })
        (near next))
        (near next)

    abbrev All : View → Outcome → Type 0
    All view outcome = AllKept setup now (OpensRound setup now view) outcome

    pub renews_by_term : (view : View) → IsLeading setup now view → are_terms_spent view ≡ false
        → All view (renew_by_term setup view now)
    renews_by_term view l left =
        on_test (All view) (are_terms_spent view) _ _ (λ spent. absurd (untrue (sym left ∙ spent)))
        (λ unspent. begins_once view asked 0 (record {
          leads = ap (λ (r : Role). is_leader r) n.role ∙ l.leads;
          free = n.job;
          rests = refl;
          ends = refl;
          runs = l.runs;
          forced = omega (arith, same_force, forced);
          within = l.within;
          rested = rw n.abstain l.rested;
          unpromised = n.promise now l.unpromised;
        }))
      where
        wanted : View
        wanted = asking setup view RACQ now

        asked : View
        asked = record wanted { waiting = None; kept = record_of setup wanted view.kept.lease; sure = true; bound = Some setup.me }

        n : Near setup.me (in_next_term view RACQ) wanted
        n = asking_near view RACQ

        forced : own_end view ≤ view.force
        forced = l.forced

        same_force : asked.force ≡ view.force
        same_force = n.force

    renews_in_term : (view : View) (number : ℕ) → IsLeading setup now view → All view (renew_in_term setup view number now)
    renews_in_term view number l =
        on_cond (All view) (setup.second && answers_itself setup view now) _ _
        (begins_once view own number (record {
          leads = l.leads;
          free = l.free;
          rests = refl;
          ends = refl;
          runs = l.runs;
          forced = l.forced;
          within = l.within;
          rested = l.rested;
          unpromised = λ p e other. absurd (other (sym (ap (λ (x : Promise). x.to) (some_same e))));
        }))
        (begins view view number (record {
          leads = l.leads;
          free = l.free;
          rests = l.rests;
          ends = refl;
          runs = l.runs;
          forced = l.forced;
          within = l.within;
          rested = l.rested;
          unpromised = l.unpromised;
        }))
      where
        own : View
        own = record (with_own_promise setup view now) {
          waiting = None;
          kept = record_of setup (with_own_promise setup view now) view.kept.lease;
          sure = true;
        }

    -- where nothing is left, the lease runs on
    abbrev Runs : View → Outcome → Type 0
    Runs view outcome = AllKept setup now (λ o. KeepsLease setup now view o.view) outcome

    runs_on : (view : View) → IsLeading setup now view → IsSpent view → Runs view (runs_out view)
    runs_on view l spent = record {
      leading = record {
        leads = l.leads;
        free = l.free;
        rests = l.rests;
        runs = l.runs;
        forced = l.forced;
        within = l.within;
        rested = l.rested;
        unpromised = l.unpromised;
        round = λ r e. let x : Extends setup now view r = l.round r e in record { opened = x.opened; longer = x.longer };
        due = (omega arith, inr spent);
      };
      longer = omega arith;
    }

    opens_on : (view : View) (outcome : Outcome) → All view outcome → Runs view outcome
    opens_on view outcome opens =
        let same : own_end (all_kept setup now outcome).view ≡ own_end view = opens.same_end in
        record { leading = opens.leading; longer = omega (arith, same) }

    renews_or_runs_out : (view : View) → IsLeading setup now view → Runs view (renew setup view now)
    renews_or_runs_out view l =
        on_option (Runs view) view.round _ _ (λ none. by_term)
        (λ round some. on_cond (Runs view) (needs_term setup view round) _ _ by_term
        (on_test (Runs view) (round.number == LAST_NUMBER) _ _
        (λ last. runs_on view l
        (inr (subst (λ (o : Option Round). IsSomeAnd o (λ r. r.number ≡ LAST_NUMBER)) (sym some) (is_last_number round.number last))))
        (λ other. opens_on view (renew_in_term setup view (round.number + 1) now) (renews_in_term view (round.number + 1) l))))
      where
        spends : (b : Bool) → are_terms_spent view ≡ b → Runs view (renew_by_term setup view now)
        spends true spent =
            on_test (Runs view) (are_terms_spent view) _ _ (λ yes. runs_on view l (inl spent)) (λ no. absurd (untrue (sym no ∙ spent)))
        spends false left = opens_on view (renew_by_term setup view now) (renews_by_term view l left)

        by_term : Runs view (renew_by_term setup view now)
        by_term = spends (are_terms_spent view) refl

    renews : (view : View) → IsLeading setup now view → HasTermsLeft view → All view (renew setup view now)
    renews view l left =
        on_option (All view) view.round _ _ (λ none. renews_by_term view l left.terms)
        (λ round some. on_cond (All view) (needs_term setup view round) _ _ (renews_by_term view l left.terms)
        (on_test (All view) (round.number == LAST_NUMBER) _ _ (λ last. absurd (left.numbers round some (is_last_number round.number last)))
        (λ other. renews_in_term view (round.number + 1) l)))

pub leaders_open_rounds : LeadersOpenRounds
leaders_open_rounds = record {
  due = λ setup view now l. due_asks setup now view l;
  renewed = λ setup view now two l left. renews setup now two view l left;
  kept = λ setup view now two l. renews_or_runs_out setup now two view l;
}
