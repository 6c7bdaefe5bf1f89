-- The answers of a majority extend a leader's lease.
use Rattle.std.proofs.Common.{◌≡◌, ◌≢◌, ◌⊎◌, inl, inr, ℕ, ◌+◌, ◌<◌, ◌≤◌, Bool, true, false, ◌&&◌, not, List, [], ◌∷◌, arith, refl, sym, ap, ◌∙◌, subst}
use Rattle.std.specs.Prelude.{Option, Some, None, IsSomeAnd, nat_lt, ◌==◌, length}
use Rattle.std.proofs.lemmas.Bool.Decides.{nat_tests}
use Rattle.booth_rec.specs.declared.record.Record.{Record}
use Rattle.booth_rec.specs.Record.{lease_end}
use Rattle.booth_wire.specs.declared.command.Cmd.{Cmd}
use Rattle.booth_wire.specs.declared.command.Cmd.TheVariants as cmds
use Rattle.booth_wire.specs.declared.message.Head.{Head}
use Rattle.booth_wire.specs.declared.message.TicketPart.{TicketPart}
use Rattle.booth_wire.specs.declared.message.Setup.{Setup}
use Rattle.booth_raft.specs.declared.view.Role.{Role}
use Rattle.booth_raft.specs.declared.view.Round.{Round}
use Rattle.booth_raft.specs.declared.view.RoundKind.{RoundKind}
use Rattle.booth_raft.specs.declared.view.RoundKind.TheVariants.{Election, Renewal}
use Rattle.booth_raft.specs.declared.view.View.{View}
use Rattle.booth_raft.specs.GainReleaseLost.{own_end}
use Rattle.booth_raft.specs.Members.{is_leader, is_majority}
use Rattle.booth_raft.specs.OtherMessages.{hear, refused, revoked, unasking}
use Rattle.booth_raft.specs.Outcome.{Outcome}
use Rattle.booth_raft.specs.RoundsAndAnswers.{hear_answer, hear_round, is_answer_to, join, may_answer, wins, with_answer}
use Rattle.booth_raft.specs.StartAndLearn.{learned, with_seen}
use Rattle.booth_raft.proofs.FactsLemmas.{on_cond, on_test, untrue}
use Rattle.booth_progress.specs.Kept.{AllKept, all_kept}
use Rattle.booth_progress.specs.Extending.{AllAnswer, AllHave, AnsweredRoundsExtend, AreBelow, Hearing, IsAnswerOf, IsAnsweredBy, after_hearing, after_hearings}
use Rattle.booth_progress.specs.Leading.{Extends, GrewFrom, HasAnswered, IsLeading, IsSoon, IsSpent, LeadsOn}
use Rattle.booth_progress.proofs.LeadingLemmas.{Near, answers_nobody, leaders_lead_on, learned_near, leading_near, near, near_then, refused_near, revoked_near, same_round, seen_near, set_keeps, set_length, set_there, some_on, unasking_near}

must_win : (most won soon : Bool) → most ≡ true → soon ≡ true → most && not won && soon ≡ false → won ≡ true
must_win false won soon a b e = absurd (untrue a)
must_win true true soon a b e = refl
must_win true false true a b e = absurd (untrue (sym e))
must_win true false false a b e = absurd (untrue b)

not_zero : (n : ℕ) → n == 0 ≡ false → n ≡ 0 → ⊥
not_zero n e z = untrue (sym e ∙ ap (λ (m : ℕ). m == 0) z)

zero_is : (n : ℕ) → n == 0 ≡ true → n ≡ 0
zero_is n e = grind (arith, nat_tests)

pub some_and : {A : Type 0} (P : A → Type 0) (o : Option A) → IsSomeAnd o P → (x : A) × (o ≡ Some x) × P x
some_and P None h = absurd h
some_and P (Some x) h = (x, refl, h)

-- time passes while the lease runs
pub leading_later : (setup : Setup) (view : View) (now at : ℕ) → now ≤ at → at < own_end view → IsLeading setup now view → IsLeading setup at view
leading_later setup view now at after before l =
    let within : own_end view ≤ now + setup.times.expire = l.within in
    record {
      leads = l.leads;
      free = l.free;
      rests = l.rests;
      runs = before;
      forced = l.forced;
      within = omega (arith, within, after);
      rested = let rested : view.abstain ≤ now = l.rested in omega (arith, rested, after);
      unpromised = λ p e other. let over : p.until ≤ now = l.unpromised p e other in omega (arith, over, after);
      round = λ r e.
          let x : Extends setup now view r = l.round r e in
          let opened : r.opened ≤ now = x.opened in record { opened = omega (arith, opened, after); longer = x.longer };
      due = some_on _ _ view.due soon l.due;
    }
  where
    soon : (due : ℕ) → (due ≤ own_end view) × (IsSoon setup now view due ⊎ IsSpent view)
        → (due ≤ own_end view) × (IsSoon setup at view due ⊎ IsSpent view)
    soon due (before_end, inl (inl near_by)) = (before_end, inl (inl (omega (arith, near_by, after))))
    soon due (before_end, inl (inr early)) = (before_end, inl (inr early))
    soon due (before_end, inr spent) = (before_end, inr spent)

module _ (setup : Setup) (short : setup.times.renewal < setup.times.expire) (majority : List ℕ)
    (enough : (answers : List Bool) → AllHave majority answers → is_majority setup answers ≡ true) where
  -- the round is won where the majority answered, and its lease is the record's where it is won
  pub record Counted (ending : ℕ) (view : View) (round : Round) : Type 0 where
    pub won_end : round.won ≡ true → ending ≤ own_end view
    pub all_won : AllHave majority round.answers → round.won ≡ true

  module _ (now place : ℕ) (head : Head) (part : TicketPart) (r : Round) where
    ending : ℕ
    ending = r.opened + setup.times.expire

    -- the message counts as an answer of the place
    abbrev Fits : Cmd → Type 0
    Fits cmd =
        (((cmd ≡ cmds.VtFr) × (head.options ≡ 0)) ⊎ ((cmd ≡ cmds.Ack) × (head.options ≢ 0)))
        × (is_answer_to setup r head part ≡ true) × (place < length r.answers)

    abbrev Counts : Type 0 → Outcome → Type 0
    Counts C outcome =
        IsSomeAnd outcome.view.round (λ n. GrewFrom r n × Counted (r.opened + setup.times.expire) outcome.view n × (C → HasAnswered n.answers place))

    abbrev All : Type 0 → Outcome → Type 0
    All C outcome = AllKept setup now (Counts C) outcome

    stays : (C : Type 0) (view other : View) → Near setup.me view other → view.round ≡ Some r → Counted (r.opened + setup.times.expire) view r → (C → ⊥)
        → IsSomeAnd other.round (λ n. GrewFrom r n × Counted (r.opened + setup.times.expire) other n × (C → HasAnswered n.answers place))
    stays C view other same is c unfit =
        subst (λ (o : Option Round). IsSomeAnd o (λ n. GrewFrom r n × Counted (r.opened + setup.times.expire) other n × (C → HasAnswered n.answers place)))
        (sym (same.round ∙ is)) (
          same_round r,
          record {
            won_end = λ w.
                let old : r.opened + setup.times.expire ≤ own_end view = c.won_end w in
                let ends : own_end other ≡ own_end view = ap (λ (k : Record). lease_end k.lease) same.kept in
                omega (arith, old, ends);
            all_won = c.all_won;
          },
          λ x. absurd (unfit x),
        )

    joins : (C : Type 0) (view : View) → IsLeading setup now view → view.round ≡ Some r → Counted (r.opened + setup.times.expire) view r
        → (C → place < length r.answers) → All C (join setup view (with_answer r place) now)
    joins C view l is c below =
        on_test (All C) (wins setup (with_answer r place) now) _ _
        (λ e. (
          grew true (λ w. refl),
          record { won_end = λ w. omega arith; all_won = λ a. refl },
          λ x. set_there r.answers place (below x),
        ))
        (λ e. (
          grew r.won (λ w. w),
          record {
            won_end = c.won_end;
            all_won = λ a. must_win (is_majority setup (with_answer r place).answers) r.won (nat_lt now (r.opened + setup.times.expire))
                (enough (with_answer r place).answers a) in_time e;
          },
          λ x. set_there r.answers place (below x),
        ))
      where
        grew : (b : Bool) → (r.won ≡ true → b ≡ true) → GrewFrom r (record (with_answer r place) { won = b })
        grew b won = record {
          term = refl;
          number = refl;
          opened = refl;
          won = won;
          size = set_length r.answers place;
          answers = λ k h. set_keeps r.answers place k h;
        }

        extended : Extends setup now view r
        extended = l.round r is

        in_time : nat_lt now (r.opened + setup.times.expire) ≡ true
        in_time =
            let longer : own_end view ≤ r.opened + setup.times.expire = extended.longer in
            let runs : now < own_end view = l.runs in
            let early : now < r.opened + setup.times.expire = omega (arith, longer, runs) in grind (arith, nat_tests)

    answer_counts : (C : Type 0) (view : View) → IsLeading setup now (record view { round = Some r })
        → Counted (r.opened + setup.times.expire) (record view { round = Some r }) r
        → (C → (is_answer_to setup r head part ≡ true) × (place < length r.answers))
        → All C (hear_answer setup (record view { round = Some r }) place head part now)
    answer_counts C view l c fits =
        on_test (All C) (is_answer_to setup r head part) _ _
        (λ e. joins C (record view { round = Some r }) l refl c (λ x. (fits x).1))
        (λ e. stays C (record view { round = Some r }) (record view { round = Some r }) (near _) refl c (λ x. untrue (sym e ∙ (fits x).0)))

    round_refused : (C : Type 0) (view : View) (kind : RoundKind) → IsLeading setup now (record view { round = Some r })
        → Counted (r.opened + setup.times.expire) (record view { round = Some r }) r → (C → ⊥)
        → All C (hear_round setup (record view { round = Some r }) kind head part now)
    round_refused C view kind l c unfit =
        on_test (All C) (may_answer (record view { round = Some r }) head.from part.term now) _ _
        (λ e. absurd (answers_nobody setup now (record view { round = Some r }) head.from part.term l e))
        (λ e. stays C (record view { round = Some r }) (record view { round = Some r }) (near _) refl c unfit)

    counts : (view : View) (cmd : Cmd) → IsLeading setup now (record view { round = Some r })
        → Counted (r.opened + setup.times.expire) (record view { round = Some r }) r
        → All (Fits cmd) (hear setup (record view { round = Some r }) place head part now cmd)
    counts view cmd l c = by_cmd cmd
      where
        V : View
        V = record view { round = Some r }

        S : View
        S = with_seen V part.term

        seen_leads : IsLeading setup now S
        seen_leads = leading_near setup now V S (seen_near setup now V part.term) l

        seen_counted : Counted (r.opened + setup.times.expire) S r
        seen_counted = record { won_end = c.won_end; all_won = c.all_won }

        stay : (C : Type 0) (other : View) → Near setup.me V other → (C → ⊥)
            → IsSomeAnd other.round (λ n. GrewFrom r n × Counted (r.opened + setup.times.expire) other n × (C → HasAnswered n.answers place))
        stay C other same unfit = stays C V other same refl c unfit

        learns : (C : Type 0) → (C → ⊥)
            → IsSomeAnd (learned setup V part now).round (λ n. GrewFrom r n × Counted (r.opened + setup.times.expire) (learned setup V part now) n × (C → HasAnswered n.answers place))
        learns C unfit = stay C (learned setup V part now) (learned_near setup now V part l) unfit

        by_cmd : (cmd : Cmd) → All (Fits cmd) (hear setup V place head part now cmd)
        by_cmd cmds.RVot =
            on_cond (All (Fits cmds.RVot)) (head.options == 0) _ _
            (round_refused (Fits cmds.RVot) S Election seen_leads seen_counted (λ x. elim x.0 [ inl a ↦ absurd cc | inr a ↦ absurd cc ]))
            (stay (Fits cmds.RVot) S (seen_near setup now V part.term) (λ x. elim x.0 [ inl a ↦ absurd cc | inr a ↦ absurd cc ]))
        by_cmd cmds.HrtB =
            on_cond (All (Fits cmds.HrtB)) (head.options == 0) _ _
            (stay (Fits cmds.HrtB) S (seen_near setup now V part.term) (λ x. elim x.0 [ inl a ↦ absurd cc | inr a ↦ absurd cc ]))
            (round_refused (Fits cmds.HrtB) S Renewal seen_leads seen_counted (λ x. elim x.0 [ inl a ↦ absurd cc | inr a ↦ absurd cc ]))
        by_cmd cmds.VtFr =
            on_test (All (Fits cmds.VtFr)) (head.options == 0) _ _
            (λ e. answer_counts (Fits cmds.VtFr) S seen_leads seen_counted (λ x. (x.1, x.2)))
            (λ e. stay (Fits cmds.VtFr) S (seen_near setup now V part.term)
            (λ x. elim x.0 [ inl a ↦ not_zero head.options e a.1 | inr a ↦ absurd cc ]))
        by_cmd cmds.Ack =
            on_test (All (Fits cmds.Ack)) (head.options == 0) _ _
            (λ e. stay (Fits cmds.Ack) S (seen_near setup now V part.term)
            (λ x. elim x.0 [ inl a ↦ absurd cc | inr a ↦ a.1 (zero_is head.options e) ]))
            (λ e. answer_counts (Fits cmds.Ack) S seen_leads seen_counted (λ x. (x.1, x.2)))
        by_cmd cmds.Stat = learns (Fits cmds.Stat) (λ x. elim x.0 [ inl a ↦ absurd cc | inr a ↦ absurd cc ])
        by_cmd cmds.MIdx = learns (Fits cmds.MIdx) (λ x. elim x.0 [ inl a ↦ absurd cc | inr a ↦ absurd cc ])
        by_cmd cmds.Rjc =
            let rejected : View = refused setup V head part in
            let to_rejected : Near setup.me V rejected = refused_near setup now V head part in
            stay (Fits cmds.Rjc) (learned setup rejected part now)
            (near_then V rejected (learned setup rejected part now) to_rejected
            (learned_near setup now rejected part (leading_near setup now V rejected to_rejected l)))
            (λ x. elim x.0 [ inl a ↦ absurd cc | inr a ↦ absurd cc ])
        by_cmd cmds.UpdE = learns (Fits cmds.UpdE) (λ x. elim x.0 [ inl a ↦ absurd cc | inr a ↦ absurd cc ])
        by_cmd cmds.Revk =
            let unasked : View = unasking setup S head.reason in
            let to_unasked : Near setup.me V unasked =
            near_then V S unasked (seen_near setup now V part.term) (unasking_near setup now S head.reason) in
            stay (Fits cmds.Revk) (revoked setup unasked head.from part.term head.reason now)
            (near_then V unasked (revoked setup unasked head.from part.term head.reason now) to_unasked
            (revoked_near setup now unasked head.from part.term head.reason (ap (λ (x : Role). is_leader x) to_unasked.role ∙ l.leads)))
            (λ x. elim x.0 [ inl a ↦ absurd cc | inr a ↦ absurd cc ])
        by_cmd other = stay (Fits other) V (near V) (λ x. elim x.0 [ inl a ↦ absurd cc | inr a ↦ absurd cc ])

  -- ---- one message

  abbrev pub Fit : Round → Hearing → Type 0
  Fit r h =
      (((h.head.cmd ≡ cmds.VtFr) × (h.head.options ≡ 0)) ⊎ ((h.head.cmd ≡ cmds.Ack) × (h.head.options ≢ 0)))
      × (is_answer_to setup r h.head h.part ≡ true) × (h.place < length r.answers)

  pub heard : (view : View) (r : Round) (h : Hearing) → IsLeading setup h.now view → view.round ≡ Some r
      → Counted (r.opened + setup.times.expire) view r
      → IsSomeAnd (after_hearing setup view h).round
      (λ n. GrewFrom r n × Counted (r.opened + setup.times.expire) (after_hearing setup view h) n × (Fit r h → HasAnswered n.answers h.place))
  heard view r h l is c = go view.round is l c
    where
      go : (o : Option Round) → o ≡ Some r → IsLeading setup h.now (record view { round = o })
          → Counted (r.opened + setup.times.expire) (record view { round = o }) r
          → IsSomeAnd (after_hearing setup (record view { round = o }) h).round
          (λ n. GrewFrom r n × Counted (r.opened + setup.times.expire) (after_hearing setup (record view { round = o }) h) n × (Fit r h → HasAnswered n.answers h.place))
      go o e =
          subst (λ (o : Option Round). IsLeading setup h.now (record view { round = o })
          → Counted (r.opened + setup.times.expire) (record view { round = o }) r
          → IsSomeAnd (after_hearing setup (record view { round = o }) h).round
          (λ n. GrewFrom r n × Counted (r.opened + setup.times.expire) (after_hearing setup (record view { round = o }) h) n × (Fit r h → HasAnswered n.answers h.place)))
          (sym e) (λ l c. counts h.now h.place h.head h.part r view h.head.cmd l c)

  -- ---- all messages

  pub same_answer : (r n : Round) (h : Hearing) → GrewFrom r n → is_answer_to setup r h.head h.part ≡ is_answer_to setup n h.head h.part
  same_answer r n h g = rw (g.term, g.number) refl

  still_answered : (r n : Round) (place : ℕ) (hs : List Hearing) → GrewFrom r n → IsAnsweredBy setup r place hs → IsAnsweredBy setup n place hs
  still_answered r n place [] g a = a
  still_answered r n place (h ∷ hs) g (inl a) = inl (record { from = a.from; kind = a.kind; to = sym (same_answer r n h g) ∙ a.to })
  still_answered r n place (h ∷ hs) g (inr a) = inr (still_answered r n place hs g a)

  still_all : (r n : Round) (h : Hearing) (hs : List Hearing) (places : List ℕ) → GrewFrom r n → (Fit r h → HasAnswered n.answers h.place)
      → AllAnswer setup r (h ∷ hs) places → AllAnswer setup n hs places
  still_all r n h hs [] g joined a = tt
  still_all r n h hs (place ∷ places) g joined a =
      (subst (λ (k : ℕ). place < k) (sym g.size) a.0, by_case a.1, still_all r n h hs places g joined a.2)
    where
      by_case : HasAnswered r.answers place ⊎ (IsAnswerOf setup r place h ⊎ IsAnsweredBy setup r place hs)
          → HasAnswered n.answers place ⊎ IsAnsweredBy setup n place hs
      by_case (inl old) = inl (g.answers place old)
      by_case (inr (inl now_it)) =
          inl (subst (λ (p : ℕ). HasAnswered n.answers p) now_it.from
          (joined (now_it.kind, now_it.to, subst (λ (p : ℕ). p < length r.answers) (sym now_it.from) a.0)))
      by_case (inr (inr rest)) = inr (still_answered r n place hs g rest)

  all_have : (r : Round) (places : List ℕ) → AllAnswer setup r [] places → AllHave places r.answers
  all_have r [] a = tt
  all_have r (place ∷ places) a = (by_case a.1, all_have r places a.2)
    where
      by_case : HasAnswered r.answers place ⊎ ⊥ → HasAnswered r.answers place
      by_case (inl old) = old
      by_case (inr none) = absurd none

  extends : (hs : List Hearing) (view : View) (r : Round) (now limit : ℕ) → IsLeading setup now view → view.round ≡ Some r
      → Counted (r.opened + setup.times.expire) view r → AreBelow now limit hs → limit ≤ own_end view → AllAnswer setup r hs majority
      → r.opened + setup.times.expire ≤ own_end (after_hearings setup view hs)
  extends [] view r now limit l is c below most answered = c.won_end (c.all_won (all_have r majority answered))
  extends (h ∷ hs) view r now limit l is c below most answered =
      go (λ w n l is c most answered. extends hs w n h.now limit l is c below.2 most answered) (some_and _ _ (heard view r h at is c))
    where
      early : h.now < limit
      early = below.1

      at : IsLeading setup h.now view
      at = leading_later setup view now h.now below.0 (omega (arith, early, most)) l

      on : LeadsOn setup h.now view (all_kept setup h.now (hear setup view h.place h.head h.part h.now h.head.cmd)).view
      on = leaders_lead_on setup view h.now h.place h.head h.part h.head.cmd short at

      longer : own_end view ≤ own_end (after_hearing setup view h)
      longer = on.longer

      go : ((w : View) (n : Round) → IsLeading setup h.now w → w.round ≡ Some n → Counted (n.opened + setup.times.expire) w n
          → limit ≤ own_end w → AllAnswer setup n hs majority → n.opened + setup.times.expire ≤ own_end (after_hearings setup w hs))
          → (n : Round) × ((after_hearing setup view h).round ≡ Some n)
          × (GrewFrom r n × Counted (r.opened + setup.times.expire) (after_hearing setup view h) n × (Fit r h → HasAnswered n.answers h.place))
          → r.opened + setup.times.expire ≤ own_end (after_hearings setup view (h ∷ hs))
      go rest_extends (n, same, grown) =
          let g : GrewFrom r n = grown.0 in
          let opened : n.opened ≡ r.opened = g.opened in
          let counted : Counted (n.opened + setup.times.expire) (after_hearing setup view h) n =
          subst (λ (o : ℕ). Counted (o + setup.times.expire) (after_hearing setup view h) n) (sym opened) grown.1 in
          let rest : n.opened + setup.times.expire ≤ own_end (after_hearings setup (after_hearing setup view h) hs) =
          rest_extends (after_hearing setup view h) n on.leading same counted (omega (arith, most, longer))
          (still_all r n h hs majority g grown.2 answered) in
          subst (λ (o : ℕ). o + setup.times.expire ≤ own_end (after_hearings setup (after_hearing setup view h) hs)) opened rest

pub answered_rounds_extend : AnsweredRoundsExtend
answered_rounds_extend setup view round now majority hs short l is unwon missing enough below answered =
    extends setup short majority enough hs view round now (own_end view) l is
    (record { won_end = λ w. absurd (untrue (sym unwon ∙ w)); all_won = λ a. absurd (missing a) }) below (omega arith) answered
