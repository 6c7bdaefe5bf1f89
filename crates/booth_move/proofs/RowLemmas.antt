-- Each step of a move is a row of the table.
use Rattle.std.proofs.Common.{◌≡◌, ◌≢◌, ◌<◌, ◌≤◌, ◌+◌, ℕ, Bool, true, false, not, ◌&&◌, ◌==◌, cond, Option, Some, None, refl, sym, ap, subst, ◌∙◌, inl, inr, arith}
use Rattle.std.specs.Prelude.{nat_lt, nat_le}
use Rattle.std.proofs.lemmas.Bool.{cond_both, and_parts, not-true, eqb-true, eqb-false}
use Rattle.std.proofs.lemmas.Bool.Decides.{nat_tests}
use Rattle.booth_wire.specs.declared.codes.results.TheConstants.{SUCCESS, ASYN, BUSY, REDR}
use Rattle.booth_wire.specs.PlainMessage.{PlainMessage}
use Rattle.booth_talk.specs.declared.reply.Reply.{Reply}
use Rattle.booth_talk.specs.Replies.{leader_in, reply_of}
use Rattle.booth_talk.specs.declared.wait.TheConstants.{MOST_PAIRS, PATIENCE}
use Rattle.booth_move.specs.declared.stage.Request.{Request}
use Rattle.booth_move.specs.declared.stage.Stage.{Stage}
use Rattle.booth_move.specs.declared.stage.Stage.TheVariants.{Opening, Revoking, Granting, Pausing, Ended}
use Rattle.booth_move.specs.declared.steps.Step.{Step}
use Rattle.booth_move.specs.declared.waiting.Waits.{Waits}
use Rattle.booth_move.specs.declared.waiting.Waits.TheVariants.{On, Over, Came}
use Rattle.booth_move.specs.Move.{IsSoundStage, MoveSetup, Pair, place_of}
use Rattle.booth_move.specs.Waiting.{is_late, is_rested, judged, one_more, passed_over, sent, waits_on}
use Rattle.booth_move.specs.declared.waiting.TheConstants.{PAUSE}
use Rattle.booth_move.specs.Deeds.{followed, grant_answered, move_step, next_number, pauses_on, rests, revoke_answered, sent_on_or_refused, while_granting, while_pausing, while_revoking}
use Rattle.booth_move.specs.Rows.{Brings, Expires, Follows, GoesOn, HasNoAnswer, IsBegun, IsRepeat}

-- ---- a pair as it is judged

-- what a pair is to a wait
abbrev IsJudged : Bool → Request → Pair → Waits → Type 0
IsJudged wait last p (On next) = GoesOn wait last p next
IsJudged wait last p Over = Expires wait last p
IsJudged wait last p (Came reply) =
    (m : PlainMessage) × (p.reply ≡ Some m) × (reply ≡ reply_of m) × (reply.result ≡ ASYN → wait ≡ false)

-- the numbers are no more than what is said of them
less : (n : ℕ) → n < MOST_PAIRS → (n + 1 == MOST_PAIRS) ≡ false → n + 1 < MOST_PAIRS
less n lt differs = let apart : n + 1 ≡ MOST_PAIRS → ⊥ = eqb-false (n + 1) MOST_PAIRS differs in by_order (n + 1) MOST_PAIRS (omega arith) apart
  where
    by_order : (a b : ℕ) → a ≤ b → (a ≡ b → ⊥) → a < b
    by_order a b le apart = grind (arith, le, apart)

one_more_judged : (wait : Bool) (last : Request) (p : Pair) → last.pairs < MOST_PAIRS → HasNoAnswer wait last p →
    IsJudged wait last p (waits_on (one_more last))
one_more_judged wait last p below none =
    cond_both (last.pairs + 1 == MOST_PAIRS) None (Some (record last { pairs = last.pairs + 1 })) (λ (o : Option Request). IsJudged wait last p (waits_on o))
    (λ e. inr (none, eqb-true (last.pairs + 1) MOST_PAIRS e))
    (λ e. inl (none, less last.pairs below e, refl))

not_late : (begun : Bool) (bound reading : ℕ) → (not begun && nat_lt bound reading) ≡ false → begun ≡ false → reading ≤ bound
not_late true bound reading h e = absurd cc
not_late false bound reading h e = grind (arith, nat_tests)

late : (begun : Bool) (bound reading : ℕ) → (not begun && nat_lt bound reading) ≡ true → (begun ≡ false) × (bound < reading)
late true bound reading h = absurd cc
late false bound reading h = (refl, grind (arith, nat_tests))

none_judged : (wait : Bool) (last : Request) (p : Pair) → last.pairs < MOST_PAIRS → p.reply ≡ None →
    IsJudged wait last p (judged wait last p.reading None)
none_judged wait last p below none =
    cond_both (is_late last p.reading) Over (waits_on (one_more last)) (λ (w : Waits). IsJudged wait last p w)
    (λ e. let is = late last.begun (last.start + PATIENCE) p.reading e in inl (record { none = none; first = is.0; late = is.1 }))
    (λ e. one_more_judged wait last p below (inl (record { none = none; early = not_late last.begun (last.start + PATIENCE) p.reading e })))

begun_judged : (wait : Bool) (last : Request) (p : Pair) → last.pairs < MOST_PAIRS → IsBegun wait p → IsJudged wait last p (passed_over last)
begun_judged wait last p below begun =
    cond_both last.begun (waits_on (one_more last)) (On (record last { pairs = 0; begun = true })) (λ (w : Waits). IsJudged wait last p w)
    (λ e. one_more_judged wait last p below (inr (e, begun)))
    (λ e. inr (begun, e, refl))

-- who does not pass over that it was begun does not wait
no_wait : (wait asyn : Bool) → (wait && asyn) ≡ false → asyn ≡ true → wait ≡ false
no_wait true true h e = h
no_wait true false h e = absurd cc
no_wait false asyn h e = refl

some_judged : (wait : Bool) (last : Request) (p : Pair) (m : PlainMessage) → last.pairs < MOST_PAIRS → p.reply ≡ Some m →
    IsJudged wait last p (judged wait last p.reading (Some m))
some_judged wait last p m below some =
    cond_both (wait && m.head.result == ASYN) (passed_over last) (Came (reply_of m)) (λ (w : Waits). IsJudged wait last p w)
    (λ e. let both = and_parts wait (m.head.result == ASYN) e in
    begun_judged wait last p below (record { brings = record { m = m; is = some; with = eqb-true m.head.result ASYN both.1 }; waits = both.0 }))
    (λ e. (m, some, refl, λ is. no_wait wait (m.head.result == ASYN) e (eq_yes m.head.result ASYN is)))
  where
    eq_yes : (a b : ℕ) → a ≡ b → (a == b) ≡ true
    eq_yes a b e = grind (arith, nat_tests)

pub pair_judged : (wait : Bool) (last : Request) (p : Pair) → last.pairs < MOST_PAIRS → IsJudged wait last p (judged wait last p.reading p.reply)
pair_judged wait last p below = by_reply p.reply refl
  where
    by_reply : (reply : Option PlainMessage) → p.reply ≡ reply → IsJudged wait last p (judged wait last p.reading reply)
    by_reply None is = none_judged wait last p below is
    by_reply (Some m) is = some_judged wait last p m below is

-- ---- the steps

-- the step is a row of the table
abbrev IsRow : MoveSetup → Stage → Pair → Step → Type 0
IsRow setup stage p step = Follows setup stage p step.deed step.stage

refused_row : (setup : MoveSetup) (last : Request) (sent_on : Bool) (p : Pair) (m : PlainMessage) → p.reply ≡ Some m →
    m.head.result ≢ SUCCESS → (m.head.result ≡ ASYN → setup.wait ≡ false) → (place : Option ℕ) → followed setup.ids sent_on (reply_of m) ≡ place →
    IsRow setup (Revoking last sent_on) p (sent_on_or_refused place p.reading (reply_of m))
refused_row setup last sent_on p m is not_done not_begun place followed_is = by_test (not sent_on && m.head.result == REDR) refl place followed_is
  where
    eq_yes : (a b : ℕ) → a ≡ b → (a == b) ≡ true
    eq_yes a b e = grind (arith, nat_tests)

    again : (on redr : Bool) → (not on && redr) ≡ false → redr ≡ true → on ≡ true
    again true redr h e = refl
    again false redr h e = absurd cc

    by_test : (test : Bool) → (not sent_on && m.head.result == REDR) ≡ test → (place : Option ℕ) →
        cond test (place_of (leader_in m.content) setup.ids) None ≡ place →
        IsRow setup (Revoking last sent_on) p (sent_on_or_refused place p.reading (reply_of m))
    by_test true e (Some place) found =
        let both = and_parts (not sent_on) (m.head.result == REDR) e in (
          record { m = m; is = is; with = eqb-true m.head.result REDR both.1; there = found },
          not-true sent_on both.0,
          record { number_is = refl; is = refl },
          refl,
        )
    by_test true e None found = record {
      m = m;
      is = is;
      with = refl;
      not_done = not_done;
      not_begun = not_begun;
      not_followed = λ redr. inr found;
    }
    by_test false e (Some place) found = absurd cc
    by_test false e None found = record {
      m = m;
      is = is;
      with = refl;
      not_done = not_done;
      not_begun = not_begun;
      not_followed = λ redr. inl (again sent_on (m.head.result == REDR) e (eq_yes m.head.result REDR redr));
    }

revoke_row : (setup : MoveSetup) (last : Request) (sent_on : Bool) (p : Pair) (waits : Waits) → IsJudged setup.wait last p waits →
    IsRow setup (Revoking last sent_on) p (while_revoking setup.ids sent_on p.reading waits)
revoke_row setup last sent_on p (On next) h = (h, refl)
revoke_row setup last sent_on p Over h = h
revoke_row setup last sent_on p (Came reply) h =
    subst (λ (r : Reply). IsRow setup (Revoking last sent_on) p (revoke_answered setup.ids sent_on p.reading r)) (sym h.2)
    (cond_both (h.0.head.result == SUCCESS) _ _ (λ (s : Step). IsRow setup (Revoking last sent_on) p s)
    (λ e. (record { m = h.0; is = h.1; with = eqb-true h.0.head.result SUCCESS e }, record { number_is = refl; is = refl }, refl))
    (λ e. refused_row setup last sent_on p h.0 h.1 (eqb-false h.0.head.result SUCCESS e)
    (λ asyn. h.3 (ap (λ (r : Reply). r.result) h.2 ∙ asyn))
    (followed setup.ids sent_on (reply_of h.0)) refl))

rested : (start reading : ℕ) → nat_le (start + PAUSE) reading ≡ true → start + PAUSE ≤ reading
rested start reading e = grind (arith, nat_tests)

not_rested : (start reading : ℕ) → nat_le (start + PAUSE) reading ≡ false → reading < start + PAUSE
not_rested start reading e = grind (arith, nat_tests)

repeated : (p : Pair) (last : Request) (repeats : ℕ) → is_rested last p.reading ≡ true → repeats < 10 →
    IsRepeat p last repeats (next_number last.number) (sent (next_number last.number) p.reading) (repeats + 1)
repeated p last repeats e fewer =
    record { rested = rested last.start p.reading e; fewer = fewer; number_is = refl; is = refl; one_more = refl }

busy_row : (setup : MoveSetup) (last : Request) (repeats : ℕ) (p : Pair) → Brings BUSY p → repeats < 10 →
    IsRow setup (Granting last repeats) p (rests last repeats p.reading)
busy_row setup last repeats p busy fewer =
    cond_both (is_rested last p.reading) _ _ (λ (s : Step). IsRow setup (Granting last repeats) p s)
    (λ e. (busy, repeated p last repeats e fewer))
    (λ e. (busy, not_rested last.start p.reading e, fewer, refl, refl))

-- a target that is busy and is not asked again was asked often enough
often : (busy : Bool) (repeats : ℕ) → (busy && nat_lt repeats 10) ≡ false → repeats ≤ 10 → busy ≡ true → repeats ≡ 10
often true repeats h le e = grind (arith, nat_tests)
often false repeats h le e = absurd cc

answered_row : (setup : MoveSetup) (last : Request) (repeats : ℕ) (p : Pair) (m : PlainMessage) → repeats ≤ 10 → p.reply ≡ Some m →
    (m.head.result ≡ ASYN → setup.wait ≡ false) → IsRow setup (Granting last repeats) p (grant_answered last repeats p.reading (reply_of m))
answered_row setup last repeats p m le is not_begun =
    cond_both (m.head.result == SUCCESS) _ _ row
    (λ e. brings SUCCESS (eqb-true m.head.result SUCCESS e))
    (λ no_success. cond_both (m.head.result == ASYN) _ _ row
    (λ e. (brings ASYN (eqb-true m.head.result ASYN e), not_begun (eqb-true m.head.result ASYN e)))
    (λ no_asyn. cond_both ((m.head.result == BUSY) && nat_lt repeats 10) _ _ row
    (λ e. let both = and_parts (m.head.result == BUSY) (nat_lt repeats 10) e in
    busy_row setup last repeats p (brings BUSY (eqb-true m.head.result BUSY both.0)) (below repeats both.1))
    (λ e. record {
      brings = brings m.head.result refl;
      not_done = eqb-false m.head.result SUCCESS no_success;
      not_begun = eqb-false m.head.result ASYN no_asyn;
      not_repeated = λ busy. often (m.head.result == BUSY) repeats e le (eq_yes m.head.result BUSY busy);
    })))
  where
    row : Step → Type 0
    row s = IsRow setup (Granting last repeats) p s

    brings : (result : ℕ) → m.head.result ≡ result → Brings result p
    brings result e = record { m = m; is = is; with = e }

    below : (n : ℕ) → nat_lt n 10 ≡ true → n < 10
    below n e = grind (arith, nat_tests)

    eq_yes : (a b : ℕ) → a ≡ b → (a == b) ≡ true
    eq_yes a b e = grind (arith, nat_tests)

grant_row : (setup : MoveSetup) (last : Request) (repeats : ℕ) (p : Pair) (waits : Waits) → repeats ≤ 10 → IsJudged setup.wait last p waits →
    IsRow setup (Granting last repeats) p (while_granting last repeats p.reading waits)
grant_row setup last repeats p (On next) le h = (h, refl)
grant_row setup last repeats p Over le h = h
grant_row setup last repeats p (Came reply) le h =
    subst (λ (r : Reply). IsRow setup (Granting last repeats) p (grant_answered last repeats p.reading r)) (sym h.2)
    (answered_row setup last repeats p h.0 le h.1 (λ asyn. h.3 (ap (λ (r : Reply). r.result) h.2 ∙ asyn)))

pause_row : (setup : MoveSetup) (last : Request) (repeats : ℕ) (p : Pair) → last.pairs < MOST_PAIRS → repeats < 10 →
    IsRow setup (Pausing last repeats) p (while_pausing last repeats p.reading)
pause_row setup last repeats p below fewer =
    cond_both (is_rested last p.reading) _ _ (λ (s : Step). IsRow setup (Pausing last repeats) p s)
    (λ e. repeated p last repeats e fewer)
    (λ e. let early : p.reading < last.start + PAUSE = not_rested last.start p.reading e in
    cond_both (last.pairs + 1 == MOST_PAIRS) None (Some (record last { pairs = last.pairs + 1 }))
    (λ (o : Option Request). IsRow setup (Pausing last repeats) p (pauses_on o repeats))
    (λ e. (early, eqb-true (last.pairs + 1) MOST_PAIRS e))
    (λ e. (early, less last.pairs below e, refl, refl)))

-- each step is a row of the table
pub step_row : (setup : MoveSetup) (stage : Stage) (p : Pair) → IsSoundStage stage →
    Follows setup stage p (move_step setup stage p).deed (move_step setup stage p).stage
step_row setup (Opening start) p sound = (refl, refl, refl)
step_row setup (Revoking last sent_on) p sound = revoke_row setup last sent_on p _ (pair_judged setup.wait last p sound)
step_row setup (Granting last repeats) p sound = grant_row setup last repeats p _ sound.1 (pair_judged setup.wait last p sound.0)
step_row setup (Pausing last repeats) p sound = pause_row setup last repeats p sound.0 sound.1
step_row setup Ended p sound = tt
