-- By the steady rules a leader whose round was refused or not won takes a new term.
use Rattle.std.proofs.Common.{◌≡◌, ℕ, ◌+◌, ◌<◌, Bool, true, false, ◌&&◌, ◌||◌, not, inl, inr, arith, refl, sym, ap, ◌∙◌, subst}
use Rattle.std.specs.Prelude.{Option, Some, None, min, nat_lt, ◌==◌}
use Rattle.std.proofs.lemmas.Bool.Decides.{nat_tests}
use Rattle.booth_wire.specs.declared.codes.reasons.TheConstants.{RACQ}
use Rattle.booth_wire.specs.declared.codes.results.TheConstants.{TODT}
use Rattle.booth_wire.specs.declared.command.Cmd.TheVariants.{Rjc}
use Rattle.booth_wire.specs.declared.message.Head.{Head}
use Rattle.booth_wire.specs.declared.message.TicketPart.{TicketPart}
use Rattle.booth_wire.specs.declared.message.Setup.{Setup}
use Rattle.booth_raft.specs.declared.deed.Want.TheVariants as wants
use Rattle.booth_raft.specs.declared.view.Round.{Round}
use Rattle.booth_raft.specs.declared.view.View.{View}
use Rattle.booth_raft.specs.AskAndRenew.{answers_itself, are_terms_spent, asking, in_next_term, needs_term, next_term, renew, renew_by_term}
use Rattle.booth_raft.specs.Deadlines.{due_now}
use Rattle.booth_raft.specs.GainReleaseLost.{record_of}
use Rattle.booth_raft.specs.Members.{is_some_member}
use Rattle.booth_raft.specs.OtherMessages.{hear, is_bound_elsewhere, refused}
use Rattle.booth_raft.specs.Outcome.{Outcome, quiet, wanting}
use Rattle.booth_raft.specs.StartAndLearn.{with_seen}
use Rattle.booth_raft.proofs.FactsLemmas.{on_cond, on_option, on_test, untrue}
use Rattle.booth_progress.specs.Kept.{AllKept}
use Rattle.booth_progress.specs.Leading.{HasTermsLeft, IsLeading, IsToRenew, OpensRound, SendsAgain}
use Rattle.booth_progress.specs.Steady.{AsksInNewTerm, HasSeenMore, IsRefusalOf, LeadersTakeNewTerms}
use Rattle.booth_progress.proofs.LeadingLemmas.{leading_near, learns_term, refused_near}
use Rattle.booth_progress.proofs.OpeningLemmas.{leaders_open_rounds, renews_by_term, term_once}

-- ---- tests

both_true : (a b : Bool) → a ≡ true → b ≡ true → a && b ≡ true
both_true false b p q = absurd (untrue p)
both_true true b p q = q

refuses_it : (a b c won : Bool) → a ≡ true → b ≡ true → c ≡ true → won ≡ false → a && (b && (c && not won)) ≡ true
refuses_it false b c won p q r w = absurd (untrue p)
refuses_it true false c won p q r w = absurd (untrue q)
refuses_it true true false won p q r w = absurd (untrue r)
refuses_it true true true true p q r w = absurd (untrue (sym w))
refuses_it true true true false p q r w = refl

not_kept : (own later steady won : Bool) → steady ≡ true → won ≡ false → not own || (later || (steady && not won)) ≡ false → ⊥
not_kept false later steady won s w e = untrue (sym e)
not_kept true true steady won s w e = untrue (sym e)
not_kept true false false won s w e = untrue s
not_kept true false true true s w e = untrue (sym w)
not_kept true false true false s w e = untrue (sym e)

not_later : (own later unwon : Bool) → later ≡ true → not own || (later || unwon) ≡ false → ⊥
not_later false later unwon l e = untrue (sym e)
not_later true false unwon l e = untrue l
not_later true true unwon l e = untrue (sym e)

is_less : (a b : ℕ) → a < b → nat_lt a b ≡ true
is_less a b below = grind (arith, nat_tests)

is_equal : (a b : ℕ) → a ≡ b → a == b ≡ true
is_equal a b e = grind (arith, nat_tests)

module _ (setup : Setup) (now : ℕ) where
  -- ---- a refusal

  rejects : (view : View) (head : Head) (part : TicketPart) → view.term < 4294967295
      → setup.steady && is_bound_elsewhere view.round head part ≡ true
      → ((refused setup view head part).term ≡ view.term) × (view.term < (refused setup view head part).seen)
  rejects view head part below is =
      on_test (λ (w : View). (w.term ≡ view.term) × (view.term < w.seen)) (setup.steady && is_bound_elsewhere view.round head part)
      (with_seen view (min (view.term + 1) 4294967295)) view
      (λ yes. (refl, omega (arith, below))) (λ no. absurd (untrue (sym no ∙ is)))

  bound_so : (round : Round) (head : Head) (part : TicketPart) → round.won ≡ false → IsRefusalOf round head part
      → is_bound_elsewhere (Some round) head part ≡ true
  bound_so round head part unwon refusal =
      refuses_it (head.result == TODT) (round.number == head.options) (round.term == part.term) round.won
      (is_equal head.result TODT refusal.result) (is_equal round.number head.options (sym refusal.number))
      (is_equal round.term part.term (sym refusal.term)) unwon

  refusals : (view : View) (place : ℕ) (head : Head) (part : TicketPart) (round : Round)
      → setup.steady ≡ true → IsLeading setup now view → view.round ≡ Some round
      → round.won ≡ false → view.term < 4294967295 → IsRefusalOf round head part
      → AllKept setup now (HasSeenMore view) (hear setup view place head part now Rjc)
  refusals view place head part round steady l is unwon below refusal =
      subst (λ (w : View). HasSeenMore view (quiet w))
      (sym (learns_term setup now rejected part (leading_near setup now view rejected (refused_near setup now view head part) l)))
      (record { same = seen.0; above = more })
    where
      rejected : View
      rejected = refused setup view head part

      seen : (rejected.term ≡ view.term) × (view.term < rejected.seen)
      seen =
          rejects view head part below
          (both_true setup.steady (is_bound_elsewhere view.round head part) steady
          (ap (λ (o : Option Round). is_bound_elsewhere o head part) is ∙ bound_so round head part unwon refusal))

      more : (with_seen rejected part.term).term < (with_seen rejected part.term).seen
      more =
          let same : rejected.term ≡ view.term = seen.0 in
          let above : view.term < rejected.seen = seen.1 in omega (arith, same, above)

  -- ---- a deadline

  due_renews : (view : View) → setup.steady ≡ true → IsLeading setup now view → view.term < view.seen
      → due_now setup view now ≡ wanting view wants.Renew
  due_renews view steady l above =
      elim (leaders_open_rounds.due setup view now l) [
        | inl again ↦
            let sends : SendsAgain setup now view (due_now setup view now) = again in
            absurd (untrue (sym sends.timely
            ∙ both_true setup.steady (nat_lt view.term view.seen) steady (is_less view.term view.seen above)))
        | inr renews ↦ let to_renew : IsToRenew setup now view (due_now setup view now) = renews in to_renew.wanted
      ]

  -- ---- a renewal

  module _ (two : 1 < setup.members) where
    abbrev New : View → Outcome → Type 0
    New view outcome = AllKept setup now (AsksInNewTerm setup now view) outcome

    new_term : (view : View) → IsLeading setup now view → are_terms_spent view ≡ false → New view (renew_by_term setup view now)
    new_term view l left =
        on_test Whole (are_terms_spent view) _ _ (λ spent. absurd (untrue (sym left ∙ spent)))
        (λ unspent opens. record { opens = opens; term = term_once setup now two asked 0 ∙ asked_term })
        (renews_by_term setup now two view l left)
      where
        Whole : Outcome → Type 0
        Whole outcome = AllKept setup now (OpensRound setup now view) outcome → New view outcome

        wanted : View
        wanted = asking setup view RACQ now

        asked : View
        asked = record wanted { waiting = None; kept = record_of setup wanted view.kept.lease; sure = true; bound = Some setup.me }

        asked_term : wanted.term ≡ next_term view
        asked_term =
            on_cond (λ (w : View). w.term ≡ next_term view) setup.second _ _
            (on_cond (λ (w : View). w.term ≡ next_term view) (answers_itself setup (in_next_term view RACQ) now) _ (in_next_term view RACQ)
            refl refl)
            refl

    by_new_term : (view : View) → IsLeading setup now view → HasTermsLeft view
        → ((round : Round) → view.round ≡ Some round → needs_term setup view round ≡ false → ⊥)
        → New view (renew setup view now)
    by_new_term view l left needs =
        on_option (New view) view.round _ _ (λ none. new_term view l left.terms)
        (λ round some. on_test (New view) (needs_term setup view round) _ _ (λ yes. new_term view l left.terms)
        (λ no. absurd (needs round some no)))

pub leaders_take_new_terms : LeadersTakeNewTerms
leaders_take_new_terms = record {
  refused = λ setup view now place head part round steady l is unwon below refusal.
      refusals setup now view place head part round steady l is unwon below refusal;
  due = λ setup view now steady l above. due_renews setup now view steady l above;
  unwon = λ setup view now steady two l left unwon.
      by_new_term setup now two view l left
      (λ round some no. not_kept (is_some_member view.bound setup.me) (nat_lt view.term view.seen) setup.steady round.won steady
      (unwon round some) no);
  seen = λ setup view now two l left above.
      by_new_term setup now two view l left
      (λ round some no. not_later (is_some_member view.bound setup.me) (nat_lt view.term view.seen) (setup.steady && not round.won)
      (is_less view.term view.seen above) no);
  free = λ view site term now free below. record {
    rested = free.rested;
    unforced = free.unforced;
    unpromised = free.unpromised;
    unbound = inl below;
  };
}
