-- A leader that renews asks each other member, and who hears a message sends the reply of its rule.
use Rattle.std.proofs.Common.{◌≡◌, ◌≢◌, inl, inr, ℕ, zero, suc, ◌+◌, ◌<◌, ◌≤◌, Bool, true, false, not, List, [], ◌∷◌, arith, refl, sym, ap, ◌∙◌, subst, if◌then◌else◌}
use Rattle.std.specs.Prelude.{Option, Some, None, filter, ◌==◌}
use Rattle.std.specs.Option.{ForSome}
use Rattle.std.specs.List.{range_with_len}
use Rattle.std.proofs.lemmas.Bool.{cases_lt}
use Rattle.std.proofs.lemmas.Bool.Decides.{nat_tests}
use Rattle.booth_base.specs.Tree.{Deeds, Ends, Does, ◌>>=◌}
use Rattle.booth_wire.specs.declared.message.Head.{Head}
use Rattle.booth_wire.specs.declared.message.Say.{Say}
use Rattle.booth_wire.specs.declared.message.Say.TheVariants as says
use Rattle.booth_wire.specs.declared.message.Setup.{Setup}
use Rattle.booth_wire.specs.declared.message.TicketPart.{TicketPart}
use Rattle.booth_raft.specs.declared.view.Round.{Round}
use Rattle.booth_raft.specs.declared.view.View.{View}
use Rattle.booth_raft.specs.AskAndRenew.{renew}
use Rattle.booth_raft.specs.Deadlines.{due_now, greeted, hello}
use Rattle.booth_raft.specs.Members.{is_working}
use Rattle.booth_raft.specs.Messages.{asks_all, round_head, round_part}
use Rattle.booth_raft.specs.OtherMessages.{hear as heard}
use Rattle.booth_raft.specs.Outcome.{Outcome}
use Rattle.booth_raft.specs.State.{Step, step}
use Rattle.booth_raft.proofs.FactsLemmas.{on_cond, on_test, some_same, untrue}
use Rattle.booth_ticket.specs.declared.hands.To.TheVariants.{Member}
use Rattle.booth_ticket.specs.declared.request.Given.{Given}
use Rattle.booth_ticket.specs.declared.waiters.Waiter.{Waiter}
use Rattle.booth_ticket.specs.Acts.{Ask as TicketAsk, Say as Speaks}
use Rattle.booth_ticket.specs.Automatic.{come_due, follow, hear, hear_message, role_due, tick}
use Rattle.booth_ticket.specs.Handling.{renews_by}
use Rattle.booth_ticket.specs.Keeping.{carry_out, keep_of, keep_once}
use Rattle.booth_ticket.specs.Saying.{others, say, say_each, say_to}
use Rattle.booth_ticket.proofs.WalkLemmas.{Any}
use Rattle.booth_progress.specs.Extending.{Hearing, after_hearing}
use Rattle.booth_progress.specs.Kept.{AllKept, OneKept, all_kept}
use Rattle.booth_progress.specs.Leading.{HasTermsLeft, IsLeading, IsOpened, IsToRenew, OpensRound}
use Rattle.booth_progress.specs.Renewing.{after_renewal, said_after}
use Rattle.booth_progress.specs.Speaking.{IsSaid, Replies, TicketsSpeak, WillAsk}
use Rattle.booth_progress.specs.Written.{IsWritten, Leaves, Whenever, core_of}
use Rattle.booth_progress.proofs.DueLemmas.{IsIn}
use Rattle.booth_progress.proofs.ExtendingLemmas.{some_and}
use Rattle.booth_progress.proofs.LeadingLemmas.{leading_near}
use Rattle.booth_progress.proofs.OpeningLemmas.{leaders_open_rounds}
use Rattle.booth_progress.proofs.TicketLemmas.{leads_not_works}
use Rattle.booth_progress.proofs.WrittenLemmas.{IsIts, due_leaves, heard_leaves, outcome_of, whatever, written}

-- ---- trees alone

pub will_first : {A S T : Type 0} (May : A → Bool → Type 0) (P : A → Type 0) (t : Deeds A S) (f : S → Deeds A T)
    → WillAsk May P t → WillAsk May P (t >>= f)
will_first May P (Ends s) f h = absurd h
will_first May P (Does a g) f (inl is) = inl is
will_first May P (Does a g) f (inr later) = inr (λ ok may. will_first May P (g ok) f (later ok may))

pub will_later : {A S T : Type 0} (May : A → Bool → Type 0) (P : A → Type 0) (Q : S → Type 0) (t : Deeds A S) (f : S → Deeds A T)
    → Whenever May Q t → ((s : S) → Q s → WillAsk May P (f s)) → WillAsk May P (t >>= f)
will_later May P Q (Ends s) f h on = on s h
will_later May P Q (Does a g) f h on = inr (λ ok may. will_later May P Q (g ok) f (h ok may) on)

-- ---- what is said

each_said : (place : ℕ) (places : List ℕ) (head : Head) (part : TicketPart) → IsIn place places
    → WillAsk IsWritten (IsSaid (Member place) head part) (say_each places head part)
unfolding say_each say_to
each_said place [] head part among = absurd among
each_said place (first ∷ places) head part (inl same) =
    inl (ap (λ (p : ℕ). Speaks (Member p) head part) same)
each_said place (first ∷ places) head part (inr later) = inr (λ ok may. each_said place places head part later)

kept_in : (p : ℕ → Bool) (place : ℕ) (places : List ℕ) → IsIn place places → p place ≡ true → IsIn place (filter p places)
kept_in p place [] among so = absurd among
kept_in p place (first ∷ places) (inl same) so =
    on_test (λ (xs : List ℕ). IsIn place xs) (p first) (first ∷ filter p places) (filter p places)
    (λ is. inl same) (λ no. absurd (untrue (sym no ∙ (ap p same ∙ so))))
kept_in p place (first ∷ places) (inr later) so =
    on_cond (λ (xs : List ℕ). IsIn place xs) (p first) (first ∷ filter p places) (filter p places)
    (inr (kept_in p place places later so)) (kept_in p place places later so)

in_range : (from count place : ℕ) → from ≤ place → place < from + count → IsIn place (range_with_len from count)
in_range from zero place above below = absurd (omega (arith, above, below))
in_range from (suc count) place above below =
    elim (cases_lt from place) [
      | inl later ↦ inr (in_range (from + 1) count place (omega (arith, later)) (omega (arith, below)))
      | inr not_later ↦ inl (omega (arith, above, not_later))
    ]

not_equal : (a b : ℕ) → a ≢ b → not (a == b) ≡ true
not_equal a b ne = by_test (a == b) refl
  where
    by_test : (t : Bool) → a == b ≡ t → not t ≡ true
    by_test true e = absurd (ne (grind (arith, nat_tests)))
    by_test false e = refl

is_other : (setup : Setup) (place : ℕ) → place < setup.members → place ≢ setup.place → IsIn place (others setup)
is_other setup place below other =
    kept_in (λ (p : ℕ). not (p == setup.place)) place (range_with_len 0 setup.members)
    (in_range 0 setup.members place (omega arith) (omega (arith, below))) (not_equal place setup.place other)

-- ---- a step

module _ (setup : Setup) (now : ℕ) (P : TicketAsk → Type 0) where
  will_carry : (Q : Outcome → Type 0) (from : Option ℕ) (x : Step) → x.core.setup ≡ setup → AllKept setup now Q (outcome_of x)
      → ((outcome : Outcome) → Q outcome → WillAsk IsWritten P (say setup from outcome.deed.say))
      → WillAsk IsWritten P (carry_out from now x)
  unfolding carry_out keep_once
  will_carry Q from x its h says_so =
      will_later IsWritten P (IsIts setup now (OneKept setup now Q)) (keep_of now x.deed.keep x) _
      (written setup now (OneKept setup now Q) x.deed.keep x its h)
      (λ first f. will_later IsWritten P (IsIts setup now Q) (keep_of now first.deed.keep first) _
      (written setup now Q first.deed.keep first f.0 f.1)
      (λ last l. will_first IsWritten P (say last.core.setup from last.deed.say) _
      (subst (λ (s : Setup). WillAsk IsWritten P (say s from last.deed.say)) (sym l.0) (says_so (outcome_of last) l.1))))

-- ---- a message

module _ (setup : Setup) (view : View) (waiters : List Waiter) (hearing : Hearing) where
  abbrev rule : Outcome
  rule = heard setup view hearing.place hearing.head hearing.part hearing.now hearing.head.cmd

  replies_so : Replies hearing.place (said_after setup view hearing)
      (hear (core_of setup view) waiters hearing.place hearing.head hearing.part hearing.now)
  unfolding hear hear_message say_to
  replies_so = by_say (said_after setup view hearing) refl
    where
      by_say : (words : Say) → said_after setup view hearing ≡ words
          → Replies hearing.place words (hear (core_of setup view) waiters hearing.place hearing.head hearing.part hearing.now)
      by_say says.Nothing is = tt
      by_say (says.All head part) is = tt
      by_say (says.Unanswered head part bits) is = tt
      by_say (says.Reply head part) is =
          will_first IsWritten (IsSaid (Member hearing.place) head part)
          (hear_message (core_of setup view) hearing.place hearing.head hearing.part hearing.now) _
          (will_carry setup hearing.now (IsSaid (Member hearing.place) head part) (λ (o : Outcome). o.deed.say ≡ says.Reply head part)
          (Some hearing.place) (step (core_of setup view) rule) refl is
          (λ outcome same. subst (λ (words : Say). WillAsk IsWritten (IsSaid (Member hearing.place) head part)
          (say setup (Some hearing.place) words)) (sym same) (inl refl)))

-- ---- a renewal

module _ (setup : Setup) (view : View) (waiters : List Waiter) (given : Given) (no_handler : given.job ≡ None)
    (l : IsLeading setup given.now view)
    (wants_it : IsToRenew setup given.now (greeted setup view) (due_now setup (greeted setup view) given.now)) where
  abbrev met : View
  met = greeted setup view

  met_leads : IsLeading setup given.now met
  met_leads =
      leading_near setup given.now view met
      (record { role = refl; job = refl; waiting = refl; kept = refl; force = refl; round = refl; due = refl; above = omega arith; abstain = refl; promise = λ at h. h }) l

  abbrev renewal : Step
  renewal = step (core_of setup met) (renew setup met given.now)

  no_job : (if setup.site then given.job else None) ≡ None
  no_job = on_cond (λ (o : Option ℕ). o ≡ None) setup.site given.job None no_handler refl

  -- the rule of the role wants to renew, and there is no handler to ask first
  role_renews : role_due (core_of setup met) given ≡ Ends renewal
  role_renews =
      on_test (λ (deeds : Deeds TicketAsk Step). deeds ≡ Ends renewal) (is_working view.role) _ _
      (λ yes. absurd (leads_not_works view.role l.leads yes))
      (λ no. subst (λ (o : Outcome). follow (step (core_of setup met) o) o.deed.want given ≡ Ends renewal) (sym wants_it.wanted)
      (ap (λ (job : Option ℕ). renews_by (core_of setup met) job given.now) no_job))

  abbrev left : View
  left = after_renewal setup met given.now

  renewed_so : Leaves setup (λ v. v ≡ after_renewal setup (greeted setup view) given.now) (come_due (core_of setup view) waiters given)
  renewed_so =
      due_leaves setup (λ v. v ≡ left) waiters view given
      (subst (λ (deeds : Deeds TicketAsk Step). Whenever IsWritten
      (IsIts setup given.now (AllKept setup given.now (λ (o : Outcome). o.view ≡ left))) deeds) (sym role_renews) (refl, refl))

  asks_so : 1 < setup.members → HasTermsLeft view → (place : ℕ) → place < setup.members → place ≢ setup.place
      → ForSome left.round (λ round. WillAsk IsWritten
      (IsSaid (Member place) (round_head setup left round.number) (round_part setup left given.now))
      (come_due (core_of setup view) waiters given))
  unfolding come_due tick
  asks_so two terms place below other round some =
      will_first IsWritten Wanted (tick (core_of setup view) given) _
      (will_later IsWritten Wanted Any (say setup None (hello setup view given.now)) _ (whatever IsWritten (say setup None (hello setup view given.now)))
      (λ done any. subst (λ (deeds : Deeds TicketAsk Step). WillAsk IsWritten Wanted (deeds >>= (λ begun. carry_out None given.now begun)))
      (sym role_renews)
      (will_carry setup given.now Wanted Says None renewal refl (by_round (some_and _ left.round opens.round))
      (λ outcome said. subst (λ (words : Say). WillAsk IsWritten Wanted (say setup None words)) (sym said)
      (each_said place (others setup) (round_head setup left round.number) (round_part setup left given.now)
      (is_other setup place below other))))))
    where
      Wanted : TicketAsk → Type 0
      Wanted ask = IsSaid (Member place) (round_head setup left round.number) (round_part setup left given.now) ask

      Says : Outcome → Type 0
      Says outcome = outcome.deed.say ≡ asks_all setup left round.number given.now

      opens : OpensRound setup given.now met (all_kept setup given.now (renew setup met given.now))
      opens =
          leaders_open_rounds.renewed setup met given.now two met_leads (record { terms = terms.terms; numbers = terms.numbers })

      by_round : (r : Round) × (left.round ≡ Some r) × IsOpened setup given.now (all_kept setup given.now (renew setup met given.now)) r
          → Says (all_kept setup given.now (renew setup met given.now))
      by_round (r, found, fresh) =
          fresh.said ∙ ap (λ (x : Round). asks_all setup left x.number given.now) (some_same (sym found ∙ some))

pub tickets_speak : TicketsSpeak
tickets_speak = record {
  asks = λ setup view waiters given place no_handler two l terms wants_it below other.
      asks_so setup view waiters given no_handler l wants_it two terms place below other;
  renewed = λ setup view waiters given no_handler l wants_it. renewed_so setup view waiters given no_handler l wants_it;
  replies = λ setup view waiters hearing. replies_so setup view waiters hearing;
  heard = λ setup view waiters hearing.
      heard_leaves setup (λ v. v ≡ after_hearing setup view hearing) waiters view hearing.place hearing.head hearing.part hearing.now refl;
}
