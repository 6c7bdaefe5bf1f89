-- A member that has promised to a site stays behind it.
use Rattle.std.proofs.Common.{◌≡◌, ◌≢◌, ◌⊎◌, inl, inr, ℕ, ◌+◌, ◌*◌, ◌<◌, ◌≤◌, Bool, true, false, ◌&&◌, not, arith, refl, sym, ap, ◌∙◌, subst}
use Rattle.std.specs.Prelude.{Option, Some, None, IsSomeAnd, min, nat_lt, nat_le, ◌==◌}
use Rattle.std.specs.Option.{ForSome}
use Rattle.std.proofs.lemmas.Bool.{cases_lt}
use Rattle.std.proofs.lemmas.Bool.Decides.{nat_tests}
use Rattle.booth_base.specs.declared.address.MemberId.{MemberId}
use Rattle.booth_base.specs.Times.{promise_of}
use Rattle.booth_rec.specs.declared.record.Promise.{Promise}
use Rattle.booth_rec.specs.declared.record.Record.{Record}
use Rattle.booth_wire.specs.declared.command.Cmd.{Cmd}
use Rattle.booth_wire.specs.declared.command.Cmd.TheVariants as cmds
use Rattle.booth_wire.specs.declared.codes.reasons.TheConstants.{LOCF, SPLT}
use Rattle.booth_wire.specs.declared.message.Head.{Head}
use Rattle.booth_wire.specs.declared.message.TicketPart.{TicketPart}
use Rattle.booth_wire.specs.declared.message.Setup.{Setup}
use Rattle.booth_raft.specs.declared.deed.Want.TheVariants as wants
use Rattle.booth_raft.specs.declared.view.Role.{Role}
use Rattle.booth_raft.specs.declared.view.Role.TheVariants.{Follower, Working, Candidate, Leader}
use Rattle.booth_raft.specs.declared.view.Round.{Round}
use Rattle.booth_raft.specs.declared.view.RoundKind.{RoundKind}
use Rattle.booth_raft.specs.declared.view.RoundKind.TheVariants.{Election, Renewal}
use Rattle.booth_raft.specs.declared.view.Shown.{Shown}
use Rattle.booth_raft.specs.declared.view.View.{View}
use Rattle.booth_raft.specs.GainReleaseLost.{record_of}
use Rattle.booth_raft.specs.Deadlines.{due_now, is_silent, waits_or_acquires}
use Rattle.booth_raft.specs.Members.{is_follower, is_promised_elsewhere, is_same}
use Rattle.booth_raft.specs.Messages.{answers_round, shown_end}
use Rattle.booth_raft.specs.OtherMessages.{freed, given_back, hear, is_bound_elsewhere, is_freed_by, is_owner, refused, revoked, unasking}
use Rattle.booth_raft.specs.Outcome.{Outcome}
use Rattle.booth_raft.specs.RoundsAndAnswers.{MayAnswer, answered_round, hear_answer, hear_round, may_answer, promised, promises_round, shows_site, stood_down, told_by_answer, with_due, with_site}
use Rattle.booth_raft.specs.StartAndLearn.{awaits_failover, learned, shows_leader, with_failover, with_seen, with_shown}
use Rattle.booth_raft.proofs.AnswerLemmas.{is_same-true, same-is_same, tests_may_answer}
use Rattle.booth_raft.proofs.FactsLemmas.{not_some, on_active, on_cond, on_option, on_test, some_same, untrue}
use Rattle.booth_progress.specs.Behind.{AnswersLeaveBehind, AnswersSo, BehindAfter, IsBehind, IsFair, MembersStayBehind}
use Rattle.booth_progress.specs.Kept.{AllKept}

-- a view that differs in what is shown, in its deadline and such alone
pub record Alike (old new : View) : Type 0 where
  pub role : new.role ≡ old.role
  pub round : new.round ≡ old.round
  pub waiting : new.waiting ≡ old.waiting
  pub abstain : new.abstain ≡ old.abstain
  pub force : new.force ≡ old.force
  pub promise : new.promise ≡ old.promise
  pub term : new.term ≡ old.term
  pub bound : new.bound ≡ old.bound

alike : (view : View) → Alike view view
alike view = record { role = refl; round = refl; waiting = refl; abstain = refl; force = refl; promise = refl; term = refl; bound = refl }

pub on_follower : {B : Type 0} (P : B → Type 0) (role : Role) (follower working candidate leader : B) → is_follower role ≡ true
    → P follower → P (elim role [ Follower ↦ follower | Working ↦ working | Candidate ↦ candidate | Leader ↦ leader ])
on_follower P Follower follower working candidate leader e p = p
on_follower P Working follower working candidate leader e p = absurd (untrue e)
on_follower P Candidate follower working candidate leader e p = absurd (untrue e)
on_follower P Leader follower working candidate leader e p = absurd (untrue e)

module _ (site : MemberId) (since term until now : ℕ) where
  abbrev Behind : View → Type 0
  Behind view = IsBehind site since term until now view

  pub behind_alike : (old new : View) → Alike old new → Behind old → Behind new
  behind_alike old new same b = record {
    follows = rw same.role b.follows;
    idle = rw same.round b.idle;
    rests = rw same.waiting b.rests;
    rested = rw same.abstain b.rested;
    unforced = rw same.force b.unforced;
    reached = rw same.term b.reached;
    promised = rw same.promise b.promised;
    unbound = rw (same.term, same.bound) b.unbound;
  }

  -- ---- what is heard

  site_alike : (view : View) (owner : MemberId) (kind : RoundKind) (part : TicketPart) → Alike view (with_site view owner kind part now)
  site_alike view owner kind part =
      on_cond (λ (w : View). Alike view w) (shows_site kind part) (with_shown view owner (now + 1000 * part.valid_for)) view
      (record { role = refl; round = refl; waiting = refl; abstain = refl; force = refl; promise = refl; term = refl; bound = refl })
      (alike view)

  due_alike : (setup : Setup) (view : View) (kind : RoundKind) (part : TicketPart) → Alike view (with_due setup view kind part now)
  due_alike setup view kind part =
      on_cond (λ (w : View). Alike view w) (awaits_failover setup view && view.managed) _ view
      (record { role = refl; round = refl; waiting = refl; abstain = refl; force = refl; promise = refl; term = refl; bound = refl })
      (alike view)

  learned_alike : (setup : Setup) (view : View) (part : TicketPart) → Alike view (learned setup view part now)
  learned_alike setup view part =
      let shown : View = with_shown (with_seen view part.term) part.leader (now + 1000 * part.valid_for) in
      on_cond (λ (w : View). Alike view w) (shows_leader setup view part now) (with_failover setup shown) (with_seen view part.term)
      (on_cond (λ (w : View). Alike view w) (awaits_failover setup shown) _ shown
      (record { role = refl; round = refl; waiting = refl; abstain = refl; force = refl; promise = refl; term = refl; bound = refl })
      (record { role = refl; round = refl; waiting = refl; abstain = refl; force = refl; promise = refl; term = refl; bound = refl }))
      (record { role = refl; round = refl; waiting = refl; abstain = refl; force = refl; promise = refl; term = refl; bound = refl })

  -- the promise that is live is to no other than the site
  the_site : (promise : Option Promise) (other : MemberId) → now < until
      → IsSomeAnd promise (λ p. (p.to ≡ site) × (since ≤ p.term) × (until ≤ p.until))
      → ForSome promise (λ p. p.to ≢ other → p.until ≤ now) → other ≡ site
  the_site None other before some none = absurd some
  the_site (Some p) other before some none = by_test (is_same other site) refl
    where
      by_test : (b : Bool) → is_same other site ≡ b → other ≡ site
      by_test true e = is_same-true other site e
      by_test false e =
          let over : p.until ≤ now = none p refl (λ to. absurd (differ to)) in
          let lasts : until ≤ p.until = some.2 in absurd (omega (arith, before, over, lasts))
        where
          differ : p.to ≡ other → ⊥
          differ to =
              let shown : is_same other site ≡ true = same-is_same other site (sym to ∙ some.0) in untrue (sym e ∙ shown)

  module _ (setup : Setup) (before : now < until) (lasts : until ≤ now + promise_of setup.times) where
    abbrev After : Outcome → Type 0
    After outcome = BehindAfter site since term until now outcome

    round_heard : (view : View) (kind : RoundKind) (head : Head) (part : TicketPart) → Behind view
        → (head.from ≡ site → part.term ≤ term) → AllKept setup now After (hear_round setup view kind head part now)
    round_heard view kind head part b known =
        on_test (AllKept setup now After) (may_answer view head.from part.term now) _ _ answers (λ no. b)
      where
        answers : may_answer view head.from part.term now ≡ true
            → AllKept setup now After (promises_round setup (answered_round setup view head.from kind part now) kind head part.term
            (told_by_answer view.role) now)
        answers allowed = promises (the_site view.promise head.from before b.promised may.unpromised)
          where
            may : MayAnswer view head.from part.term now
            may = (tests_may_answer view head.from part.term now).0 allowed

            bound : View
            bound = promised setup view head.from part.term now

            stands : head.from ≡ site → Behind (stood_down bound)
            stands same =
                on_active (λ (w : View). Behind w) view.role _ _ bound
                (going Follower None refl refl) (going view.role None b.follows refl) (λ rests. going view.role view.round b.follows b.idle)
              where
                earlier : part.term ≤ term
                earlier = known same

                no_less : since ≤ part.term
                no_less =
                    let reached : since ≤ view.term = b.reached in
                    elim may.unbound [
                      | inl newer ↦ omega (arith, reached, newer)
                      | inr own ↦ let its : view.term ≡ part.term = own.0 in omega (arith, reached, its)
                    ]

                in_term : (part.term < term) ⊎ ((part.term ≡ term) × ForSome (Some head.from) (λ x. x ≡ site))
                in_term = elim (cases_lt part.term term) [
                  | inl below ↦ inl below
                  | inr above ↦ inr (omega (arith, earlier, above), λ x e. sym (some_same e) ∙ same)
                ]

                going : (role : Role) (round : Option Round) → is_follower role ≡ true → round ≡ None
                    → Behind (record bound { role = role; round = round })
                going role round follows idle = record {
                  follows = follows;
                  idle = idle;
                  rests = b.rests;
                  rested = b.rested;
                  unforced = b.unforced;
                  reached = no_less;
                  promised = (same, no_less, lasts);
                  unbound = in_term;
                }

            answered : View
            answered = answered_round setup view head.from kind part now

            stays : head.from ≡ site → Behind answered
            stays same =
                let shown : View = with_site (stood_down bound) head.from kind part now in
                behind_alike shown answered (due_alike setup shown kind part)
                (behind_alike (stood_down bound) shown (site_alike (stood_down bound) head.from kind part) (stands same))

            kept_so : Behind answered → (tried : Record) → Behind (record answered { waiting = None; kept = tried; sure = true })
            kept_so b tried = record {
              follows = b.follows;
              idle = b.idle;
              rests = refl;
              rested = b.rested;
              unforced = b.unforced;
              reached = b.reached;
              promised = b.promised;
              unbound = b.unbound;
            }

            promises : head.from ≡ site → AllKept setup now After (promises_round setup answered kind head part.term (told_by_answer view.role) now)
            promises same =
                on_cond (AllKept setup now After) setup.second _ _
                (kept_so (stays same) (record_of setup answered answered.kept.lease)) (stays same)

    answer_heard : (view : View) (place : ℕ) (head : Head) (part : TicketPart) → Behind view
        → AllKept setup now After (hear_answer setup view place head part now)
    answer_heard view place head part b =
        on_option (AllKept setup now After) view.round _ _ (λ e. b) (λ round e. absurd (not_some (sym b.idle ∙ e)))

    -- ---- a revocation

    second : (a b : Bool) → a && b ≡ true → b ≡ true
    second true b e = e
    second false b e = absurd (untrue e)

    at_most : (a b : ℕ) → nat_le a b ≡ true → a ≤ b
    at_most a b e = grind (arith, nat_tests)

    not_freed : (promise : Option Promise) (other : MemberId) (last : ℕ)
        → IsSomeAnd promise (λ p. (p.to ≡ site) × (since ≤ p.term) × (until ≤ p.until)) → (other ≡ site → last < since) → is_freed_by promise other last ≡ true → ⊥
    not_freed None other last some apart e = absurd some
    not_freed (Some p) other last some apart e = by_test (is_same p.to other) refl
      where
        by_test : (b : Bool) → is_same p.to other ≡ b → ⊥
        by_test true same =
            let early : last < since = apart (sym (is_same-true p.to other same) ∙ some.0) in
            let late : since ≤ p.term = some.1 in
            let over : p.term ≤ last = at_most p.term last (second (is_same p.to other) (nat_le p.term last) e) in
            absurd (omega (arith, early, late, over))
        by_test false other_one = untrue (sym (ap (λ (b : Bool). b && nat_le p.term last) other_one) ∙ e)

    freed_alike : (view : View) (other : MemberId) (last : ℕ) → Behind view → (other ≡ site → last < since) → Alike view (freed view other last)
    freed_alike view other last b apart =
        on_test (λ (w : View). Alike view w) (is_freed_by view.promise other last) _ view
        (λ e. absurd (not_freed view.promise other last b.promised apart e)) (λ e. alike view)

    given_alike : (view : View) (reason : ℕ) → Alike view (given_back setup view reason now)
    given_alike view reason =
        on_cond (λ (w : View). Alike view w) (reason == LOCF) _ _
        (on_cond (λ (w : View). Alike view w) (is_follower view.role && setup.site) _ view
        (record { role = refl; round = refl; waiting = refl; abstain = refl; force = refl; promise = refl; term = refl; bound = refl })
        (alike view))
        (on_cond (λ (w : View). Alike view w) (is_follower view.role && view.repeat == 0) _ _
        (record { role = refl; round = refl; waiting = refl; abstain = refl; force = refl; promise = refl; term = refl; bound = refl })
        (record { role = refl; round = refl; waiting = refl; abstain = refl; force = refl; promise = refl; term = refl; bound = refl }))

    revoked_behind : (view : View) (other : MemberId) (last reason : ℕ) → Behind view → (other ≡ site → last < since)
        → Behind (revoked setup view other last reason now)
    revoked_behind view other last reason b apart =
        let free : View = freed view other last in
        let hidden : View = record free { shown = None } in
        let to_free : Behind free = behind_alike view free (freed_alike view other last b apart) b in
        on_cond Behind (nat_le view.term last && is_owner view.shown other && not (reason == SPLT)) _ _
        (behind_alike hidden (given_back setup hidden reason now) (given_alike hidden reason)
        (behind_alike free hidden
        (record { role = refl; round = refl; waiting = refl; abstain = refl; force = refl; promise = refl; term = refl; bound = refl })
        to_free))
        to_free

    -- ---- by command

    seen_behind : (view : View) (heard : ℕ) → Behind view → Behind (with_seen view heard)
    seen_behind view heard b =
        behind_alike view (with_seen view heard)
        (record { role = refl; round = refl; waiting = refl; abstain = refl; force = refl; promise = refl; term = refl; bound = refl }) b

    learned_behind : (view : View) (part : TicketPart) → Behind view → Behind (learned setup view part now)
    learned_behind view part b = behind_alike view (learned setup view part now) (learned_alike setup view part) b

    refused_behind : (view : View) (head : Head) (part : TicketPart) → Behind view → Behind (refused setup view head part)
    refused_behind view head part b =
        on_cond Behind (setup.steady && is_bound_elsewhere view.round head part) (with_seen view (min (view.term + 1) 4294967295)) view
        (seen_behind view (min (view.term + 1) 4294967295) b) b

    unasking_behind : (view : View) (reason : ℕ) → Behind view → Behind (unasking setup view reason)
    unasking_behind view reason b =
        on_cond Behind (setup.steady && not (reason == SPLT)) (record view { hello = false }) view
        (behind_alike view (record view { hello = false })
        (record { role = refl; round = refl; waiting = refl; abstain = refl; force = refl; promise = refl; term = refl; bound = refl }) b)
        b

    heard_behind : (view : View) (place : ℕ) (head : Head) (part : TicketPart) (cmd : Cmd) → Behind view → IsFair site since term cmd head part
        → AllKept setup now After (hear setup view place head part now cmd)
    heard_behind view place head part cmds.RVot b fair =
        on_cond (AllKept setup now After) (head.options == 0) _ _
        (round_heard (with_seen view part.term) Election head part (seen_behind view part.term b) fair.known)
        (seen_behind view part.term b)
    heard_behind view place head part cmds.HrtB b fair =
        on_cond (AllKept setup now After) (head.options == 0) _ _
        (seen_behind view part.term b)
        (round_heard (with_seen view part.term) Renewal head part (seen_behind view part.term b) fair.known)
    heard_behind view place head part cmds.VtFr b fair =
        on_cond (AllKept setup now After) (head.options == 0) _ _
        (answer_heard (with_seen view part.term) place head part (seen_behind view part.term b))
        (seen_behind view part.term b)
    heard_behind view place head part cmds.Ack b fair =
        on_cond (AllKept setup now After) (head.options == 0) _ _
        (seen_behind view part.term b)
        (answer_heard (with_seen view part.term) place head part (seen_behind view part.term b))
    heard_behind view place head part cmds.Stat b fair = learned_behind view part b
    heard_behind view place head part cmds.MIdx b fair = learned_behind view part b
    heard_behind view place head part cmds.Rjc b fair =
        learned_behind (refused setup view head part) part (refused_behind view head part b)
    heard_behind view place head part cmds.UpdE b fair = learned_behind view part b
    heard_behind view place head part cmds.Revk b fair =
        revoked_behind (unasking setup (with_seen view part.term) head.reason) head.from part.term head.reason
        (unasking_behind (with_seen view part.term) head.reason (seen_behind view part.term b))
        (λ same. fair.holds_on same refl)
    heard_behind view place head part cmd b fair = b

  -- ---- a deadline

  live : (same : Bool) (last at : ℕ) → same ≡ false → at < last → not same && nat_lt at last ≡ true
  live true last at e below = absurd (untrue (sym e))
  live false last at e below = grind (arith, nat_tests)

  pub elsewhere : (promise : Option Promise) (me : MemberId) → now < until → me ≢ site
      → IsSomeAnd promise (λ p. (p.to ≡ site) × (since ≤ p.term) × (until ≤ p.until)) → is_promised_elsewhere promise me now ≡ true
  elsewhere None me before other some = absurd some
  elsewhere (Some p) me before other some = live (is_same p.to me) p.until now (by_test (is_same p.to me) refl) below
    where
      lasts : until ≤ p.until
      lasts = some.2

      below : now < p.until
      below = omega (arith, before, lasts)

      by_test : (b : Bool) → is_same p.to me ≡ b → b ≡ false
      by_test true same = absurd (other (sym (is_same-true p.to me same) ∙ some.0))
      by_test false same = refl

  abbrev Waits : Setup → Outcome → Type 0
  Waits setup outcome =
      AllKept setup now (BehindAfter site since term until now) outcome × (outcome.deed.want ≡ wants.Nothing)

  plain : (view : View) (shown : Option Shown) (due : Option ℕ) (repeat : ℕ) → Behind view
      → Behind (record view { shown = shown; due = due; repeat = repeat })
  plain view shown due repeat b =
      behind_alike view _
      (record { role = refl; round = refl; waiting = refl; abstain = refl; force = refl; promise = refl; term = refl; bound = refl }) b

  due_waits : (setup : Setup) (view : View) → now < until → setup.me ≢ site → Behind view
      → Waits setup (due_now setup view now)
  due_waits setup view before other b =
      on_follower (Waits setup) view.role _ _ _ _ b.follows
      (on_cond (Waits setup) (nat_lt 0 view.repeat) _ _
      (plain view view.shown _ _ b, refl)
      (on_cond (Waits setup) (setup.site && view.managed) _ _ waiting (plain view view.shown _ view.repeat b, refl)))
    where
      waiting : Waits setup (waits_or_acquires setup view now)
      waiting =
          on_cond (Waits setup) (nat_lt now (shown_end view.shown)) _ _
          (plain view view.shown _ view.repeat b, refl)
          (on_cond (Waits setup) (is_silent setup view now) _ _
          (plain view view.shown _ view.repeat b, refl)
          (on_test (Waits setup) (is_promised_elsewhere view.promise setup.me now) _ _
          (λ e. (plain view view.shown _ view.repeat b, refl))
          (λ e. absurd (untrue (sym e ∙ elsewhere view.promise setup.me before other b.promised)))))

  -- ---- its answers, and time

  unpromised : (promise : Option Promise) → IsSomeAnd promise (λ p. (p.to ≡ site) × (since ≤ p.term) × (until ≤ p.until))
      → ForSome promise (λ p. p.to ≢ site → p.until ≤ now)
  unpromised None some p e other = absurd some
  unpromised (Some q) some p e other = absurd (other (subst (λ (x : Promise). x.to ≡ site) (some_same e) some.0))

  may : (view : View) → Behind view → MayAnswer view site term now
  may view b = record {
    rested = b.rested;
    unforced = b.unforced;
    unpromised = unpromised view.promise b.promised;
    unbound = b.unbound;
  }

later : (view : View) (site : MemberId) (since term later_term until now at : ℕ) → term ≤ later_term → now ≤ at
    → IsBehind site since term until now view → IsBehind site since later_term until at view
later view site since term later_term until now at no_less not_before b =
    let rested : view.abstain ≤ now = b.rested in
    let unforced : view.force ≤ now = b.unforced in
    record {
      follows = b.follows;
      idle = b.idle;
      rests = b.rests;
      rested = omega (arith, rested, not_before);
      unforced = omega (arith, unforced, not_before);
      reached = b.reached;
      promised = b.promised;
      unbound = above b.unbound;
    }
  where
    above : (view.term < term) ⊎ ((view.term ≡ term) × ForSome view.bound (λ x. x ≡ site))
        → (view.term < later_term) ⊎ ((view.term ≡ later_term) × ForSome view.bound (λ x. x ≡ site))
    above (inl below) = inl (omega (arith, below, no_less))
    above (inr own) =
        let same : view.term ≡ term = own.0 in
        elim (cases_lt term later_term) [
          | inl below ↦ inl (omega (arith, same, below))
          | inr not_below ↦ inr (omega (arith, same, no_less, not_below), own.1)
        ]

pub members_stay_behind : MembersStayBehind
members_stay_behind = record {
  heard = λ setup view site since term until now place head part cmd before lasts b fair.
      heard_behind site since term until now setup before lasts view place head part cmd b fair;
  due = λ setup view site since term until now before other b. due_waits site since term until now setup view before other b;
  answers = λ view site since term until now b. may site since term until now view b;
  passes = later;
}

-- ---- an answer

module _ (setup : Setup) (view : View) (kind : RoundKind) (head : Head) (part : TicketPart) (now : ℕ) (none : view.waiting ≡ None)
    (may_so : MayAnswer view head.from part.term now) where
  abbrev Lasts : View → Type 0
  Lasts w = IsBehind head.from part.term part.term (now + promise_of setup.times) now w

  abbrev answering : View
  answering = promised setup view head.from part.term now

  going_on : (role : Role) (round : Option Round) → is_follower role ≡ true → round ≡ None
      → Lasts (record answering { role = role; round = round })
  going_on role round follows idle = record {
    follows = follows;
    idle = idle;
    rests = none;
    rested = may_so.rested;
    unforced = may_so.unforced;
    reached = omega arith;
    promised = (refl, omega arith, omega arith);
    unbound = inr (refl, λ x e. sym (some_same e));
  }

  down : ((is_follower view.role ≡ true) × (view.round ≡ None)) ⊎ (view.role ≡ Candidate) → Lasts (stood_down answering)
  down (inl h) =
      on_active Lasts view.role _ _ answering
      (going_on Follower None refl refl) (going_on view.role None h.0 refl) (λ rests. going_on view.role view.round h.0 h.1)
  down (inr asks) =
      subst (λ (r : Role). Lasts (stood_down (record answering { role = r }))) (sym asks) (going_on Follower None refl refl)

  said_term : (stood_down answering).term ≡ part.term
  said_term = on_active (λ (w : View). w.term ≡ part.term) view.role _ _ answering refl refl (λ rests. refl)

  answers_so : Lasts (stood_down answering)
      → AllKept setup now (AnswersSo setup kind head part now) (hear_round setup view kind head part now)
  answers_so b =
      on_test (AllKept setup now (AnswersSo setup kind head part now)) (may_answer view head.from part.term now) _ _
      (λ e. on_cond (AllKept setup now (AnswersSo setup kind head part now)) setup.second _ _
      (record {
        behind = record {
          follows = whole.follows;
          idle = whole.idle;
          rests = refl;
          rested = whole.rested;
          unforced = whole.unforced;
          reached = whole.reached;
          promised = whole.promised;
          unbound = whole.unbound;
        };
        said = ap (λ (t : ℕ). answers_round setup kind head.from head.options head.request t) term_is;
      })
      (record { behind = whole; said = refl }))
      (λ e. absurd (untrue (sym e ∙ (tests_may_answer view head.from part.term now).1 may_so)))
    where
      shown : View
      shown = with_site (stood_down answering) head.from kind part now

      whole_view : View
      whole_view = answered_round setup view head.from kind part now

      to_shown : Alike (stood_down answering) shown
      to_shown = site_alike head.from part.term part.term (now + promise_of setup.times) now (stood_down answering) head.from kind part

      to_whole : Alike shown whole_view
      to_whole = due_alike head.from part.term part.term (now + promise_of setup.times) now setup shown kind part

      whole : Lasts whole_view
      whole =
          behind_alike head.from part.term part.term (now + promise_of setup.times) now shown whole_view to_whole
          (behind_alike head.from part.term part.term (now + promise_of setup.times) now (stood_down answering) shown to_shown b)

      term_is : whole_view.term ≡ part.term
      term_is = to_whole.term ∙ to_shown.term ∙ said_term

pub answers_leave_behind : AnswersLeaveBehind
answers_leave_behind setup view kind head part now none active may_so =
    answers_so setup view kind head part now none may_so (down setup view kind head part now none may_so active)
