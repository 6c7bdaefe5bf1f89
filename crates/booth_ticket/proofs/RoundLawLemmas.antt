-- A round that may be answered is answered.
use Rattle.std.proofs.Common.{◌≡◌, ℕ, Bool, true, false, ◌&&◌, List, ◌∷◌, [], refl, sym, ap, subst}
use Rattle.std.specs.Prelude.{Option, Some, ◌==◌, if◌then◌else◌}
use Rattle.booth_base.specs.Tree.{Deeds, ◌>>=◌}
use Rattle.booth_rec.specs.declared.record.Lease.{Lease}
use Rattle.booth_rec.specs.declared.record.Record.{Record}
use Rattle.booth_rec.specs.Record.{no_record}
use Rattle.booth_wire.specs.declared.command.Cmd.{Cmd}
use Rattle.booth_wire.specs.declared.message.Head.{Head}
use Rattle.booth_wire.specs.declared.message.TicketPart.{TicketPart}
use Rattle.booth_wire.specs.declared.message.Setup.{Setup}
use Rattle.booth_raft.specs.declared.deed.Told.{Told}
use Rattle.booth_raft.specs.declared.view.RoundKind.{RoundKind}
use Rattle.booth_raft.specs.declared.view.RoundKind.TheVariants.{Election, Renewal}
use Rattle.booth_raft.specs.declared.view.Rule.{Rule}
use Rattle.booth_raft.specs.declared.view.Rule.TheVariants as rules
use Rattle.booth_raft.specs.declared.view.View.{View}
use Rattle.booth_raft.specs.AskAndRenew.{finish}
use Rattle.booth_raft.specs.GainReleaseLost.{record_of}
use Rattle.booth_raft.specs.Messages.{answer_cmd, answers_round, head_of, part_of}
use Rattle.booth_raft.specs.OtherMessages.{hear as heard}
use Rattle.booth_raft.specs.Outcome.{Outcome, keeping, saying}
use Rattle.booth_raft.specs.RoundsAndAnswers.{MayAnswer, answered_round, may_answer, hear_round, promised, shows_site, stood_down, told_by_answer, with_due, with_site}
use Rattle.booth_raft.specs.State.{State, step}
use Rattle.booth_raft.specs.StartAndLearn.{awaits_failover, with_seen}
use Rattle.booth_raft.proofs.AnswerLemmas.{tests_may_answer}
use Rattle.booth_raft.proofs.FactsLemmas.{on_active, on_cond}
use Rattle.booth_ticket.specs.declared.hands.To.TheVariants.{Member}
use Rattle.booth_ticket.specs.declared.waiters.Waiter.{Waiter}
use Rattle.booth_ticket.specs.Acts.{Ask, kept, said}
use Rattle.booth_ticket.specs.Automatic.{hear, hear_message}
use Rattle.booth_ticket.specs.Keeping.{carry_out, keep_once}
use Rattle.booth_ticket.specs.Laws.{AnswersWhereItMay, IsBegunBy, answer_to, answering_acts, promise_record}
use Rattle.booth_ticket.specs.Saying.{say_to}
use Rattle.booth_ticket.specs.Waiting.{Left, tell}
use Rattle.booth_ticket.proofs.CaseLemmas.{is_number, is_other, when_false, when_true}

-- the record of a view whose rules are of version 2
in_second : (setup : Setup) (view : View) (lease : Option Lease) → setup.second ≡ true
    → record_of setup view lease ≡ record {
      version = 2;
      term = view.term;
      lease = lease;
      bound = view.bound;
      promise = view.promise;
      abstain = view.abstain;
    }
in_second setup view lease second =
    ap (λ (b : Bool). record
    (if b
    then record no_record { version = 2; bound = view.bound; promise = view.promise; abstain = view.abstain }
    else no_record) { term = view.term; lease = lease })
    second

module _ (setup : Setup) (view : View) (waiters : List Waiter) (from : ℕ) (kind : RoundKind) (head : Head)
    (part : TicketPart) (now : ℕ) where
  abbrev core : State
  core = record { setup = setup; view = view }

  -- what a message leads to, by the outcome of its rule
  abbrev deeds : Outcome → Deeds Ask Left
  deeds o = carry_out (Some from) now (step core o) >>= tell now waiters

  -- the view is in the round's term, and its record is that of the promise
  abbrev IsPromised : View → Type 0
  IsPromised after =
      (after.term ≡ part.term)
      × (setup.second ≡ true → promise_record setup view head part now ≡ record_of setup after after.kept.lease)

  stood_down_so : (after : View) → IsPromised after → IsPromised (stood_down after)
  stood_down_so after is = on_active IsPromised after.role _ _ after is is (λ rests. is)

  with_site_so : (after : View) → IsPromised after → IsPromised (with_site after head.from kind part now)
  with_site_so after is = on_cond IsPromised (shows_site kind part) _ after is is

  with_due_so : (after : View) → IsPromised after → IsPromised (with_due setup after kind part now)
  with_due_so after is = on_cond IsPromised (awaits_failover setup after && after.managed) _ after is is

  answered_so : IsPromised (answered_round setup (with_seen view part.term) head.from kind part now)
  answered_so =
      let first : View = promised setup (with_seen view part.term) head.from part.term now in
      with_due_so (with_site (stood_down first) head.from kind part now)
      (with_site_so (stood_down first)
      (stood_down_so first (refl, λ second. sym (in_second setup first view.kept.lease second))))

  -- the promise was made: it is kept where the rules are of version 2, and the round is answered
  by_version : (after : View) (told : Told) (second : Bool) → after.term ≡ part.term
      → (second ≡ true → promise_record setup view head part now ≡ record_of setup after after.kept.lease)
      → IsBegunBy
      (deeds (if second
      then keeping after (rules.Answer kind head.from head.options head.request told)
      (record_of setup after after.kept.lease) now
      else saying after (answers_round setup kind head.from head.options head.request part.term) told))
      (if second
      then kept (promise_record setup view head part now) true ∷ answer_to setup from kind head part ∷ []
      else answer_to setup from kind head part ∷ [])
  unfolding carry_out keep_once say_to
  by_version after told true term tried =
      let rule : Rule = rules.Answer kind head.from head.options head.request told in
      let asks : Outcome = keeping after rule (record_of setup after after.kept.lease) now in
      record {
        rest = tell now waiters (step core (finish setup asks.view now true));
        first = (
          true,
          ap (λ (r : Record). kept r true) (tried refl),
          (
            true,
            ap (λ (t : ℕ). said (Member from) (head_of setup (answer_cmd kind) head.request head.options 0 0)
                (part_of setup head.from t 0)) (sym term),
            refl,
          ),
        );
      }
  by_version after told false term tried = record {
    rest = tell now waiters
        (step core (saying after (answers_round setup kind head.from head.options head.request part.term) told));
    first = (true, refl, refl);
  }

  abbrev Begins : Outcome → Type 0
  Begins o =
      IsBegunBy (deeds o)
      (answering_acts setup view from kind head part now)

  answered : MayAnswer view head.from part.term now
      → Begins (hear_round setup (with_seen view part.term) kind head part now)
  answered may =
      let after : View = answered_round setup (with_seen view part.term) head.from kind part now in
      when_true Begins
      (may_answer (with_seen view part.term) head.from part.term now) _ _
      ((tests_may_answer (with_seen view part.term) head.from part.term now).1
      (record {
        rested = may.rested;
        unforced = may.unforced;
        unpromised = may.unpromised;
        unbound = may.unbound;
      }))
      (by_version after (told_by_answer view.role) setup.second answered_so.0 answered_so.1)

pub answers : AnswersWhereItMay
unfolding hear hear_message
answers setup view waiters from Election head part now is may =
    subst
    (λ (cmd : Cmd). Begins setup view waiters from Election head part now (heard setup view from head part now cmd))
    (sym is.0)
    (when_true (Begins setup view waiters from Election head part now)
    (head.options == 0) _ _ (is_number head.options 0 is.1)
    (answered setup view waiters from Election head part now may))
answers setup view waiters from Renewal head part now is may =
    subst
    (λ (cmd : Cmd). Begins setup view waiters from Renewal head part now (heard setup view from head part now cmd))
    (sym is.0)
    (when_false (Begins setup view waiters from Renewal head part now)
    (head.options == 0) _ _ (is_other head.options 0 is.1)
    (answered setup view waiters from Renewal head part now may))
