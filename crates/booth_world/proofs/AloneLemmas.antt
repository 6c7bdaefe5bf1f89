-- What a member does that is a majority by itself.
use Rattle.std.proofs.Common.{◌≡◌, ℕ, ◌+◌, ◌<◌, Bool, true, false, cond, ◌&&◌, ◌||◌, List, ◌∷◌, ◌++◌, [], refl, sym, ap, subst, ◌∙◌, arith}
use Rattle.std.specs.Prelude.{Option, Some, None, nat_lt, not, ◌==◌, if◌then◌else◌}
use Rattle.std.proofs.lemmas.Bool.Decides.{nat_tests}
use Rattle.booth_base.specs.declared.address.MemberId.{MemberId}
use Rattle.booth_base.specs.declared.address.TheConstants.{NO_ONE}
use Rattle.booth_base.specs.Tree.{Deeds, Ends, Leads, ◌>>=◌, ◌>>◌}
use Rattle.booth_base.specs.Times.{promise_of}
use Rattle.booth_base.proofs.TreeLemmas.{leads_on, next_leads}
use Rattle.booth_rec.specs.declared.record.Lease.{Lease}
use Rattle.booth_rec.specs.declared.record.Record.{Record}
use Rattle.booth_rec.specs.Record.{no_record}
use Rattle.booth_wire.specs.declared.command.Cmd.TheVariants.{UpdE, RGnt}
use Rattle.booth_wire.specs.declared.message.Head.{Head}
use Rattle.booth_wire.specs.declared.message.TicketPart.{TicketPart}
use Rattle.booth_wire.specs.declared.message.Setup.{Setup}
use Rattle.booth_wire.specs.declared.codes.reasons.TheConstants.{ADMN}
use Rattle.booth_wire.specs.declared.codes.results.TheConstants.{ASYN, SUCCESS}
use Rattle.booth_raft.specs.declared.deed.Note.TheVariants.{Asked}
use Rattle.booth_raft.specs.declared.view.Round.{Round}
use Rattle.booth_raft.specs.declared.view.Rule.TheVariants as rules
use Rattle.booth_raft.specs.declared.view.View.{View}
use Rattle.booth_raft.specs.AskAndRenew.{answers_itself, are_terms_spent, begin_round, finish, in_next_term, new_round, next_term, own_answer, with_own_promise}
use Rattle.booth_raft.specs.GainReleaseLost.{gain, lease_record, record_of}
use Rattle.booth_raft.specs.Members.{is_follower, is_majority, is_promised_elsewhere, joined_by, nobody}
use Rattle.booth_raft.specs.Messages.{head_of, part_of, state_part}
use Rattle.booth_raft.specs.Notes.{noted}
use Rattle.booth_raft.specs.Numbers.{seconds_left}
use Rattle.booth_raft.specs.Outcome.{Outcome, keeping}
use Rattle.booth_raft.specs.State.{Step, step}
use Rattle.booth_ticket.specs.declared.hands.To.TheVariants.{Client}
use Rattle.booth_ticket.specs.declared.request.Request.{Request}
use Rattle.booth_ticket.specs.declared.request.Wish.TheVariants.{Grant}
use Rattle.booth_ticket.specs.declared.waiters.Waiter.{Waiter}
use Rattle.booth_ticket.specs.Acts.{Act, IsAct, Ask, kept, said, said_to_each}
use Rattle.booth_ticket.specs.Keeping.{carry_out, keep_once}
use Rattle.booth_ticket.specs.Laws.{HasLease, IsDoneBy, told_granted}
use Rattle.booth_ticket.specs.Requests.{Answered, acquire_for, follow_request, grant, grant_result, is_busy, is_holder, is_shown_elsewhere, refused_grant, reply}
use Rattle.booth_ticket.specs.Saying.{others, say, say_each, say_to}
use Rattle.booth_ticket.specs.Waiting.{Left, joined, tell, waiter_of, waits}
use Rattle.booth_raft.proofs.FactsLemmas.{untrue}
use Rattle.booth_ticket.proofs.SayLemmas.{each_said}
use Rattle.booth_ticket.proofs.LawLemmas.{told_leads}
use Rattle.booth_ticket.proofs.CaseLemmas.{both, first_true, is_below, is_number, when_false, when_true}
use Rattle.booth_world.specs.Alone.{GrantGainsAlone, alone_acts, lease_alone, record_alone}
use Rattle.booth_world.specs.Waits.{core_of}
use Rattle.booth_world.proofs.WaitingLaws.{not_joined}

first_none : (b : Bool) (answer : ℕ) (rest : Option ℕ) → cond b (Some answer) rest ≡ None → (b ≡ false) × (rest ≡ None)
first_none true answer rest e = absurd (cc)
first_none false answer rest e = (refl, e)

-- a grant that is not refused has a term left
unspent : (setup : Setup) (view : View) (spare : ℕ) (ready : Bool) (options now : ℕ)
    → refused_grant setup view spare ready options now ≡ None → are_terms_spent view ≡ false
unspent setup view spare ready options now e =
    let one = first_none (not setup.site || not (options == 0 || waits options)) _ _ e in
    let two = first_none (is_holder setup view now) _ _ one.1 in
    let three = first_none (is_shown_elsewhere view.shown setup.me now) _ _ two.1 in
    let four = first_none (is_busy setup view now) _ _ three.1 in
    let five = first_none (not ready) _ _ four.1 in
    (first_none (are_terms_spent view) _ _ five.1).0

module _ (setup : Setup) (waiters : List Waiter) (request : Request) (now : ℕ) (lasts : 0 < setup.times.expire) where
  abbrev answers : Step → Answered
  answers last = record { answer = grant_result request.options last.deed.told; last = last }

  abbrev replies : Answered → Deeds Ask Left
  replies done = do
    left ← tell now waiters done.last
    reply left.core request Grant done.answer now
    Ends (record { core = left.core; waiters = joined request done.answer left.waiters })

  abbrev speaks : Step → Deeds Ask Step
  speaks last = say last.core.setup None last.deed.say >> Ends last

  abbrev goes_on : Step → Deeds Ask Left
  goes_on first = ((keep_once now first >>= speaks) >>= (λ last. Ends (answers last))) >>= replies

  abbrev until : ℕ
  until = now + setup.times.expire

  abbrev part_for : ℕ → MemberId → TicketPart
  part_for term owner = part_of setup owner term (seconds_left until now)

  abbrev gaining : View → Record → List Act
  gaining view own =
      kept own true
      ∷ said_to_each (others setup) (head_of setup UpdE 0 0 0 0) (part_for view.term setup.me)
      ++ (told_granted setup waiters (part_for view.term setup.me)
      ++ said (Client request.from) (head_of setup RGnt request.number 0 0 SUCCESS) (part_for view.term setup.me)
      ∷ [])

  abbrev Gains : View → Record → Outcome → Type 0
  Gains view own outcome =
      IsDoneBy (goes_on (step (core_of setup view) outcome)) (gaining view own)
      (HasLease setup.me own (record { term = view.term; until = until }))

  not_asyn : SUCCESS ≡ ASYN → ⊥
  not_asyn e = absurd (omega (arith, e))

  -- who asked is told of success, and does not wait
  nobody_joins : joined request SUCCESS [] ≡ []
  nobody_joins = skipped _ (not_joined request SUCCESS not_asyn)
    where
      skipped : (b : Bool) → b ≡ false → (if b then waiter_of request ∷ [] else []) ≡ []
      skipped true e = absurd (cc)
      skipped false e = refl

  -- the round that was opened now is won by the own answer
  gains_now : (view base : View) (number : ℕ)
      → Gains view (lease_record setup view (new_round setup base number now)) (gain setup view (new_round setup base number now) now)
  unfolding keep_once tell reply say_to
  gains_now view base number =
      let round : Round = new_round setup base number now in
      let after : View = (finish setup (gain setup view round now).view now true).view in
      let last : Step = step (core_of setup view) (finish setup (gain setup view round now).view now true) in
      let left : Left = record { core = core_of setup after; waiters = [] } in
      let head : Head = head_of setup UpdE 0 0 0 0 in
      let back : Head = head_of setup RGnt request.number 0 0 SUCCESS in
      let told : TicketPart = part_for view.term setup.me in
      let found : TicketPart = part_for view.term (if nat_lt now until then setup.me else NO_ONE) in
      let owned : found ≡ told =
      when_true (λ (owner : MemberId). part_for view.term owner ≡ told) (nat_lt now until) _ NO_ONE
      (is_below now until (omega (arith, lasts))) refl in
      let then_replies : Left → Deeds Ask Left =
      λ l. reply l.core request Grant SUCCESS now >> Ends (record { core = l.core; waiters = joined request SUCCESS l.waiters }) in
      let clients : Leads IsAct (tell now waiters last) (told_granted setup waiters told) (Ends left) =
      next_leads IsAct _ _ (λ (stay : List Waiter). Ends (record { core = last.core; waiters = stay })) _
      (told_leads setup (state_part setup after now) told waiters owned) in
      let ended : List Waiter → Deeds Ask Left = λ ws. Ends (record { core = core_of setup after; waiters = ws }) in
      let ends : ended [] ≡ ended (joined request SUCCESS []) = ap ended (sym nobody_joins) in
      let replied : Leads IsAct (then_replies left) (said (Client request.from) back told ∷ []) (Ends left) =
      subst (λ (p : TicketPart). Leads IsAct (say_to (Client request.from) back p
      >> Ends (record { core = core_of setup after; waiters = joined request SUCCESS [] }))
      (said (Client request.from) back told ∷ []) (Ends left)) (sym owned) (true, refl, ends) in
      let whole : TicketPart → Deeds Ask Left =
      λ p. ((say_each (others setup) head p >>= (λ (done : Unit {0}). Ends last)) >>= (λ (x : Step). Ends (answers x))) >>= replies in
      let members : Leads IsAct (whole found) (said_to_each (others setup) head told) (replies (answers last)) =
      subst (λ (p : TicketPart). Leads IsAct (whole p) (said_to_each (others setup) head told) (replies (answers last))) (sym owned)
      (next_leads IsAct _ _ replies _
      (next_leads IsAct _ _ (λ (x : Step). Ends (answers x)) _
      (next_leads IsAct _ _ (λ (done : Unit {0}). Ends last) _ (each_said (others setup) head told)))) in
      record {
        left = left;
        all = (
          true,
          refl,
          leads_on IsAct (whole found) (replies (answers last)) (Ends left) (said_to_each (others setup) head told)
              (told_granted setup waiters told ++ said (Client request.from) back told ∷ []) members
              (leads_on IsAct (replies (answers last)) (then_replies left) (Ends left) (told_granted setup waiters told)
              (said (Client request.from) back told ∷ [])
              (next_leads IsAct _ _ then_replies _ clients) replied),
        );
        holds = record { leads = refl; kept_record = refl; sure = refl; shown = refl; waiting = refl };
      }

  -- who has not answered itself is no majority
  answered : (view : View) → is_majority setup (own_answer setup view now) ≡ true → answers_itself setup view now ≡ true
  answered view many = by_answer (answers_itself setup view now) many
    where
      none : is_majority setup nobody ≡ true → ⊥
      none e = grind (arith, nat_tests)

      by_answer : (b : Bool) → is_majority setup (if b then joined_by nobody setup.place else nobody) ≡ true → b ≡ true
      by_answer true e = refl
      by_answer false e = absurd (none e)

  -- the term was kept: its round is opened, and is won
  opens : (view : View) → is_majority setup (own_answer setup view now) ≡ true
      → Gains view (lease_record setup (with_own_promise setup view now) (new_round setup view 0 now)) (begin_round setup view 0 now)
  opens view many =
      let round : Round = new_round setup view 0 now in
      let own : Record = lease_record setup (with_own_promise setup view now) round in
      when_true (Gains view own) (is_majority setup (own_answer setup view now)) _ _ many
      (when_true (λ (promised : View). Gains view own (gain setup (record promised { round = Some round }) round now))
      (answers_itself setup view now) (with_own_promise setup view now) view (answered view many)
      (gains_now (record (with_own_promise setup view now) { round = Some round }) view 0))

  -- ---- the new term is asked for

  abbrev asks_as : Bool → Bool → View → View
  asks_as second itself view =
      if second
      then (if itself
      then record (with_own_promise setup (in_next_term view ADMN) now) { bound = Some setup.me }
      else in_next_term view ADMN)
      else in_next_term view ADMN

  abbrev asks_by : Bool → Bool → View → Outcome
  asks_by second itself view =
      keeping (asks_as second itself view) (rules.Ask ADMN)
      (record_of setup (asks_as second itself view) view.kept.lease) now

  abbrev in_kept_term : Bool → Bool → View → View
  in_kept_term second itself view = record (asks_as second itself view) {
    waiting = None;
    kept = record_of setup (asks_as second itself view) view.kept.lease;
    sure = true;
    bound = Some setup.me;
  }

  itself_again : (view : View) → answers_itself setup view now ≡ true
      → answers_itself setup (with_own_promise setup view now) now ≡ true
  itself_again view is =
      both _ _ (first_true _ _ is)
      (ap (λ (same : Bool). not (not same && nat_lt now (now + promise_of setup.times)))
      (is_number setup.me.0 setup.me.0 refl))

  many_again : (view : View) (second itself : Bool) → answers_itself setup view now ≡ itself
      → is_majority setup (own_answer setup view now) ≡ true
      → is_majority setup (own_answer setup (in_kept_term second itself view) now) ≡ true
  many_again view true true is many =
      ap (λ (b : Bool). is_majority setup (if b then joined_by nobody setup.place else nobody))
      (itself_again view is ∙ sym is) ∙ many
  many_again view true false is many = many
  many_again view false itself is many = many

  abbrev lease : View → Lease
  lease view = lease_alone setup view now

  -- the record of the lease pledges what that of the term does
  abbrev pledged : Bool → View → Record
  pledged second view =
      if second
      then record no_record { version = 2; bound = view.bound; promise = view.promise; abstain = view.abstain }
      else no_record

  same_record : (view : View) (second itself : Bool) → setup.second ≡ second → itself ≡ true
      → lease_record setup (with_own_promise setup (in_kept_term second itself view) now) (new_round setup (in_kept_term second itself view) 0 now)
      ≡ record_of setup (asks_as second itself view) (Some (lease view))
  same_record view true true is own = refl
  same_record view true false is own = absurd (untrue own)
  same_record view false true is own =
      ap (λ (b : Bool). record (pledged b (with_own_promise setup (in_kept_term false true view) now)) { term = next_term view; lease = Some (lease view) }) is
      ∙ ap (λ (b : Bool). record (pledged b (in_next_term view ADMN)) { term = next_term view; lease = Some (lease view) }) (sym is)
  same_record view false false is own = absurd (untrue own)

  abbrev begins : Outcome → Deeds Ask Left
  begins o = (carry_out None now (step (core_of setup o.view) o) >>= (λ last. Ends (answers last))) >>= replies

  abbrev IsGranted : View → Record → Record → Outcome → Type 0
  IsGranted view term_record own outcome =
      IsDoneBy (begins outcome) (kept term_record true ∷ gaining (in_next_term view ADMN) own) (HasLease setup.me own (lease view))

  gains_alone : (view : View) (second itself : Bool) → setup.second ≡ second → answers_itself setup view now ≡ itself
      → is_majority setup (own_answer setup view now) ≡ true
      → IsGranted view (record_of setup (asks_as second itself view) view.kept.lease)
      (record_of setup (asks_as second itself view) (Some (lease view))) (asks_by second itself (noted setup view now Asked))
  unfolding carry_out keep_once
  gains_alone view second itself is_second is_itself many =
      by_case second itself is_second is_itself (many_again (noted setup view now Asked) second itself is_itself many)
    where
      by_case : (second itself : Bool) → setup.second ≡ second → answers_itself setup view now ≡ itself
          → is_majority setup (own_answer setup (in_kept_term second itself (noted setup view now Asked)) now) ≡ true
          → IsGranted view (record_of setup (asks_as second itself view) view.kept.lease)
          (record_of setup (asks_as second itself view) (Some (lease view))) (asks_by second itself (noted setup view now Asked))
      by_case true true is own many_now =
          let later = subst (λ (r : Record). Gains (in_kept_term true true (noted setup view now Asked)) r
          (begin_round setup (in_kept_term true true (noted setup view now Asked)) 0 now)) (same_record view true true is refl)
          (opens (in_kept_term true true (noted setup view now Asked)) many_now) in
          record { left = later.left; all = (true, refl, later.all); holds = later.holds }
      by_case true false is own many_now = absurd (untrue (sym own ∙ answered view many))
      by_case false true is own many_now =
          let later = subst (λ (r : Record). Gains (in_kept_term false true (noted setup view now Asked)) r
          (begin_round setup (in_kept_term false true (noted setup view now Asked)) 0 now)) (same_record view false true is refl)
          (opens (in_kept_term false true (noted setup view now Asked)) many_now) in
          record { left = later.left; all = (true, refl, later.all); holds = later.holds }
      by_case false false is own many_now = absurd (untrue (sym own ∙ answered view many))

pub grant_gains_alone : GrantGainsAlone
unfolding follow_request acquire_for
grant_gains_alone setup view waiters spare ready request now none many lasts =
    let itself : Bool = answers_itself setup view now in
    let own : Record = record_alone setup view now in
    let Holds : Left → Type 0 = HasLease setup.me own (lease_alone setup view now) in
    subst
    (λ (refused : Option ℕ).
    IsDoneBy (grant (core_of setup view) request.options refused None now >>= replies setup waiters request now lasts)
    (alone_acts setup view waiters request now) Holds)
    (sym none)
    (when_false
    (λ (o : Outcome). IsDoneBy (begins setup waiters request now lasts o) (alone_acts setup view waiters request now) Holds)
    (are_terms_spent (noted setup view now Asked)) _ _ (unspent setup view spare ready request.options now none)
    (gains_alone setup waiters request now lasts view setup.second itself refl refl many))
