-- What is done where it may be: a grant asks all, a majority gains.
use Rattle.std.proofs.Common.{◌≡◌, ℕ, ◌+◌, ◌<◌, Bool, true, false, cond, ◌&&◌, ◌||◌, List, ◌∷◌, ◌++◌, [], refl, sym, ap, subst, ◌∙◌}
use Rattle.std.specs.Prelude.{Option, Some, None, nat_lt, not, ◌==◌, if◌then◌else◌}
use Rattle.booth_base.specs.declared.address.MemberId.{MemberId}
use Rattle.booth_base.specs.declared.address.TheConstants.{NO_ONE}
use Rattle.booth_base.specs.Tree.{Deeds, Ends, Leads, ◌>>=◌, ◌>>◌, each}
use Rattle.booth_base.specs.Times.{promise_of}
use Rattle.booth_base.proofs.TreeLemmas.{leads_on, next_leads}
use Rattle.booth_rec.specs.declared.record.Record.{Record}
use Rattle.booth_wire.specs.declared.command.Cmd.{Cmd}
use Rattle.booth_wire.specs.declared.command.Cmd.TheVariants.{UpdE, RGnt}
use Rattle.booth_wire.specs.declared.message.Head.{Head}
use Rattle.booth_wire.specs.declared.message.TicketPart.{TicketPart}
use Rattle.booth_wire.specs.declared.message.Setup.{Setup}
use Rattle.booth_wire.specs.declared.message.Say.{Say as Words}
use Rattle.booth_wire.specs.declared.codes.reasons.TheConstants.{ADMN}
use Rattle.booth_wire.specs.declared.codes.results.TheConstants.{ASYN, SUCCESS}
use Rattle.booth_raft.specs.Deadlines.{is_silent}
use Rattle.booth_raft.specs.declared.deed.Note.TheVariants.{Asked}
use Rattle.booth_raft.specs.declared.deed.Told.TheVariants as tells
use Rattle.booth_raft.specs.declared.view.Role.{Role}
use Rattle.booth_raft.specs.declared.view.Role.TheVariants.{Follower, Working, Candidate, Leader}
use Rattle.booth_raft.specs.declared.view.Round.{Round}
use Rattle.booth_raft.specs.declared.view.RoundKind.TheVariants.{Election, Renewal}
use Rattle.booth_raft.specs.declared.view.Rule.TheVariants as rules
use Rattle.booth_raft.specs.declared.view.View.{View}
use Rattle.booth_raft.specs.AskAndRenew.{answers_itself, are_terms_spent, asked_all, begin_round, finish, in_next_term, new_round, own_answer, with_own_promise}
use Rattle.booth_raft.specs.GainReleaseLost.{gain, record_of}
use Rattle.booth_raft.specs.Members.{is_follower, is_leader, is_majority, is_promised_elsewhere, joined_by, nobody}
use Rattle.booth_raft.specs.Messages.{asks_all, head_of, part_of, round_head, round_part, state_part}
use Rattle.booth_raft.specs.Notes.{noted}
use Rattle.booth_raft.specs.Numbers.{seconds_left}
use Rattle.booth_raft.specs.OtherMessages.{hear as heard}
use Rattle.booth_raft.specs.Outcome.{Outcome, keeping, quiet, saying}
use Rattle.booth_raft.specs.RoundsAndAnswers.{hear_answer, is_answer_to, wins, with_answer, join}
use Rattle.booth_raft.specs.StartAndLearn.{with_seen}
use Rattle.booth_raft.specs.State.{State, Step, step}
use Rattle.booth_raft.proofs.FactsLemmas.{on_cond}
use Rattle.booth_ticket.specs.declared.hands.To.TheVariants.{Client}
use Rattle.booth_ticket.specs.declared.request.Request.{Request}
use Rattle.booth_ticket.specs.declared.request.Wish.TheVariants.{Grant}
use Rattle.booth_ticket.specs.declared.waiters.Waiter.{Waiter}
use Rattle.booth_ticket.specs.Acts.{Act, IsAct, Ask, kept, said, said_to_each}
use Rattle.booth_ticket.specs.Automatic.{hear, hear_message}
use Rattle.booth_ticket.specs.Keeping.{carry_out, keep_once}
use Rattle.booth_ticket.specs.Laws.{AsksVotes, Completes, GrantAsksAll, HasLease, IsDoneBy, MajorityGains, asked_record, asking_acts, gaining_acts, lease_kept, lease_of, told_granted}
use Rattle.booth_ticket.specs.Requests.{Answered, acquire_for, follow_request, grant, grant_result, is_busy, is_holder, is_shown_elsewhere, refused_grant, reply}
use Rattle.booth_ticket.specs.Saying.{others, say, say_each, say_to}
use Rattle.booth_ticket.specs.Waiting.{Left, joined, staying, tell, tell_each, tell_one, waits}
use Rattle.booth_ticket.proofs.SayLemmas.{each_said}
use Rattle.booth_ticket.proofs.CaseLemmas.{both, first_true, is_below, is_number, is_other, when_false, when_true}

abbrev core_of : Setup → View → State
core_of setup view = record { setup = setup; view = view }

abbrev left_of : State → List Waiter → Left
left_of core waiters = record { core = core; waiters = waiters }

-- ---- a grant

-- nothing was refused, so no test held
first_none : (b : Bool) (answer : ℕ) (rest : Option ℕ) → cond b (Some answer) rest ≡ None
    → (b ≡ false) × (rest ≡ None)
first_none true answer rest e = absurd (cc)
first_none false answer rest e = (refl, e)

unrefused : (setup : Setup) (view : View) (spare : ℕ) (ready : Bool) (options now : ℕ)
    → refused_grant setup view spare ready options now ≡ None
    → (is_busy setup view now ≡ false)
    × (are_terms_spent view ≡ false)
unrefused setup view spare ready options now e =
    let one = first_none (not setup.site || not (options == 0 || waits options)) _ _ e in
    let two = first_none (is_holder setup view now) _ _ one.1 in
    let three = first_none (is_shown_elsewhere view.shown setup.me now) _ _ two.1 in
    let four = first_none (is_busy setup view now) _ _ three.1 in
    let five = first_none (not ready) _ _ four.1 in
    let six = first_none (are_terms_spent view) _ _ five.1 in
    (four.0, six.0)

follows : (role : Role) (promised : Bool) → not (is_follower role) || promised ≡ false
    → is_leader role ≡ false
follows Follower promised e = refl
follows Working promised e = refl
follows Candidate promised e = refl
follows Leader promised e = absurd (cc)

module _ (setup : Setup) (waiters : List Waiter) (request : Request) (now : ℕ) where
  -- this step's deeds, from its second keep on: the words, the answer and the reply
  abbrev answers : Step → Answered
  answers last = record { answer = grant_result request.options last.deed.told; last = last }

  abbrev replies : Answered → Deeds Ask Left
  replies done = do
    left ← tell now waiters done.last
    reply left.core request Grant done.answer now
    Ends (record { core = left.core; waiters = joined request done.answer left.waiters })

  abbrev speaks : Step → Deeds Ask Step
  speaks last = say last.core.setup None last.deed.say >> Ends last

  abbrev goes_on : Step → Deeds Ask Left
  goes_on first = ((keep_once now first >>= speaks) >>= (λ last. Ends (answers last))) >>= replies

  abbrev asking : View → List Act
  asking view =
      said_to_each (others setup) (round_head setup view 0) (round_part setup view now)
      ++ said (Client request.from) (head_of setup RGnt request.number 0 0 ASYN)
      (state_part setup view now) ∷ []

  abbrev asks_now : Record → Left → Type 0
  asks_now rec left = AsksVotes rec (joined request ASYN waiters) left

  -- nobody that waits is told anything
  none_told : (part : TicketPart) (ws : List Waiter) → each (tell_one setup part tells.Nothing) ws ≡ Ends tt
  unfolding tell_one
  none_told part [] = refl
  none_told part (w ∷ ws) = none_told part ws

  all_stay : (ws : List Waiter) → staying tells.Nothing ws ≡ ws
  all_stay [] = refl
  all_stay (w ∷ ws) = ap (λ (more : List Waiter). w ∷ more) (all_stay ws)

  nothing_told : (after : View) (rule_words : Words)
      → tell now waiters (step (core_of setup after) (saying after rule_words tells.Nothing))
      ≡ Ends (record { core = core_of setup after; waiters = waiters })
  unfolding tell tell_each
  nothing_told after rule_words =
      ap (λ (t : Deeds Ask (Unit {0})). (t >>= (λ done. Ends (staying tells.Nothing waiters)))
      >>= (λ stay. Ends (left_of (core_of setup after) stay)))
      (none_told (state_part setup after now) waiters)
      ∙ ap (λ (ws : List Waiter). Ends (left_of (core_of setup after) ws)) (all_stay waiters)

  -- all are asked, and then the client is told
  asks_then : (view : View) → is_leader view.role ≡ false
      → IsDoneBy (goes_on (step (core_of setup view) (saying (asked_all setup view now) (asks_all setup view 0 now) tells.Nothing)))
      (asking view) (asks_now view.kept)
  unfolding keep_once reply say_to
  asks_then view other =
      when_false
      (λ (after : View).
      IsDoneBy (goes_on (step (core_of setup view) (saying after (asks_all setup view 0 now) tells.Nothing)))
      (asking view) (asks_now view.kept))
      (is_leader view.role) _ _ other
      (let after : View = record view { role = Candidate; due = Some (now + setup.times.timeout) } in
      let last : Step = step (core_of setup view) (saying after (asks_all setup view 0 now) tells.Nothing) in
      let left : Left = left_of (core_of setup after) (joined request ASYN waiters) in
      let replied : Leads IsAct (replies (answers last))
      (said (Client request.from) (head_of setup RGnt request.number 0 0 ASYN)
      (state_part setup view now) ∷ []) (Ends left) =
      subst (λ (t : Deeds Ask Left). Leads IsAct
      (t >>= (λ (l : Left). reply l.core request Grant ASYN now
      >> Ends (left_of l.core (joined request ASYN l.waiters))))
      (said (Client request.from) (head_of setup RGnt request.number 0 0 ASYN)
      (state_part setup view now) ∷ []) (Ends left))
      (sym (nothing_told after (asks_all setup view 0 now))) (true, refl, refl) in
      record {
        left = left;
        all =
            leads_on IsAct (goes_on last) (replies (answers last)) (Ends left)
            (said_to_each (others setup) (round_head setup view 0) (round_part setup view now))
            (said (Client request.from) (head_of setup RGnt request.number 0 0 ASYN)
            (state_part setup view now) ∷ [])
            (next_leads IsAct _ _ replies _
            (next_leads IsAct _ _ (λ (x : Step). Ends (answers x)) _
            (next_leads IsAct _ _ (λ (done : Unit {0}). Ends last) _
            (each_said (others setup) (round_head setup view 0) (round_part setup view now)))))
            replied;
        holds = record { asks = refl; kept_record = refl; waiting = refl };
      })

  -- the first term's record was kept: its round is opened
  opens : (view : View) → is_leader view.role ≡ false
      → is_majority setup (own_answer setup view now) ≡ false
      → IsDoneBy (goes_on (step (core_of setup view) (begin_round setup view 0 now))) (asking view) (asks_now view.kept)
  opens view other few =
      let round : Round = new_round setup view 0 now in
      when_false
      (λ (o : Outcome). IsDoneBy (goes_on (step (core_of setup view) o)) (asking view) (asks_now view.kept))
      (is_majority setup (own_answer setup view now)) _ _ few
      (on_cond
      (λ (promised : View).
      IsDoneBy
      (goes_on (step (core_of setup view) (saying (asked_all setup (record promised { round = Some round }) now)
      (asks_all setup (record promised { round = Some round }) 0 now) tells.Nothing)))
      (asking view) (asks_now view.kept))
      (answers_itself setup view now)
      (record view {
        promise = Some
            (record { to = setup.me; term = view.term; until = now + promise_of setup.times });
      })
      view
      (asks_then
      (record view {
        promise = Some (record
            { to = setup.me; term = view.term; until = now + promise_of setup.times });
        round = Some round;
      })
      other)
      (asks_then (record view { round = Some round }) other))

  -- ---- the new term is asked for

  -- the view that asks, by whether the rules are of version 2 and whether the member answers itself
  abbrev asks_as : Bool → Bool → View → View
  asks_as second itself view =
      if second
      then (if itself
      then record (with_own_promise setup (in_next_term view ADMN) now) { bound = Some setup.me }
      else in_next_term view ADMN)
      else in_next_term view ADMN

  -- the outcome of the rule, and the view once its record is kept
  abbrev asks_by : Bool → Bool → View → Outcome
  asks_by second itself view =
      keeping (asks_as second itself view) (rules.Ask ADMN)
      (record_of setup (asks_as second itself view) view.kept.lease) now

  abbrev in_kept_term : Bool → Bool → View → View
  in_kept_term second itself view = record (asks_as second itself view) {
    waiting = None;
    kept = record_of setup (asks_as second itself view) view.kept.lease;
    sure = true;
    bound = Some setup.me;
  }

  -- who answers itself does so again, once it is promised to itself
  itself_again : (view : View) → answers_itself setup view now ≡ true
      → answers_itself setup (with_own_promise setup view now) now ≡ true
  itself_again view is =
      both _ _ (first_true _ _ is)
      (ap (λ (same : Bool). not (not same && nat_lt now (now + promise_of setup.times)))
      (is_number setup.me.0 setup.me.0 refl))

  few_again : (view : View) (second itself : Bool) → answers_itself setup view now ≡ itself
      → is_majority setup (own_answer setup view now) ≡ false
      → is_majority setup (own_answer setup (in_kept_term second itself view) now) ≡ false
  few_again view true true is few =
      ap (λ (b : Bool). is_majority setup (if b then joined_by nobody setup.place else nobody))
      (itself_again view is ∙ sym is) ∙ few
  few_again view true false is few = few
  few_again view false itself is few = few

  -- what an acquisition leads to, by the outcome of its rule
  abbrev begins : Outcome → Deeds Ask Left
  begins o = (carry_out None now (step (core_of setup o.view) o) >>= (λ last. Ends (answers last))) >>= replies

  asks_and_tells : (view : View) (second itself : Bool) → is_leader view.role ≡ false
      → is_majority setup (own_answer setup (in_kept_term second itself view) now) ≡ false
      → IsDoneBy (begins (asks_by second itself (noted setup view now Asked)))
      (kept (record_of setup (asks_as second itself view) view.kept.lease) true ∷ asking (in_next_term view ADMN))
      (asks_now (record_of setup (asks_as second itself view) view.kept.lease))
  unfolding carry_out keep_once
  asks_and_tells view true true other few =
      let later = opens (in_kept_term true true (noted setup view now Asked)) other few in
      record { left = later.left; all = (true, refl, later.all); holds = later.holds }
  asks_and_tells view true false other few =
      let later = opens (in_kept_term true false (noted setup view now Asked)) other few in
      record { left = later.left; all = (true, refl, later.all); holds = later.holds }
  asks_and_tells view false itself other few =
      let later = opens (in_kept_term false itself (noted setup view now Asked)) other few in
      record { left = later.left; all = (true, refl, later.all); holds = later.holds }

pub asks_everyone : GrantAsksAll
unfolding follow_request acquire_for
asks_everyone setup view waiters spare ready request now none few =
    let free = unrefused setup view spare ready request.options now none in
    let itself : Bool = answers_itself setup view now in
    let Holds : Left → Type 0 = asks_now setup waiters request now (asked_record setup view now) in
    subst
    (λ (refused : Option ℕ).
    IsDoneBy (grant (core_of setup view) request.options refused None now >>= replies setup waiters request now)
    (asking_acts setup view request now) Holds)
    (sym none)
    (when_false
    (λ (o : Outcome).
    IsDoneBy (begins setup waiters request now o) (asking_acts setup view request now) Holds)
    (are_terms_spent (noted setup view now Asked)) _ _ free.1
    (asks_and_tells setup waiters request now view setup.second itself
    (follows view.role (is_promised_elsewhere view.promise setup.me now || is_silent setup view now) free.0)
    (few_again setup waiters request now view setup.second itself refl few)))

-- ---- an answer is heard

-- all that wait are told of a kept lease, and nobody waits on
pub all_told : (setup : Setup) (found : TicketPart) (waiters : List Waiter) (part : TicketPart) → found ≡ part
    → Leads IsAct (each (tell_one setup found (tells.Gained true)) waiters) (told_granted setup waiters part) (Ends tt)
unfolding tell_one say_to
all_told setup found [] part is = refl
all_told setup found (w ∷ ws) part is = (
  true,
  ap (λ (p : TicketPart). said (Client w.from) (head_of setup RGnt w.number 0 0 SUCCESS) p) (sym is),
  all_told setup found ws part is,
)

pub none_stay : (waiters : List Waiter) → staying (tells.Gained true) waiters ≡ []
none_stay [] = refl
none_stay (w ∷ ws) = none_stay ws

-- those that wait are told of the lease, and nobody waits on
pub told_leads : (setup : Setup) (found part : TicketPart) (waiters : List Waiter) → found ≡ part
    → Leads IsAct (tell_each setup found (tells.Gained true) waiters) (told_granted setup waiters part) (Ends [])
unfolding tell_each
told_leads setup found part waiters is =
    subst (λ (ws : List Waiter). Leads IsAct (tell_each setup found (tells.Gained true) waiters)
    (told_granted setup waiters part) (Ends ws)) (none_stay waiters)
    (next_leads IsAct _ _ (λ (done : Unit {0}). Ends (staying (tells.Gained true) waiters)) _
    (all_told setup found waiters part is))

gain_done : (setup : Setup) (view : View) (waiters : List Waiter) (round : Round) (from : Option ℕ)
    (now : ℕ) → now < round.opened + setup.times.expire
    → IsDoneBy (carry_out from now (step (core_of setup view) (gain setup view round now)) >>= tell now waiters)
    (gaining_acts setup view waiters (lease_of setup view round) now)
    (HasLease setup.me (lease_kept setup view (lease_of setup view round)) (lease_of setup view round))
unfolding carry_out keep_once tell
gain_done setup view waiters round from now before =
    let after : View = (finish setup (gain setup view round now).view now true).view in
    let last : Step = step (core_of setup view) (finish setup (gain setup view round now).view now true) in
    let told : MemberId → TicketPart =
    λ owner. part_of setup owner view.term (seconds_left (round.opened + setup.times.expire) now) in
    let left : Left = left_of (core_of setup after) [] in
    let head : Head = head_of setup UpdE 0 0 0 0 in
    let owned : told (if nat_lt now (round.opened + setup.times.expire) then setup.me else NO_ONE) ≡ told setup.me =
    when_true (λ (owner : MemberId). told owner ≡ told setup.me)
    (nat_lt now (round.opened + setup.times.expire)) _ NO_ONE
    (is_below now (round.opened + setup.times.expire) before) refl in
    let clients : Leads IsAct (tell now waiters last) (told_granted setup waiters (told setup.me)) (Ends left) =
    next_leads IsAct _ _ (λ (stay : List Waiter). Ends (left_of last.core stay)) _
    (told_leads setup (state_part setup after now) (told setup.me) waiters owned) in
    let found : TicketPart = told (if nat_lt now (round.opened + setup.times.expire) then setup.me else NO_ONE) in
    let whole : TicketPart → Deeds Ask Left = λ p. (say_each (others setup) head p >>= (λ (done : Unit {0}). Ends last)) >>= tell now waiters in
    let members : Leads IsAct (whole found) (said_to_each (others setup) head (told setup.me)) (tell now waiters last) =
    subst (λ (p : TicketPart). Leads IsAct (whole p)
    (said_to_each (others setup) head (told setup.me)) (tell now waiters last)) (sym owned)
    (next_leads IsAct _ _ (tell now waiters) _
    (next_leads IsAct _ _ (λ (done : Unit {0}). Ends last) _ (each_said (others setup) head (told setup.me)))) in
    record {
      left = left;
      all = (
        true,
        refl,
        leads_on IsAct (whole found) (tell now waiters last) (Ends left)
            (said_to_each (others setup) head (told setup.me)) (told_granted setup waiters (told setup.me))
            members clients,
      );
      holds = record { leads = refl; kept_record = refl; sure = refl; shown = refl; waiting = refl };
    }

module _ (setup : Setup) (view : View) (waiters : List Waiter) (round : Round) (from : ℕ) (head : Head)
    (part : TicketPart) (now : ℕ) where
  abbrev Gains : Outcome → Type 0
  Gains o =
      IsDoneBy (carry_out (Some from) now (step (core_of setup view) o) >>= tell now waiters)
      (gaining_acts setup view waiters (lease_of setup view round) now)
      (HasLease setup.me (lease_kept setup view (lease_of setup view round)) (lease_of setup view round))

  completed : view.round ≡ Some round → Completes setup round from head part now
      → Gains (hear_answer setup (with_seen view part.term) from head part now)
  completed is answer =
      let seen : View = with_seen view part.term in
      let joined_view : View = record seen { round = Some (with_answer round from) } in
      subst
      (λ (r : Option Round).
      Gains (elim r [
        | None ↦ quiet seen
        | Some r ↦
            if is_answer_to setup r head part then join setup seen (with_answer r from) now else
            quiet seen
      ]))
      (sym is)
      (when_true Gains (is_answer_to setup round head part)
      (join setup seen (with_answer round from) now) (quiet seen)
      (both _ _
      (both _ _ (is_number part.leader.0 setup.me.0 (ap (λ (m : MemberId). m.0) answer.leader))
      (is_number round.term part.term (sym answer.term)))
      (is_number round.number head.options (sym answer.number)))
      (when_true Gains (wins setup (with_answer round from) now)
      (gain setup joined_view (with_answer round from) now) (quiet joined_view)
      (both _ _ (both _ _ answer.majority (ap not answer.unwon))
      (is_below now (round.opened + setup.times.expire) answer.in_time))
      (gain_done setup joined_view waiters (with_answer round from) (Some from) now answer.in_time)))

pub gains : MajorityGains
unfolding hear hear_message
gains setup view waiters round from Election head part now is kind answer =
    subst
    (λ (cmd : Cmd). Gains setup view waiters round from head part now (heard setup view from head part now cmd))
    (sym kind.0)
    (when_true (Gains setup view waiters round from head part now)
    (head.options == 0) _ _ (is_number head.options 0 kind.1)
    (completed setup view waiters round from head part now is answer))
gains setup view waiters round from Renewal head part now is kind answer =
    subst
    (λ (cmd : Cmd). Gains setup view waiters round from head part now (heard setup view from head part now cmd))
    (sym kind.0)
    (when_false (Gains setup view waiters round from head part now)
    (head.options == 0) _ _ (is_other head.options 0 kind.1)
    (completed setup view waiters round from head part now is answer))
