-- The lease rules leave a deadline: who does not follow has one, and who follows tells each that it is over.
use Rattle.std.proofs.Common.{◌≡◌, ℕ, ◌+◌, ◌*◌, ◌<◌, ◌≤◌, Bool, true, false, ◌&&◌, arith, refl, mul-le-mul_left}
use Rattle.std.specs.Prelude.{Option, Some, None, IsSomeAnd, ◌==◌, min, nat_lt, not}
use Rattle.std.specs.Option.{is_none}
use Rattle.booth_base.specs.declared.address.MemberId.{MemberId}
use Rattle.booth_rec.specs.declared.record.Record.{Record}
use Rattle.booth_wire.specs.declared.codes.reasons.TheConstants.{LOCF, RACQ, SPLT}
use Rattle.booth_wire.specs.declared.command.Cmd.{Cmd}
use Rattle.booth_wire.specs.declared.command.Cmd.TheVariants as cmds
use Rattle.booth_wire.specs.declared.message.Head.{Head}
use Rattle.booth_wire.specs.declared.message.Say.{Say as Words}
use Rattle.booth_wire.specs.declared.message.Setup.{Setup}
use Rattle.booth_wire.specs.declared.message.TicketPart.{TicketPart}
use Rattle.booth_raft.specs.declared.deed.Told.{Told}
use Rattle.booth_raft.specs.declared.deed.Told.TheVariants as tells
use Rattle.booth_raft.specs.declared.view.TheConstants.{LAST_NUMBER}
use Rattle.booth_raft.specs.declared.view.Role.{Role}
use Rattle.booth_raft.specs.declared.view.Role.TheVariants.{Follower, Working, Candidate, Leader}
use Rattle.booth_raft.specs.declared.view.Round.{Round}
use Rattle.booth_raft.specs.declared.view.RoundKind.{RoundKind}
use Rattle.booth_raft.specs.declared.view.RoundKind.TheVariants.{Election, Renewal}
use Rattle.booth_raft.specs.declared.view.Rule.TheVariants as rules
use Rattle.booth_raft.specs.declared.view.View.{View}
use Rattle.booth_raft.specs.AskAndRenew.{answers_itself, are_terms_spent, ask, asked_all, asking, begin_round, fail_ask, finish, needs_term, new_round, own_answer, renew, renew_by_term, runs_out, with_own_promise, with_round}
use Rattle.booth_raft.specs.GainReleaseLost.{gain, record_of, release, retry_at, round_ends}
use Rattle.booth_raft.specs.Members.{is_majority}
use Rattle.booth_raft.specs.Messages.{asks_all}
use Rattle.booth_raft.specs.OtherMessages.{freed, given_back, hear, is_bound_elsewhere, is_freed_by, revoked}
use Rattle.booth_raft.specs.Outcome.{Outcome, keeping, saying}
use Rattle.booth_raft.specs.RoundsAndAnswers.{answered_round, hear_answer, hear_round, is_answer_to, may_answer, promised, promises_round, shows_site, stood_down, told_by_answer, wins, with_answer, with_due}
use Rattle.booth_raft.specs.StartAndLearn.{awaits_failover, learned, shows_leader, with_seen, with_shown}
use Rattle.booth_raft.proofs.FactsLemmas.{on_cond, on_option}
use Rattle.booth_ticket.specs.declared.waiters.Waiter.{Waiter}
use Rattle.booth_ticket.specs.Waiting.{result_for}
use Rattle.booth_ticket.proofs.CaseLemmas.{is_other, when_false}
use Rattle.booth_world.specs.Waits.{latest, patience}

-- a follower has this, and each other one a deadline that is not later than the limit
abbrev pub By : Role → Option ℕ → ℕ → Type 0 → Type 0
By Follower due limit F = F
By role due limit F = IsSomeAnd due (λ at. at ≤ limit)

-- each that waits is told, whatever it waits for
abbrev pub TellsEach : Told → Type 0
TellsEach told = (waiter : Waiter) → is_none (result_for told waiter) ≡ false

pub no_split : LOCF == SPLT ≡ false
no_split = is_other LOCF SPLT (λ e. absurd (omega (arith, e)))

-- a lease is renewed before it ends
abbrev pub IsShort : Setup → Type 0
IsShort setup = setup.times.renewal < setup.times.expire

-- What a rule tells where it leaves a follower is such a thing.
module _ (s : Setup) (sound : IsShort s) (now : ℕ) (E : Told → Type 0) (ends : (told : Told) → TellsEach told → E told) where
  abbrev pub FineView : View → Told → Type 0
  FineView view told = By view.role view.due (latest s view now) (E told)

  abbrev pub Fine : Outcome → Type 0
  Fine outcome = FineView outcome.view outcome.deed.told

  -- however its keep is answered, and the one that follows that
  abbrev pub Once : Option Record → Outcome → Type 0
  Once None outcome = Fine outcome
  Once (Some tried) outcome = (ok : Bool) → Fine (finish s outcome.view now ok)

  abbrev pub One : Outcome → Type 0
  One outcome = Once outcome.deed.keep outcome

  abbrev pub Twice : Option Record → Outcome → Type 0
  Twice None outcome = One outcome
  Twice (Some tried) outcome = (ok : Bool) → One (finish s outcome.view now ok)

  abbrev pub Well : Outcome → Type 0
  Well outcome = Twice outcome.deed.keep outcome

  pub one_timeout : s.times.timeout ≤ patience s
  one_timeout =
      let more : s.times.timeout * 1 ≤ s.times.timeout * (s.times.retries + 1) =
      mul-le-mul_left s.times.timeout (omega arith) in omega (arith, more)

  asked_failed : E tells.AskFailed
  asked_failed = ends tells.AskFailed (λ waiter. refl)

  round_failed : E tells.RoundFailed
  round_failed = ends tells.RoundFailed (λ waiter. refl)

  -- ---- a round is opened

  gains : (view : View) (round : Round) (ok : Bool) → Fine (finish s (gain s view round now).view now ok)
  gains view round true = omega (arith, sound)
  gains view round false = omega (arith, sound)

  gains_well : (view : View) (round : Round) → Well (gain s view round now)
  gains_well view round = by_keep
    where
      by_keep : (ok : Bool) → One (finish s (gain s view round now).view now ok)
      by_keep true = gains view round true
      by_keep false = gains view round false

  asks : (view : View) (role : Role) (words : Words) → Fine (saying (asked_all s (record view { role = role }) now) words tells.Nothing)
  asks view Follower words = omega (arith, one_timeout)
  asks view Working words = omega (arith, one_timeout)
  asks view Candidate words = omega (arith, one_timeout)
  asks view Leader words = omega (arith, one_timeout)

  begins_once : (view : View) (number : ℕ) → One (begin_round s view number now)
  begins_once view number =
      let open_view : View = with_round s view number now in
      on_cond One (is_majority s (own_answer s view now)) (gain s open_view (new_round s view number now) now)
      (saying (asked_all s open_view now) (asks_all s open_view number now) tells.Nothing)
      (gains open_view (new_round s view number now)) (asks open_view open_view.role (asks_all s open_view number now))

  begins_well : (view : View) (number : ℕ) → Well (begin_round s view number now)
  begins_well view number =
      let open_view : View = with_round s view number now in
      on_cond Well (is_majority s (own_answer s view now)) (gain s open_view (new_round s view number now) now)
      (saying (asked_all s open_view now) (asks_all s open_view number now) tells.Nothing)
      (gains_well open_view (new_round s view number now)) (asks open_view open_view.role (asks_all s open_view number now))

  fails : (view : View) (role : Role) → One (fail_ask s (record view { role = role }) now)
  fails view Follower = asked_failed
  fails view Working = asked_failed
  fails view Candidate = asked_failed
  fails view Leader = omega (arith, one_timeout)

  pub ask_well : (view : View) (reason : ℕ) (ok : Bool) → One (finish s (ask s view reason now).view now ok)
  ask_well view reason true =
      let asked : View = asking s view reason now in
      begins_once (record asked { waiting = None; kept = record_of s asked view.kept.lease; sure = true; bound = Some s.me }) 0
  ask_well view reason false =
      let asked : View = record (asking s view reason now) { waiting = None } in fails asked asked.role

  -- ---- a lease is given back, lost or renewed

  released : (view : View) (reason : ℕ) → reason == SPLT ≡ false → (ok : Bool)
      → One (finish s (release s (record view { role = Leader }) reason now).view now ok)
  released view reason other true =
      on_cond (λ (v : View). FineView v tells.Released) (reason == SPLT) _ _
      (ends tells.Released (λ waiter. refl)) (ends tells.Released (λ waiter. refl))
  released view reason other false =
      when_false (λ (v : View). FineView v tells.ReleaseFailed) (reason == SPLT) _ _ other
      (on_cond (λ (at : ℕ). at ≤ latest s view now) (nat_lt now (retry_at s view now)) (retry_at s view now) (now + 1)
      (omega (arith, one_timeout)) (omega arith))

  pub round_over : (view : View) (ok : Bool) → One (finish s (round_ends s view now).view now ok)
  round_over view true = round_failed
  round_over view false = round_failed

  pub release_well : (view : View) (reason : ℕ) → reason == SPLT ≡ false → Well (release s (record view { role = Leader }) reason now)
  release_well view reason other = released view reason other

  runs : (view : View) → Well (runs_out (record view { role = Leader }))
  runs view = omega arith

  by_term : (view : View) → Well (renew_by_term s (record view { role = Leader }) now)
  by_term view =
      let leads : View = record view { role = Leader } in
      on_cond Well (are_terms_spent leads) (runs_out leads) (ask s leads RACQ now) (runs view) (ask_well leads RACQ)

  keeps_own : (view : View) (number : ℕ) (ok : Bool)
      → One (finish s (keeping (with_own_promise s (record view { role = Leader }) now) (rules.Renew number)
      (record_of s (with_own_promise s (record view { role = Leader }) now) view.kept.lease) now).view now ok)
  keeps_own view number true =
      let own : View = with_own_promise s (record view { role = Leader }) now in
      begins_once (record own { waiting = None; kept = record_of s own view.kept.lease; sure = true }) number
  keeps_own view number false = omega (arith, one_timeout)

  pub renew_well : (view : View) → Well (renew s (record view { role = Leader }) now)
  renew_well view =
      on_option Well view.round _ _ (λ none. by_term view)
      (λ round is. on_cond Well (needs_term s leads round) _ _ (by_term view)
      (on_cond Well (round.number == LAST_NUMBER) _ _ (runs view)
      (on_cond Well (s.second && answers_itself s leads now) _ _ (keeps_own view (round.number + 1))
      (begins_well leads (round.number + 1)))))
    where
      leads : View
      leads = record view { role = Leader }

  -- ---- a round is heard

  abbrev pub Still : View → Type 0
  Still view = FineView view tells.Nothing

  abbrev pub IsFine : Role → View → Type 0
  IsFine role view = By role view.due (latest s view now) (E tells.Nothing)

  waits_on : (view : View) (kind : RoundKind) (part : TicketPart) (told : Told) → E told
      → FineView (with_due s (record view { role = Follower }) kind part now) told
  waits_on view kind part told is =
      let follows : View = record view { role = Follower } in
      on_cond (λ (v : View). FineView v told) (awaits_failover s follows && view.managed) _ follows is is

  answered : (view : View) (role : Role) (site : MemberId) (kind : RoundKind) (part : TicketPart) → IsFine role view
      → FineView (answered_round s (record view { role = role }) site kind part now) (told_by_answer role)
  answered view role site kind part = by_role role
    where
      by_role : (role : Role) → IsFine role view
          → FineView (answered_round s (record view { role = role }) site kind part now) (told_by_answer role)
      by_role Follower old =
          let left : View = stood_down (promised s (record view { role = Follower }) site part.term now) in
          on_cond (λ (v : View). FineView (with_due s v kind part now) tells.Nothing) (shows_site kind part)
          (with_shown left site (now + 1000 * part.valid_for)) left
          (waits_on (with_shown left site (now + 1000 * part.valid_for)) kind part tells.Nothing old)
          (waits_on left kind part tells.Nothing old)
      by_role Working old =
          let left : View = stood_down (promised s (record view { role = Working }) site part.term now) in
          on_cond (λ (v : View). FineView (with_due s v kind part now) tells.Nothing) (shows_site kind part)
          (with_shown left site (now + 1000 * part.valid_for)) left old old
      by_role Candidate old =
          let left : View = stood_down (promised s (record view { role = Candidate }) site part.term now) in
          on_cond (λ (v : View). FineView (with_due s v kind part now) tells.RoundFailed) (shows_site kind part)
          (with_shown left site (now + 1000 * part.valid_for)) left
          (waits_on (with_shown left site (now + 1000 * part.valid_for)) kind part tells.RoundFailed round_failed)
          (waits_on left kind part tells.RoundFailed round_failed)
      by_role Leader old =
          let left : View = stood_down (promised s (record view { role = Leader }) site part.term now) in
          on_cond (λ (v : View). FineView (with_due s v kind part now) tells.Nothing) (shows_site kind part)
          (with_shown left site (now + 1000 * part.valid_for)) left old old

  promise_well : (view : View) (kind : RoundKind) (head : Head) (term : ℕ) (told : Told) → FineView view told
      → Well (promises_round s view kind head term told now)
  promise_well view kind head term told is = on_cond Well s.second _ _ by_keep is
    where
      by_keep : (ok : Bool)
          → One (finish s (keeping view (rules.Answer kind head.from head.options head.request told)
          (record_of s view view.kept.lease) now).view now ok)
      by_keep true = is
      by_keep false = is

  round_well : (view : View) (role : Role) (kind : RoundKind) (head : Head) (part : TicketPart) → IsFine role view
      → Well (hear_round s (record view { role = role }) kind head part now)
  round_well view role kind head part old =
      on_cond Well (may_answer (record view { role = role }) head.from part.term now) _ _
      (promise_well (answered_round s (record view { role = role }) head.from kind part now) kind head part.term
      (told_by_answer role) (answered view role head.from kind part old))
      old

  answer_well : (view : View) (role : Role) (place : ℕ) (head : Head) (part : TicketPart) → IsFine role view
      → Well (hear_answer s (record view { role = role }) place head part now)
  answer_well view role place head part old =
      on_option Well view.round _ _ (λ none. old)
      (λ round is. on_cond Well (is_answer_to s round head part) _ _
      (on_cond Well (wins s (with_answer round place) now) _ _
      (gains_well (record view { role = role; round = Some (with_answer round place) }) (with_answer round place)) old)
      old)

  -- ---- other messages

  learns : (view : View) (role : Role) (part : TicketPart) → IsFine role view
      → FineView (learned s (record view { role = role }) part now) tells.Nothing
  learns view role part = by_role role
    where
      by_role : (role : Role) → IsFine role view → Still (learned s (record view { role = role }) part now)
      by_role Follower old = on_cond Still (shows_leader s (record view { role = Follower }) part now) _ _ (on_cond Still (s.site && view.repeat == 0) _ _ old old) old
      by_role Working old = on_cond Still (shows_leader s (record view { role = Working }) part now) _ _ old old
      by_role Candidate old = on_cond Still (shows_leader s (record view { role = Candidate }) part now) _ _ old old
      by_role Leader old = on_cond Still (shows_leader s (record view { role = Leader }) part now) _ _ old old

  gives_back : (view : View) (role : Role) (reason : ℕ) → IsFine role view
      → FineView (given_back s (record view { role = role }) reason now) tells.Nothing
  gives_back view role reason = by_role role
    where
      by_role : (role : Role) → IsFine role view → Still (given_back s (record view { role = role }) reason now)
      by_role Follower old = on_cond Still (reason == LOCF) _ _ (on_cond Still s.site _ _ old old) (on_cond Still (view.repeat == 0) _ _ old old)
      by_role Working old = on_cond Still (reason == LOCF) _ _ old old
      by_role Candidate old = on_cond Still (reason == LOCF) _ _ old old
      by_role Leader old = on_cond Still (reason == LOCF) _ _ old old

  revokes : (view : View) (role : Role) (site : MemberId) (term reason : ℕ) → IsFine role view
      → FineView (revoked s (record view { role = role }) site term reason now) tells.Nothing
  revokes view role site term reason old =
      let its : View = record view { role = role } in
      let freed_by : Bool = is_freed_by view.promise site term in
      on_cond Still _ (given_back s (record (freed its site term) { shown = None }) reason now) (freed its site term)
      (on_cond (λ (v : View). FineView (given_back s (record v { shown = None }) reason now) tells.Nothing) freed_by
      (record its { promise = None }) its
      (gives_back (record view { promise = None; shown = None }) role reason old) (gives_back (record view { shown = None }) role reason old))
      (on_cond Still freed_by (record its { promise = None }) its old old)

  pub hear_well : (view : View) (role : Role) (place : ℕ) (head : Head) (part : TicketPart) (cmd : Cmd) → IsFine role view
      → Well (hear s (record view { role = role }) place head part now cmd)
  hear_well view role place head part cmds.RVot old =
      on_cond Well (head.options == 0) _ _ (round_well (with_seen view part.term) role Election head part old) old
  hear_well view role place head part cmds.HrtB old =
      on_cond Well (head.options == 0) _ _ old (round_well (with_seen view part.term) role Renewal head part old)
  hear_well view role place head part cmds.VtFr old =
      on_cond Well (head.options == 0) _ _ (answer_well (with_seen view part.term) role place head part old) old
  hear_well view role place head part cmds.Ack old =
      on_cond Well (head.options == 0) _ _ old (answer_well (with_seen view part.term) role place head part old)
  hear_well view role place head part cmds.Stat old = learns view role part old
  hear_well view role place head part cmds.MIdx old = learns view role part old
  hear_well view role place head part cmds.Rjc old =
      let own : View = record view { role = role } in
      on_cond (λ (v : View). FineView (learned s v part now) tells.Nothing) (s.steady && is_bound_elsewhere own.round head part)
      (with_seen own (min (view.term + 1) 4294967295)) own
      (learns (with_seen view (min (view.term + 1) 4294967295)) role part old) (learns view role part old)
  hear_well view role place head part cmds.UpdE old = learns view role part old
  hear_well view role place head part cmds.Revk old =
      let own : View = with_seen (record view { role = role }) part.term in
      on_cond (λ (v : View). FineView (revoked s v head.from part.term head.reason now) tells.Nothing)
      (s.steady && not (head.reason == SPLT)) (record own { hello = false }) own
      (revokes (record (with_seen view part.term) { hello = false }) role head.from part.term head.reason old)
      (revokes (with_seen view part.term) role head.from part.term head.reason old)
  hear_well view role place head part cmd old = old
