-- A leader's open round collects the answers that are heard in time, and gives a lease.
use Rattle.std.proofs.Common.{◌≡◌, ◌≢◌, ◌⊎◌, inl, inr, ℕ, ◌+◌, ◌<◌, ◌≤◌, Bool, true, false, List, length, refl, sym, ◌∙◌, subst, arith}
use Rattle.std.specs.Prelude.{Option, Some, None, IsSomeAnd, Result, Ok, Err}
use Rattle.booth_base.specs.declared.address.Peer.{Peer}
use Rattle.booth_base.specs.Tree.{Deeds, Ends}
use Rattle.booth_chain.proofs.NodesLemmas.{same_or_not}
use Rattle.booth_conf.specs.declared.tickets.GrantKind.TheVariants as kinds
use Rattle.booth_host.specs.declared.host.Arrival.{Arrival}
use Rattle.booth_host.specs.declared.host.Arrival.TheVariants as arrivals
use Rattle.booth_host.specs.declared.host.Failed.{Failed}
use Rattle.booth_wire.specs.declared.message.Head.{Head}
use Rattle.booth_wire.specs.declared.message.Setup.{Setup}
use Rattle.booth_wire.specs.declared.message.TicketPart.{TicketPart}
use Rattle.booth_raft.specs.declared.view.Round.{Round}
use Rattle.booth_raft.specs.declared.view.View.{View}
use Rattle.booth_raft.specs.GainReleaseLost.{own_end}
use Rattle.booth_raft.specs.OtherMessages.{hear as heard_by_rule}
use Rattle.booth_raft.specs.Outcome.{Outcome}
use Rattle.booth_raft.proofs.FactsLemmas.{untrue}
use Rattle.booth_ticket.specs.declared.handling.Service.{Service}
use Rattle.booth_ticket.specs.declared.request.Given.{Given}
use Rattle.booth_ticket.specs.declared.request.Request.{Request}
use Rattle.booth_ticket.specs.declared.request.Wish.TheVariants.{Revoke}
use Rattle.booth_ticket.specs.Automatic.{come_due, end_job, hear}
use Rattle.booth_ticket.specs.Requests.{follow_request}
use Rattle.booth_ticket.specs.Waiting.{Left}
use Rattle.booth_node.specs.declared.node.Turn.{Turn}
use Rattle.booth_node.specs.declared.node.Turn.TheVariants.{Went, Stopped}
use Rattle.booth_node.specs.declared.node_config.NodeConfig.{NodeConfig}
use Rattle.booth_node.specs.Befalling.{comes_due, ends_job, is_asked, is_told}
use Rattle.booth_node.specs.Counting.{accepted}
use Rattle.booth_node.specs.Jobs.{handler_at, job_at}
use Rattle.booth_node.specs.Reaction.{Action, Answers, Ask, Asks, Attends, Drops, Hears, Rests, action, acts, arrived, due_places, dues, met, react, turn_end}
use Rattle.booth_node.specs.State.{State}
use Rattle.booth_progress.specs.Extending.{Hearing as Heard, IsAnswerOf, after_hearing}
use Rattle.booth_progress.specs.Kept.{AllKept}
use Rattle.booth_progress.specs.Leading.{GrewFrom, HasAnswered, IsLeading, KeepsLease, LeadsOn}
use Rattle.booth_progress.specs.Turns.{HasSomeView, HasView, IsLeft, IsNoRevoke, Meets}
use Rattle.booth_progress.specs.Winning.{Attempt, Brings, IsAnswerBy, IsAwaiting, IsFit, IsRenewed}
use Rattle.booth_progress.specs.Written.{IsKept, IsWritten, Whenever, core_of}
use Rattle.booth_progress.proofs.DueLemmas.{not_due}
use Rattle.booth_progress.proofs.ExtendingLemmas.{Counted, Fit, heard, leading_later, same_answer, some_and}
use Rattle.booth_progress.proofs.LeadingLemmas.{leaders_lead_on}
use Rattle.booth_progress.proofs.TicketLemmas.{leading_asked, leading_over, tickets_keep_leases}
use Rattle.booth_progress.proofs.TurnLemmas.{Befalls, Keeps, Kept, acts_from, arrived_keeps, dues_keep, given_of, left_so, met_keeps, no_job, through_others}
use Rattle.booth_progress.proofs.WrittenLemmas.{heard_leaves, whenever_on, whenever_then}

grew_then : (a b c : Round) → GrewFrom a b → GrewFrom b c → GrewFrom a c
grew_then a b c p q = record {
  term = q.term ∙ p.term;
  number = q.number ∙ p.number;
  opened = q.opened ∙ p.opened;
  won = λ w. q.won (p.won w);
  size = q.size ∙ p.size;
  answers = λ place h. q.answers place (p.answers place h);
}

-- the round is open, and these members have answered it
pub record Awaits (attempt : Attempt) (Answered : ℕ → Type 0) (view : View) : Type 0 where
  pub awaits : IsAwaiting attempt view
  pub answered : (place : ℕ) → Answered place → HasAnswered awaits.round.answers place

-- the leader has kept its lease, and the lease is renewed, or the round is open with these answers
pub record WinsBy (attempt : Attempt) (Answered : ℕ → Type 0) (now : ℕ) (view : View) : Type 0 where
  pub keeps : KeepsLease attempt.setup now attempt.start view
  pub wins : IsRenewed attempt view ⊎ Awaits attempt Answered view

-- ---- a message

module _ (attempt : Attempt) (fit : IsFit attempt) where
  abbrev pub its : Setup
  its = attempt.setup

  -- an answer that the message is counts
  abbrev pub Told : (ℕ → Type 0) → Heard → ℕ → Type 0
  Told Answered h member = Answered member ⊎ ((member < length attempt.first.answers) × IsAnswerOf its attempt.first member h)

  module _ (Answered : ℕ → Type 0) (view : View) (h : Heard) (on : LeadsOn its h.now view (after_hearing its view h))
      (l : IsLeading its h.now view) (a : Awaits attempt Answered view) where
    abbrev round : Round
    round = a.awaits.round

    abbrev new : View
    new = after_hearing its view h

    abbrev Grown : Round → Type 0
    Grown n =
        GrewFrom round n
        × Counted its fit.short attempt.majority fit.enough (round.opened + its.times.expire) new n
        × (Fit its fit.short attempt.majority fit.enough round h → HasAnswered n.answers h.place)

    abbrev Then : Type 0
    Then = IsRenewed attempt new ⊎ Awaits attempt (Told Answered h) new

    counts : (n : Round) → Grown n → (member : ℕ) → Told Answered h member → HasAnswered n.answers member
    counts n g member (inl old) = g.0.answers member (a.answered member old)
    counts n g member (inr (below, answer)) =
        subst (λ (p : ℕ). HasAnswered n.answers p) answer.from
        (g.2 (
          answer.kind,
          sym (same_answer its fit.short attempt.majority fit.enough attempt.first round h a.awaits.grew) ∙ answer.to,
          subst (λ (p : ℕ). p < length round.answers) (sym answer.from)
              (subst (λ (l : ℕ). member < l) (sym a.awaits.grew.size) below),
        ))

    still : (n : Round) → new.round ≡ Some n → n.won ≡ false
        → (new.due ≡ view.due) ⊎ IsSomeAnd new.round (λ r. r.won ≡ true) → new.due ≡ Some attempt.deadline
    still n is unwon (inl same) = same ∙ a.awaits.due
    still n is unwon (inr won) =
        absurd (untrue (sym unwon ∙ subst (λ (o : Option Round). IsSomeAnd o (λ r. r.won ≡ true)) is won))

    by_won : (n : Round) → new.round ≡ Some n → Grown n → (b : Bool) → n.won ≡ b → Then
    by_won n is g true won =
        let ending : round.opened + its.times.expire ≤ own_end new = g.1.won_end won in
        let opened : round.opened ≡ attempt.first.opened = a.awaits.grew.opened in
        inl (omega (arith, ending, opened))
    by_won n is g false unwon =
        inr (record {
          awaits = record {
            round = n;
            current = is;
            grew = grew_then attempt.first round n a.awaits.grew g.0;
            unwon = unwon;
            missing = λ have. untrue (sym unwon ∙ g.1.all_won have);
            due = still n is unwon on.due;
          };
          answered = counts n g;
        })

    grown : (n : Round) × (new.round ≡ Some n) × Grown n → Then
    grown (n, is, g) = by_won n is g n.won refl

    awaits_on : Then
    awaits_on =
        grown (some_and _ new.round
        (heard its fit.short attempt.majority fit.enough view round h l a.awaits.current
        (record { won_end = λ won. absurd (untrue (sym a.awaits.unwon ∙ won)); all_won = λ have. absurd (a.awaits.missing have) })))

  pub hears_wins : (Answered : ℕ → Type 0) (view : View) (h : Heard) → WinsBy attempt Answered h.now view
      → AllKept its h.now (λ (o : Outcome). WinsBy attempt (Told Answered h) h.now o.view)
      (heard_by_rule its view h.place h.head h.part h.now h.head.cmd)
  hears_wins Answered view h w = record { keeps = kept_on; wins = by_case w.wins }
    where
      on : LeadsOn its h.now view (after_hearing its view h)
      on = leaders_lead_on its view h.now h.place h.head h.part h.head.cmd fit.short w.keeps.leading

      kept_on : KeepsLease its h.now attempt.start (after_hearing its view h)
      kept_on =
          let keeps : KeepsLease its h.now attempt.start view = w.keeps in
          let first : own_end attempt.start ≤ own_end view = keeps.longer in
          let second : own_end view ≤ own_end (after_hearing its view h) = on.longer in
          record { leading = on.leading; longer = omega (arith, first, second) }

      by_case : IsRenewed attempt view ⊎ Awaits attempt Answered view
          → IsRenewed attempt (after_hearing its view h) ⊎ Awaits attempt (Told Answered h) (after_hearing its view h)
      by_case (inl renewed) =
          let second : own_end view ≤ own_end (after_hearing its view h) = on.longer in inl (omega (arith, renewed, second))
      by_case (inr a) = awaits_on Answered view h on w.keeps.leading a

  -- time passes
  wins_later : (Answered : ℕ → Type 0) (before now : ℕ) (view : View) → before ≤ now → now < own_end attempt.start
      → WinsBy attempt Answered before view → WinsBy attempt Answered now view
  wins_later Answered before now view earlier runs w =
      let longer : own_end attempt.start ≤ own_end view = w.keeps.longer in
      record {
        keeps = record {
          leading = leading_later its view before now earlier (omega (arith, runs, longer)) w.keeps.leading;
          longer = longer;
        };
        wins = w.wins;
      }

  pub wins_more : (Answered More : ℕ → Type 0) → ((member : ℕ) → More member → Answered member) → (now : ℕ) (view : View)
      → WinsBy attempt Answered now view → WinsBy attempt More now view
  wins_more Answered More on now view w = record { keeps = w.keeps; wins = by_case w.wins }
    where
      by_case : IsRenewed attempt view ⊎ Awaits attempt Answered view → IsRenewed attempt view ⊎ Awaits attempt More view
      by_case (inl renewed) = inl renewed
      by_case (inr a) = inr (record { awaits = a.awaits; answered = λ member so. a.answered member (on member so) })

-- ---- a turn

module _ (node : NodeConfig) (place now : ℕ) (attempt : Attempt) (fit : IsFit attempt) (runs : now < own_end attempt.start)
    (in_time : now < attempt.deadline) (no_handler : handler_at node place ≡ None) where
  abbrev So : (ℕ → Type 0) → View → Type 0
  So Answered view = WinsBy attempt Answered now view

  abbrev Leaving : (ℕ → Type 0) → Deeds Ask State → Type 0
  Leaving Answered deeds = Keeps node now place attempt.setup (So Answered) deeds

  more : (Answered More : ℕ → Type 0) → ((member : ℕ) → More member → Answered member) → (deeds : Deeds Ask State)
      → Leaving Answered deeds → Leaving More deeds
  more Answered More on deeds h =
      whenever_on IsKept (Kept node now place attempt.setup (So Answered)) (Kept node now place attempt.setup (So More)) deeds h
      (λ left l. record { reading = l.reading; ticket = (l.ticket.0, l.ticket.1, wins_more attempt fit Answered More on now l.ticket.0 l.ticket.2) })

  over_so : (Answered : ℕ → Type 0) (job : ℕ) (service : Service) → Befalls node now place attempt.setup (So Answered) (ends_job job service)
  over_so Answered job service view waiters spare ready common w =
      left_so node now place attempt.setup (So Answered) (end_job (core_of attempt.setup view) waiters job service now)
      (leading_over attempt.setup waiters (So Answered) view job service now w.keeps.leading w)

  asked_so : (Answered : ℕ → Type 0) (request : Request) → request.wish ≢ Revoke
      → Befalls node now place attempt.setup (So Answered) (is_asked request)
  asked_so Answered request other view waiters spare ready common w =
      left_so node now place attempt.setup (So Answered)
      (follow_request (core_of attempt.setup view) waiters spare (given_of now (ready kinds.Manual) (job_at node place common)) request request.wish)
      (leading_asked attempt.setup waiters (So Answered) view spare (given_of now (ready kinds.Manual) (job_at node place common)) request other
      w.keeps.leading w)

  -- ---- the arrival

  module _ (Answered : ℕ → Type 0) (state : State) (view : View) (reading : state.last_reading ≡ now)
      (there : HasView state place attempt.setup view) (w : WinsBy attempt Answered now view) where
    abbrev After : Action → ℕ → Type 0
    After a member = Answered member ⊎ IsAnswerBy attempt place now member a

    rests : Kept node now place attempt.setup (So Answered) state
    rests = record { reading = reading; ticket = (view, there, w) }

    nothing_new : (member : ℕ) → Answered member ⊎ ⊥ → Answered member
    nothing_new member (inl old) = old
    nothing_new member (inr none) = absurd none

    told_here : (member : ℕ) (head : Head) (part : TicketPart)
        → Leaving (After (Hears member place head part)) (acts node now (accepted state member now) place (is_told member head part))
    told_here member head part =
        acts_from node now place attempt.setup (So (After (Hears member place head part))) (accepted state member now) view
        (is_told member head part) reading there
        (λ waiters spare ready common. left_so node now place attempt.setup (So (After (Hears member place head part)))
        (hear (core_of attempt.setup view) waiters member head part now)
        (heard_leaves attempt.setup (So (After (Hears member place head part))) waiters view member head part now
        (wins_more attempt fit (Told attempt fit Answered message) (After (Hears member place head part)) as_told now
        (after_hearing attempt.setup view message) (hears_wins attempt fit Answered view message w))))
      where
        message : Heard
        message = record { place = member; head = head; part = part; now = now }

        as_told : (other : ℕ) → After (Hears member place head part) other → Told attempt fit Answered message other
        as_told other (inl old) = inl old
        as_told other (inr answer) = inr (answer.1, answer.2)

    met_so : (from : Peer) (a : Action) → IsNoRevoke place a → Leaving (After a) (met node now state from a)
    met_so from (Drops fault) fair =
        more Answered (After (Drops fault)) nothing_new (met node now state from (Drops fault))
        (met_keeps node now place attempt.setup (So Answered) state from (Drops fault) tt rests)
    met_so from (Hears member ticket head part) fair = by_place (same_or_not place ticket)
      where
        by_place : (place ≡ ticket) ⊎ (place ≢ ticket)
            → Leaving (After (Hears member ticket head part)) (met node now state from (Hears member ticket head part))
        by_place (inl same) =
            subst (λ (t : ℕ). Leaving (After (Hears member t head part)) (met node now state from (Hears member t head part))) same
            (told_here member head part)
        by_place (inr apart) =
            more Answered (After (Hears member ticket head part)) others (met node now state from (Hears member ticket head part))
            (met_keeps node now place attempt.setup (So Answered) state from (Hears member ticket head part)
            (λ same. absurd (apart (sym same))) rests)
          where
            others : (other : ℕ) → After (Hears member ticket head part) other → Answered other
            others other (inl old) = old
            others other (inr answer) = absurd (apart (sym answer.0))
    met_so from (Asks ticket request) fair =
        more Answered (After (Asks ticket request)) nothing_new (met node now state from (Asks ticket request))
        (met_keeps node now place attempt.setup (So Answered) state from (Asks ticket request)
        (λ same. asked_so Answered request (fair same)) rests)
    met_so from (Attends ticket request) fair =
        more Answered (After (Attends ticket request)) nothing_new (met node now state from (Attends ticket request))
        (met_keeps node now place attempt.setup (So Answered) state from (Attends ticket request) tt rests)
    met_so from (Answers messages) fair =
        more Answered (After (Answers messages)) nothing_new (met node now state from (Answers messages))
        (met_keeps node now place attempt.setup (So Answered) state from (Answers messages) tt rests)
    met_so from Rests fair =
        more Answered (After Rests) nothing_new (met node now state from Rests)
        (met_keeps node now place attempt.setup (So Answered) state from Rests tt rests)

    arrived_so : (arrival : Result Arrival Failed) (bytes : List ℕ) → Meets node now state arrival bytes (IsNoRevoke place)
        → Leaving (λ member. Answered member ⊎ Brings node now state arrival bytes (IsAnswerBy attempt place now member))
        (arrived node now state arrival bytes)
    arrived_so (Ok (arrivals.Datagram from)) bytes fair = met_so from (action node now state.tickets state.common from bytes) fair
    arrived_so (Ok (arrivals.Handler job status)) bytes fair =
        more Answered _ nothing_new (arrived node now state (Ok (arrivals.Handler job status)) bytes)
        (arrived_keeps node now place attempt.setup (So Answered) state (Ok (arrivals.Handler job status)) bytes tt (over_so Answered) rests)
    arrived_so (Ok arrivals.Quiet) bytes fair = more Answered _ nothing_new (Ends state) rests
    arrived_so (Ok arrivals.Stop) bytes fair = more Answered _ nothing_new (Ends state) rests
    arrived_so (Err failed) bytes fair = more Answered _ nothing_new (Ends state) rests

  -- ---- the deadlines

  abbrev Renewed : View → Type 0
  Renewed view = KeepsLease attempt.setup now attempt.start view × IsRenewed attempt view

  due_renewed : Befalls node now place attempt.setup Renewed comes_due
  due_renewed view waiters spare ready common h =
      left_so node now place attempt.setup Renewed (come_due (core_of attempt.setup view) waiters given)
      (whenever_on IsWritten (λ (left : Left). (left.core.setup ≡ attempt.setup) × KeepsLease attempt.setup now view left.core.view)
      (λ (left : Left). (left.core.setup ≡ attempt.setup) × Renewed left.core.view) (come_due (core_of attempt.setup view) waiters given)
      (tickets_keep_leases.due attempt.setup view waiters given (no_job (handler_at node place) common no_handler) fit.others h.0.leading)
      (λ left l.
      let keeps : KeepsLease attempt.setup now attempt.start view = h.0 in
      let first : own_end attempt.start ≤ own_end view = keeps.longer in
      let after : KeepsLease attempt.setup now view left.core.view = l.1 in
      let second : own_end view ≤ own_end left.core.view = after.longer in
      let renewed : attempt.first.opened + attempt.setup.times.expire ≤ own_end view = h.1 in (
        l.0,
        (record { leading = after.leading; longer = omega (arith, first, second) }, omega (arith, renewed, second)),
      )))
    where
      given : Given
      given = given_of now (ready kinds.Auto) (job_at node place common)

  dues_so : (Answered : ℕ → Type 0) (turn : Turn) (state : State) → Kept node now place attempt.setup (So Answered) state
      → Leaving Answered (dues node now turn state)
  dues_so Answered Stopped state h = h
  dues_so Answered Went state h = by_view h.ticket
    where
      by_view : HasSomeView state place attempt.setup (So Answered) → Leaving Answered (dues node now Went state)
      by_view (view, there, w) = by_case w.wins
        where
          by_case : IsRenewed attempt view ⊎ Awaits attempt Answered view → Leaving Answered (dues node now Went state)
          by_case (inl renewed) =
              whenever_on IsKept (Kept node now place attempt.setup Renewed) (Kept node now place attempt.setup (So Answered))
              (dues node now Went state)
              (dues_keep node now place attempt.setup Renewed due_renewed Went state
              (record { reading = h.reading; ticket = (view, there, (w.keeps, renewed)) }))
              (λ left l. record {
                reading = l.reading;
                ticket = (l.ticket.0, l.ticket.1, record { keeps = l.ticket.2.0; wins = inl l.ticket.2.1 });
              })
          by_case (inr a) =
              through_others node now place attempt.setup (So Answered) (due_places now state.tickets) state
              (not_due state place attempt.setup view now attempt.deadline there a.awaits.due in_time) h

  turn_so : (Answered : ℕ → Type 0) (state : State) (arrival : Result Arrival Failed) (bytes : List ℕ)
      → HasSomeView state place attempt.setup (So Answered) → Meets node now state arrival bytes (IsNoRevoke place)
      → Leaving (λ member. Answered member ⊎ Brings node now state arrival bytes (IsAnswerBy attempt place now member))
      (react node state now arrival bytes)
  turn_so Answered state arrival bytes (view, there, w) fair =
      whenever_then IsKept (Kept node now place attempt.setup (So Then)) (Kept node now place attempt.setup (So Then))
      (arrived node now (record state { last_reading = now }) arrival bytes) (dues node now (turn_end arrival))
      (more Next Then (same_brings arrival) (arrived node now (record state { last_reading = now }) arrival bytes)
      (arrived_so Answered (record state { last_reading = now }) view refl there w arrival bytes (same_meets arrival fair)))
      (λ left l. dues_so Then (turn_end arrival) left l)
    where
      Then : ℕ → Type 0
      Then member = Answered member ⊎ Brings node now state arrival bytes (IsAnswerBy attempt place now member)

      Next : ℕ → Type 0
      Next member = Answered member ⊎ Brings node now (record state { last_reading = now }) arrival bytes (IsAnswerBy attempt place now member)

      same_brings : (other : Result Arrival Failed) (member : ℕ)
          → Answered member ⊎ Brings node now state other bytes (IsAnswerBy attempt place now member)
          → Answered member ⊎ Brings node now (record state { last_reading = now }) other bytes (IsAnswerBy attempt place now member)
      same_brings (Ok (arrivals.Datagram from)) member h = h
      same_brings (Ok (arrivals.Handler job status)) member h = h
      same_brings (Ok arrivals.Quiet) member h = h
      same_brings (Ok arrivals.Stop) member h = h
      same_brings (Err failed) member h = h

      same_meets : (other : Result Arrival Failed) → Meets node now state other bytes (IsNoRevoke place)
          → Meets node now (record state { last_reading = now }) other bytes (IsNoRevoke place)
      same_meets (Ok (arrivals.Datagram from)) m = m
      same_meets (Ok (arrivals.Handler job status)) m = tt
      same_meets (Ok arrivals.Quiet) m = tt
      same_meets (Ok arrivals.Stop) m = tt
      same_meets (Err failed) m = tt

pub turns_win : (node : NodeConfig) (state : State) (place : ℕ) (attempt : Attempt) (Answered : ℕ → Type 0) (before now : ℕ)
    (arrival : Result Arrival Failed) (bytes : List ℕ)
    → IsFit attempt → before ≤ now → now < own_end attempt.start → now < attempt.deadline → handler_at node place ≡ None
    → HasSomeView state place attempt.setup (WinsBy attempt Answered before) → Meets node now state arrival bytes (IsNoRevoke place)
    → Whenever IsKept
    (IsLeft now place attempt.setup
    (WinsBy attempt (λ member. Answered member ⊎ Brings node now state arrival bytes (IsAnswerBy attempt place now member)) now))
    (react node state now arrival bytes)
turns_win node state place attempt Answered before now arrival bytes fit earlier runs in_time no_handler (view, there, w) fair =
    turn_so node place now attempt fit runs in_time no_handler Answered state arrival bytes
    (view, there, wins_later attempt fit Answered before now view earlier runs w) fair
