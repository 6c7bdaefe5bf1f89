-- A node sends what its ticket says, in the turn in which the ticket is due or hears a message.
use Rattle.std.proofs.Common.{◌≡◌, ◌≢◌, ◌⊎◌, inl, inr, ℕ, ◌<◌, ◌≤◌, true, List, [], ◌∷◌, refl, sym, ap, subst}
use Rattle.std.specs.Prelude.{Option, Some, None, slice_get}
use Rattle.std.specs.Option.{ForSome}
use Rattle.booth_base.specs.declared.address.Peer.{Peer}
use Rattle.booth_base.specs.Tree.{Deeds, Ends, Does, ◌>>=◌}
use Rattle.booth_chain.proofs.NodesLemmas.{same_or_not}
use Rattle.booth_conf.specs.declared.tickets.GrantKind.TheVariants as kinds
use Rattle.booth_wire.specs.declared.message.Head.{Head}
use Rattle.booth_wire.specs.declared.message.Say.{Say}
use Rattle.booth_wire.specs.declared.message.Say.TheVariants as says
use Rattle.booth_wire.specs.declared.message.Setup.{Setup}
use Rattle.booth_wire.specs.declared.message.TicketPart.{TicketPart}
use Rattle.booth_raft.specs.declared.view.View.{View}
use Rattle.booth_raft.specs.Deadlines.{due_now, greeted}
use Rattle.booth_raft.specs.Messages.{round_head, round_part}
use Rattle.booth_ticket.specs.declared.hands.To.{To}
use Rattle.booth_ticket.specs.declared.hands.To.TheVariants.{Member}
use Rattle.booth_ticket.specs.declared.request.Given.{Given}
use Rattle.booth_ticket.specs.Acts.{Ask as TicketAsk, Keep as KeepsRecord, Start as StartsJob, Say as Speaks}
use Rattle.booth_ticket.specs.Automatic.{come_due, hear}
use Rattle.booth_ticket.specs.Ticket.{Automatic, TicketLeft, TicketState, left_as}
use Rattle.booth_ticket.specs.Waiting.{Left, spare_in, waiting_at}
use Rattle.booth_node.specs.declared.node.Turn.TheVariants.{Went}
use Rattle.booth_node.specs.declared.node_config.NodeConfig.{NodeConfig}
use Rattle.booth_node.specs.declared.state.Common.{Common}
use Rattle.booth_node.specs.AttributeRequests.{is_ready}
use Rattle.booth_node.specs.Befalling.{Befalling, comes_due, is_told}
use Rattle.booth_node.specs.Counting.{count_send}
use Rattle.booth_node.specs.Jobs.{count_start, handler_at, job_at}
use Rattle.booth_node.specs.Reaction.{Ask, Lifted, Send, acts, acts_as, befalls, due_places, dues, each_due, lifted, peer_at, peer_of, sends, sent_as}
use Rattle.booth_node.specs.State.{State, with_ticket}
use Rattle.booth_node.proofs.DueLemmas.{Each, Once, all_once}
use Rattle.booth_progress.specs.Extending.{Hearing}
use Rattle.booth_progress.specs.Leading.{HasTermsLeft, IsLeading, IsToRenew}
use Rattle.booth_progress.specs.Renewing.{after_renewal, said_after}
use Rattle.booth_progress.specs.Speaking.{IsSaid, IsSent, Replies, Sends, TurnsSpeak, WillAsk}
use Rattle.booth_progress.specs.Turns.{HasView, HasSomeView, IsLeft}
use Rattle.booth_progress.specs.Written.{IsKept, IsWritten, Whenever, core_of}
use Rattle.booth_progress.proofs.DueLemmas.{IsIn, is_due}
use Rattle.booth_progress.proofs.SpeakingLemmas.{tickets_speak, will_first, will_later}
use Rattle.booth_progress.proofs.WrittenLemmas.{whenever_then}
use Rattle.booth_progress.proofs.TurnLemmas.{acts_from, acts_other, given_of, left_so, no_job, through_others}

-- ---- one ticket

module _ (node : NodeConfig) (now : ℕ) (to : To) (head : Head) (part : TicketPart) (peer : Peer)
    (there : peer_of node.config to ≡ Some peer) where
  abbrev Wanted : Ask → Type 0
  Wanted ask = IsSent peer (sent_as node now head part) ask

  abbrev Willed : {S : Type 0} → Deeds Ask S → Type 0
  Willed deeds = WillAsk IsKept Wanted deeds

  lifted_asks : (name : List ℕ) (rest : Lifted TicketLeft → Deeds Ask State) (common : Common) (deeds : Deeds TicketAsk TicketLeft)
      → WillAsk IsWritten (IsSaid to head part) deeds → Willed (lifted node now name common deeds >>= rest)
  lifted_asks name rest common (Ends left) h = absurd h
  lifted_asks name rest common (Does (KeepsRecord tried) go) (inl is) = absurd cc
  lifted_asks name rest common (Does (KeepsRecord tried) go) (inr later) =
      inr (λ ok may. lifted_asks name rest common (go ok) (later ok may))
  lifted_asks name rest common (Does (StartsJob job expires) go) (inl is) = absurd cc
  lifted_asks name rest common (Does (StartsJob job expires) go) (inr later) =
      inr (λ ok may. lifted_asks name rest (count_start common) (go ok) (later ok tt))
  lifted_asks name rest common (Does (Speaks other other_head other_part) go) (inl is) =
      subst (λ (ask : TicketAsk). Willed (lifted node now name common (Does ask go) >>= rest)) (sym is) (here (peer_of node.config to) there)
    where
      here : (o : Option Peer) → o ≡ Some peer
          → Willed ((sends o (sent_as node now head part) common to >>= (λ done. lifted node now name done.common (go done.ok))) >>= rest)
      here None e = absurd cc
      here (Some found) e = inl (ap (λ (p : Peer). Send p (sent_as node now head part)) (same_peer e))
        where
          same_peer : Some found ≡ Some peer → found ≡ peer
          same_peer e = cc
  lifted_asks name rest common (Does (Speaks other other_head other_part) go) (inr later) =
      by_peer (peer_of node.config other) (λ counted. lifted_asks name rest counted (go true) (later true tt))
    where
      by_peer : (o : Option Peer) → ((counted : Common) → Willed (lifted node now name counted (go true) >>= rest))
          → Willed ((sends o (sent_as node now other_head other_part) common other
          >>= (λ done. lifted node now name done.common (go done.ok))) >>= rest)
      by_peer None more = more common
      by_peer (Some found) more = inr (λ ok may. more (count_send common other ok))

  acts_ask : (state : State) (place : ℕ) (setup : Setup) (view : View) (event : Befalling) → HasView state place setup view
      → WillAsk IsWritten (IsSaid to head part)
      (befalls (record { setup = setup; known = Automatic view }) (waiting_at state.waiters place) (spare_in state.waiters)
      (is_ready node state.attributes place) (job_at node place state.common) event now)
      → Willed (acts node now state place event)
  acts_ask state place setup view event has h =
      subst (λ (o : Option TicketState). Willed (acts_as node now state place event o)) (sym has)
      (lifted_asks setup.ticket (λ done. Ends (with_ticket state place done.common done.left)) state.common
      (befalls (record { setup = setup; known = Automatic view }) (waiting_at state.waiters place) (spare_in state.waiters)
      (is_ready node state.attributes place) (job_at node place state.common) event now) h)

  -- ---- the deadlines

  each_asks : (place : ℕ) (setup : Setup) (view : View) (places : List ℕ) (state : State) → IsIn place places
      → state.last_reading ≡ now → HasView state place setup view
      → ((common : Common) (state : State) → HasView state place setup view → Willed (acts node now state place comes_due))
      → Willed (each_due node now places state)
  each_asks place setup view [] state among reading has so = absurd among
  each_asks place setup view (first ∷ places) state among reading has so =
      by_first (same_or_not place first) (λ left later at found. each_asks place setup view places left later at found so)
    where
      by_first : (place ≡ first) ⊎ (place ≢ first)
          → ((left : State) → IsIn place places → left.last_reading ≡ now → HasView left place setup view → Willed (each_due node now places left))
          → Willed (each_due node now (first ∷ places) state)
      by_first (inl same) rest =
          will_first IsKept Wanted (acts node now state first comes_due) (each_due node now places)
          (subst (λ (p : ℕ). Willed (acts node now state p comes_due)) same (so state.common state has))
      by_first (inr apart) rest =
          will_later IsKept Wanted (IsLeft now place setup (λ v. v ≡ view)) (acts node now state first comes_due) (each_due node now places)
          (acts_other node now place setup (λ v. v ≡ view) state first comes_due apart (record { reading = reading; ticket = (view, has, refl) }))
          (λ left l. go_on left l.reading l.ticket)
        where
          rest_of : IsIn place (first ∷ places) → IsIn place places
          rest_of (inl same) = absurd (apart (sym same))
          rest_of (inr later) = later

          go_on : (left : State) → left.last_reading ≡ now → HasSomeView left place setup (λ v. v ≡ view) → Willed (each_due node now places left)
          go_on left at (v, found, same) = rest left (rest_of among) at (subst (λ (w : View). HasView left place setup w) same found)

-- ---- the renewal

apart_of : (place : ℕ) (places : List ℕ) → Each (λ y. place ≢ y) places → IsIn place places → ⊥
apart_of place [] each_is among = among
apart_of place (first ∷ places) each_is (inl same) = each_is.0 (sym same)
apart_of place (first ∷ places) each_is (inr later) = apart_of place places each_is.1 later

module _ (node : NodeConfig) (now place : ℕ) (setup : Setup) (view : View) (no_handler : handler_at node place ≡ None)
    (l : IsLeading setup now view) (wants_it : IsToRenew setup now (greeted setup view) (due_now setup (greeted setup view) now)) where
  abbrev Renewed : View → Type 0
  Renewed left = left ≡ after_renewal setup (greeted setup view) now

  acts_renew : (state : State) → state.last_reading ≡ now → HasView state place setup view
      → Whenever IsKept (IsLeft now place setup Renewed) (acts node now state place comes_due)
  acts_renew state reading has =
      acts_from node now place setup Renewed state view comes_due reading has
      (λ waiters spare ready common. left_so node now place setup Renewed
      (come_due (core_of setup view) waiters (given_of now (ready kinds.Auto) (job_at node place common)))
      (tickets_speak.renewed setup view waiters (given_of now (ready kinds.Auto) (job_at node place common))
      (no_job (handler_at node place) common no_handler) l wants_it))

  each_renews : (places : List ℕ) (state : State) → IsIn place places → Once places → state.last_reading ≡ now
      → HasView state place setup view → Whenever IsKept (IsLeft now place setup Renewed) (each_due node now places state)
  each_renews [] state among once reading has = absurd among
  each_renews (first ∷ places) state among once reading has =
      by_first (same_or_not place first) (λ left later at found. each_renews places left later once.1 at found)
    where
      by_first : (place ≡ first) ⊎ (place ≢ first)
          → ((left : State) → IsIn place places → left.last_reading ≡ now → HasView left place setup view
          → Whenever IsKept (IsLeft now place setup Renewed) (each_due node now places left))
          → Whenever IsKept (IsLeft now place setup Renewed) (each_due node now (first ∷ places) state)
      by_first (inl same) rest =
          whenever_then IsKept (IsLeft now place setup Renewed) (IsLeft now place setup Renewed) (acts node now state first comes_due)
          (each_due node now places)
          (subst (λ (p : ℕ). Whenever IsKept (IsLeft now place setup Renewed) (acts node now state p comes_due)) same
          (acts_renew state reading has))
          (λ left l. through_others node now place setup Renewed places left
          (apart_of place places (subst (λ (p : ℕ). Each (λ y. p ≢ y) places) (sym same) once.0)) l)
      by_first (inr apart) rest =
          whenever_then IsKept (IsLeft now place setup (λ v. v ≡ view)) (IsLeft now place setup Renewed) (acts node now state first comes_due)
          (each_due node now places)
          (acts_other node now place setup (λ v. v ≡ view) state first comes_due apart (record { reading = reading; ticket = (view, has, refl) }))
          (λ left l. go_on left l.reading l.ticket)
        where
          rest_of : IsIn place (first ∷ places) → IsIn place places
          rest_of (inl same) = absurd (apart (sym same))
          rest_of (inr later) = later

          go_on : (left : State) → left.last_reading ≡ now → HasSomeView left place setup (λ v. v ≡ view)
              → Whenever IsKept (IsLeft now place setup Renewed) (each_due node now places left)
          go_on left at (v, found, same) = rest left (rest_of among) at (subst (λ (w : View). HasView left place setup w) same found)

pub turns_speak : TurnsSpeak
turns_speak = record {
  asks = asks_so;
  renewed = λ node state place setup view now due no_handler l wants_it has reading is came.
      each_renews node now place setup view no_handler l wants_it (due_places now state.tickets) state
      (is_due state place setup view now due has is came) (all_once now state.tickets) reading has;
  replies = replies_so;
}
  where
    asks_so : (node : NodeConfig) (state : State) (place : ℕ) (setup : Setup) (view : View) (now due other : ℕ)
        (peer : Peer) → handler_at node place ≡ None → 1 < setup.members
        → IsLeading setup now view → HasTermsLeft view
        → IsToRenew setup now (greeted setup view) (due_now setup (greeted setup view) now)
        → HasView state place setup view → state.last_reading ≡ now → view.due ≡ Some due → due ≤ now
        → other < setup.members → other ≢ setup.place
        → peer_at node.config (slice_get node.config.members other) ≡ Some peer
        → ForSome (after_renewal setup (greeted setup view) now).round (λ round.
        WillAsk IsKept
        (IsSent peer (sent_as node now (round_head setup (after_renewal setup (greeted setup view) now) round.number)
        (round_part setup (after_renewal setup (greeted setup view) now) now)))
        (dues node now Went state))
    asks_so node state place setup view now due other peer no_handler two l left wants_it has reading is came below apart at round some =
        each_asks node now (Member other) head part peer at place setup view (due_places now state.tickets) state
        (is_due state place setup view now due has is came) reading has
        (λ common later there. acts_ask node now (Member other) head part peer at later place setup view comes_due there
        (will_first IsWritten (IsSaid (Member other) head part)
        (come_due (core_of setup view) (waiting_at later.waiters place) (given later)) (λ (left : Left). Ends (left_as left))
        (tickets_speak.asks setup view (waiting_at later.waiters place) (given later) other
        (no_job (handler_at node place) later.common no_handler) two l left wants_it below apart round some)))
      where
        head : Head
        head = round_head setup (after_renewal setup (greeted setup view) now) round.number

        part : TicketPart
        part = round_part setup (after_renewal setup (greeted setup view) now) now

        given : State → Given
        given later = given_of now (is_ready node later.attributes place kinds.Auto) (job_at node place later.common)

    replies_so : (node : NodeConfig) (state : State) (place : ℕ) (setup : Setup) (view : View) (hearing : Hearing)
        (peer : Peer) → HasView state place setup view
        → peer_at node.config (slice_get node.config.members hearing.place) ≡ Some peer
        → Sends node hearing.now peer (said_after setup view hearing)
        (acts node hearing.now state place (is_told hearing.place hearing.head hearing.part))
    replies_so node state place setup view hearing peer has at =
        by_say (said_after setup view hearing) (tickets_speak.replies setup view (waiting_at state.waiters place) hearing)
      where
        hears : Deeds TicketAsk Left
        hears = hear (core_of setup view) (waiting_at state.waiters place) hearing.place hearing.head hearing.part hearing.now

        by_say : (words : Say) → Replies hearing.place words hears
            → Sends node hearing.now peer words (acts node hearing.now state place (is_told hearing.place hearing.head hearing.part))
        by_say says.Nothing h = tt
        by_say (says.All head part) h = tt
        by_say (says.Unanswered head part bits) h = tt
        by_say (says.Reply head part) h =
            acts_ask node hearing.now (Member hearing.place) head part peer at state place setup view
            (is_told hearing.place hearing.head hearing.part) has
            (will_first IsWritten (IsSaid (Member hearing.place) head part) hears (λ (left : Left). Ends (left_as left)) h)
