-- What an arrival is for one ticket: a member's message that is heard, a client's request, or nothing; and so the whole
-- turn.
use Rattle.std.proofs.Common.{◌≡◌, ◌≢◌, ◌⊎◌, inl, inr, ℕ, zero, suc, ◌+◌, ◌^◌, ◌<◌, ◌≤◌, Bool, List, length, refl, sym, ap, subst, arith, [], ◌∷◌}
use Rattle.std.specs.Prelude.{Option, Some, None, Result, Ok, Err}
use Rattle.std.specs.List.{range_with_len}
use Rattle.std.specs.Option.{ForSome}
use Rattle.std.proofs.lemmas.Option.{slice_get_within}
use Rattle.booth_base.specs.declared.address.Peer.{Peer}
use Rattle.booth_base.specs.Tree.{Deeds, Ends, ◌>>=◌, each, ◌>>◌}
use Rattle.booth_chain.proofs.NodesLemmas.{same_or_not}
use Rattle.booth_wire.specs.declared.message.Head.{Head}
use Rattle.booth_wire.specs.declared.message.TicketPart.{TicketPart}
use Rattle.booth_wire.specs.declared.message.Setup.{Setup}
use Rattle.booth_wire.specs.PlainMessage.{PlainMessage}
use Rattle.booth_auth.specs.declared.admission.DropFault.{DropFault}
use Rattle.booth_auth.specs.Sealed.{stamped_head}
use Rattle.booth_host.specs.declared.host.Failed.{Failed}
use Rattle.booth_host.specs.declared.host.Arrival.{Arrival}
use Rattle.booth_host.specs.declared.host.Arrival.TheVariants as arrivals
use Rattle.booth_raft.specs.declared.view.View.{View}
use Rattle.booth_raft.specs.Outcome.{Outcome}
use Rattle.booth_raft.specs.State.{step}
use Rattle.booth_ticket.specs.declared.request.Request.{Request}
use Rattle.booth_ticket.specs.declared.handling.Service.{Service}
use Rattle.booth_ticket.specs.Automatic.{end_job, hear as hears_words, hear_message}
use Rattle.booth_ticket.specs.Handling.{service_of}
use Rattle.booth_ticket.specs.declared.request.Given.{Given}
use Rattle.booth_ticket.specs.Requests.{follow_request}
use Rattle.booth_ticket.specs.Ticket.{left_as}
use Rattle.booth_ticket.specs.Waiting.{Left, spare_in, tell, waiting_at}
use Rattle.booth_ticket.specs.declared.waiters.Waiter.{Waiter}
use Rattle.booth_ticket.specs.Acts.{Ask as TicketAsk}
use Rattle.booth_ticket.specs.Keeping.{carry_out}
use Rattle.booth_node.specs.declared.node.Turn.{Turn}
use Rattle.booth_node.specs.declared.node_config.NodeConfig.{NodeConfig}
use Rattle.booth_node.specs.declared.state.Common.{Common}
use Rattle.booth_node.specs.Befalling.{ends_job, is_told, is_asked}
use Rattle.booth_node.specs.Counting.{dropped, accepted}
use Rattle.booth_auth.specs.Verdict.{verdict}
use Rattle.booth_conf.specs.declared.tickets.GrantKind.TheVariants.{Manual}
use Rattle.booth_node.specs.AttributeRequests.{is_ready}
use Rattle.booth_node.proofs.RoutingLemmas.{attr_to_client}
use Rattle.booth_node.specs.Jobs.{handler_at, job_at}
use Rattle.booth_node.specs.Reaction.{Ask, Action, Drops, Hears, Asks, Attends, Answers, Rests, action, after_attending, met, sends_back, turn_end, dues, acts, all_places, each_over, react}
use Rattle.booth_node.specs.State.{State, with_ticket}
use Rattle.booth_world.specs.Rules.{MemberMessage, Hears as HearsMessage}
use Rattle.booth_world.specs.Turns.{TurnTree, Plan, plan_tree, call_tree, turn_tree, MayPlan, MayTurn}
use Rattle.booth_world.proofs.Lists.{none_is, some_same}
use Rattle.booth_world.proofs.Mirrors.{IsKept, Mirrors, mirrors_kept, mirrors_next}
use Rattle.booth_world.proofs.Echoes.{Echoes, echoes_as}
use Rattle.booth_world.proofs.Plans.{ask_plan, over_plan}
use Rattle.booth_world.proofs.PlanCalls.{always, ask_may, over_may}
use Rattle.booth_world.proofs.PlanDeeds.{heard, asked, job_ended}
use Rattle.booth_world.proofs.NodeTrees.{IsFew, minds_heard, minds_asked, minds_over, same_heard}
use Rattle.booth_world.proofs.NodeTurns.{IsPlacedAt, IsOver, Over, over_kept, left_set, own_acts, other_acts, ready_in, after_plan, after_may, dues_over, below_most}
use Rattle.booth_world.proofs.NodeActions.{IsLetIn, AreReplies, Comes, comes}

-- ---- the turn

no_message : (Good : MemberMessage → Type 0) → ForSome None Good
no_message Good = λ message e. absurd (none_is message e)

one_message : (Good : MemberMessage → Type 0) (message : MemberMessage) → Good message → ForSome (Some message) Good
one_message Good message good = λ other e. subst Good (some_same message other e) good

-- a stamp changes nothing of what a ticket does with a message
stamped_same : (s : Setup) (now : ℕ) (view : View) (waiters : List Waiter) (member : ℕ) (auth : Bool) (time : ℕ) (head : Head) (part : TicketPart)
    → hears_words (record { setup = s; view = view }) waiters member (stamped_head auth time head) part now
    ≡ hears_words (record { setup = s; view = view }) waiters member head part now
unfolding hears_words hear_message
stamped_same s now view waiters member auth time head part =
    ap
    (λ (o : Outcome).
    carry_out (Some member) now (step (record { setup = s; view = view }) o) >>= (λ last. tell now waiters last))
    (same_heard s view member auth time head part now)

module _ (s : Setup) (place : ℕ) (node : NodeConfig) (now : ℕ) (all : s.members ≡ length node.config.members) (own : s.place < s.members)
    (most : ℕ) (enough : 2 ^ 64 ≤ most) (Good : MemberMessage → Type 0) where
  -- The deeds are those of a turn of the host: with the message that is heard, and a plan whose calls may be made.
  pub record IsTurnOf (view : View) (deeds : Deeds Ask State) : Type 0 where
    pub came : Option MemberMessage
    pub plan : View → Plan
    pub may : MayTurn s now view came plan
    pub good : ForSome came Good
    pub over : (sent : List MemberMessage) → Over s place node now all sent deeds (turn_tree s now view came plan)

  -- what is heard of the ticket is a message that may come, but for its stamp
  abbrev pub Unstamped : ℕ → Head → TicketPart → Type 0
  Unstamped member head part =
      (plain : Head) × (auth : Bool) × (time : ℕ) × (head ≡ stamped_head auth time plain) × Good (record { sender = member; head = plain; part = part })

  module _ (turn : Turn) where
    abbrev Then : List MemberMessage → State → TurnTree → Type 0
    Then sent state tree = Over s place node now all sent (dues node now turn state) tree

    abbrev ready_at : State → Bool
    ready_at state = ready_in s place node now all own most enough state

    abbrev ready_by : State → Bool
    ready_by state = is_ready node state.attributes place Manual

    abbrev then_plan : State → View → Plan
    then_plan state view = after_plan s place node now all own most enough (ready_at state) turn view

    then_dues : (state : State) (view : View) (sent : List MemberMessage) → IsPlacedAt s place view state.tickets → state.last_reading ≡ now
        → IsFew state.common → Then sent state (plan_tree s now view (then_plan state view))
    then_dues state view sent at last_is few = dues_over s place node now all own most enough turn state view sent at last_is few

    nothing : (state : State) (view : View) → IsPlacedAt s place view state.tickets → state.last_reading ≡ now
        → IsFew state.common → IsTurnOf view (dues node now turn state)
    nothing state view at last_is few = record {
      came = None;
      plan = then_plan state;
      may = after_may s place node now all own most enough (ready_at state) turn view;
      good = no_message Good;
      over = λ sent. then_dues state view sent at last_is few;
    }

    -- what the ticket leaves goes on with the deadlines
    abbrev LeftThen : State → List MemberMessage → Left → TurnTree → Type 0
    LeftThen state sent left tree = (counted : Common) → IsFew counted → Then sent (with_ticket state place counted (left_as left)) tree

    left_kept : (state : State) → IsKept (LeftThen state)
    left_kept state left sent sent' tree tree' x m =
        λ counted few_now. mirrors_kept node s (IsOver s place node now all) (dues node now turn (with_ticket state place counted (left_as left)))
        (over_kept s place node now all) sent sent' tree tree' x (m counted few_now)

    left_dues : (state : State) (view : View) → IsPlacedAt s place view state.tickets → state.last_reading ≡ now
        → (left : Left) (sent : List MemberMessage) → left.core.setup ≡ s
        → LeftThen state sent left (plan_tree s now left.core.view (then_plan state left.core.view))
    left_dues state view at last_is left sent same =
        λ counted few_now. then_dues (with_ticket state place counted (left_as left)) left.core.view sent
        (left_set s place view state.tickets left same at) last_is few_now

    joined : (deeds : Deeds Ask State) (sent : List MemberMessage) (tree : TurnTree)
        → Mirrors node s Then sent deeds tree → Over s place node now all sent (deeds >>= dues node now turn) tree
    joined deeds sent tree m =
        mirrors_next node s Then (IsOver s place node now all) (dues node now turn) sent deeds tree (λ sent' state' tree' x. x) m

    hears_own : (state : State) (view : View) (member : ℕ) (head : Head) (part : TicketPart) → IsPlacedAt s place view state.tickets
        → state.last_reading ≡ now → IsFew state.common → Unstamped member head part
        → IsTurnOf view (acts node now state place (is_told member head part) >>= dues node now turn)
    unfolding hears_words hear_message
    hears_own state view member head part at last_is few plain = record {
      came = Some (record { sender = member; head = plain.0; part = part });
      plan = then_plan state;
      may = always (λ left. MayPlan s now left (then_plan state left))
          (call_tree s now view (HearsMessage (record { sender = member; head = plain.0; part = part })))
          (after_may s place node now all own most enough (ready_at state) turn);
      good = one_message Good _ plain.4;
      over = λ sent. joined (acts node now state place (is_told member head part)) sent (heard_tree plain.0)
          (subst (λ (h : Head). Mirrors node s Then sent (acts node now state place (is_told member h part)) (heard_tree plain.0))
          (sym plain.3)
          (own_acts s place node now all Then state view (is_told member (stamped_head plain.1 plain.2 plain.0) part) sent (heard_tree plain.0) few at.own
          (subst
          (λ (t : Deeds TicketAsk Left).
          Echoes s (λ sent' left tree'. (counted : Common) → IsFew counted → Then sent' (with_ticket state place counted left) tree') sent
          (t >>= (λ left. Ends (left_as left))) (heard_tree plain.0))
          (sym (stamped_same s now view (waiting_at state.waiters place) member plain.1 plain.2 plain.0 part))
          (echoes_as s (LeftThen state) (λ sent' left tree'. (counted : Common) → IsFew counted → Then sent' (with_ticket state place counted left) tree') left_as
          sent (hears_words (record { setup = s; view = view }) (waiting_at state.waiters place) member plain.0 part now) (heard_tree plain.0) (λ sent' left tree' m. m)
          (heard s now most own (LeftThen state) (left_kept state) (then_plan state) (left_dues state view at last_is) (handler_at node place)
          state.common.next_job (below_most s place node now all own most enough state.common few) view (waiting_at state.waiters place) member plain.0 part sent)))));
    }
      where
        heard_tree : Head → TurnTree
        heard_tree h = turn_tree s now view (Some (record { sender = member; head = h; part = part })) (then_plan state)

    asks_own : (state : State) (view : View) (request : Request) → IsPlacedAt s place view state.tickets → state.last_reading ≡ now
        → IsFew state.common → IsTurnOf view (acts node now state place (is_asked request) >>= dues node now turn)
    asks_own state view request at last_is few = record {
      came = None;
      plan = asks_so;
      may = ask_may s now most (spare_in state.waiters) (ready_by state) (handler_at node place) request (then_plan state)
          (after_may s place node now all own most enough (ready_at state) turn) view;
      good = no_message Good;
      over = λ sent. joined (acts node now state place (is_asked request)) sent (plan_tree s now view (asks_so view))
          (own_acts s place node now all Then state view (is_asked request) sent (plan_tree s now view (asks_so view)) few at.own
          (echoes_as s (LeftThen state) (λ sent' left tree'. (counted : Common) → IsFew counted → Then sent' (with_ticket state place counted left) tree')
          left_as sent
          (follow_request (record { setup = s; view = view }) (waiting_at state.waiters place) (spare_in state.waiters) given request request.wish)
          (plan_tree s now view (asks_so view)) (λ sent' left tree' m. m)
          (asked s now most own (LeftThen state) (left_kept state) (then_plan state) (left_dues state view at last_is) (handler_at node place)
          state.common.next_job (below_most s place node now all own most enough state.common few) view (waiting_at state.waiters place)
          (spare_in state.waiters) (ready_by state) request sent)));
    }
      where
        given : Given
        given = record { now = now; ready = ready_by state; job = job_at node place state.common }

        asks_so : View → Plan
        asks_so = ask_plan s now most (spare_in state.waiters) (ready_by state) (handler_at node place) request (then_plan state)

    hears_other : (state : State) (view : View) (member other : ℕ) (head : Head) (part : TicketPart) → other ≢ place → IsPlacedAt s place view state.tickets
        → state.last_reading ≡ now → IsFew state.common → IsTurnOf view (acts node now state other (is_told member head part) >>= dues node now turn)
    hears_other state view member other head part ne at last_is few = record {
      came = None;
      plan = then_plan state;
      may = after_may s place node now all own most enough (ready_at state) turn view;
      good = no_message Good;
      over = λ sent. joined (acts node now state other (is_told member head part)) sent (plan_tree s now view (then_plan state view))
          (other_acts s place node now all Then state view other (is_told member head part) sent (plan_tree s now view (then_plan state view)) at ne few
          (λ t waiters spare ready job. minds_heard t.setup now t.known waiters member head part)
          (λ tickets waiters counted few_now placed_now. then_dues (record state { tickets = tickets; waiters = waiters; common = counted }) view sent placed_now last_is few_now));
    }

    asks_other : (state : State) (view : View) (other : ℕ) (request : Request) → other ≢ place → IsPlacedAt s place view state.tickets
        → state.last_reading ≡ now → IsFew state.common → IsTurnOf view (acts node now state other (is_asked request) >>= dues node now turn)
    asks_other state view other request ne at last_is few = record {
      came = None;
      plan = then_plan state;
      may = after_may s place node now all own most enough (ready_at state) turn view;
      good = no_message Good;
      over = λ sent. joined (acts node now state other (is_asked request)) sent (plan_tree s now view (then_plan state view))
          (other_acts s place node now all Then state view other (is_asked request) sent (plan_tree s now view (then_plan state view)) at ne few
          (λ t waiters spare ready job. minds_asked t.setup now t.known waiters spare (ready Manual) job request)
          (λ tickets waiters counted few_now placed_now. then_dues (record state { tickets = tickets; waiters = waiters; common = counted }) view sent placed_now last_is few_now));
    }

    meets : (r : Result PlainMessage DropFault) (state : State) (view : View) (from : Peer) (act : Action) → IsPlacedAt s place view state.tickets
        → state.last_reading ≡ now → IsFew state.common → Comes node r act
        → ((member : ℕ) (head : Head) (part : TicketPart) → IsLetIn node r member place head part → Unstamped member head part)
        → IsTurnOf view (met node now state from act >>= dues node now turn)
    meets r state view from (Drops fault) at last_is few c unstamp = nothing (dropped state fault) view at last_is few
    meets r state view from (Hears member ticket head part) at last_is few c unstamp = by_place (same_or_not ticket place)
      where
        by_place : (ticket ≡ place) ⊎ (ticket ≢ place)
            → IsTurnOf view (acts node now (accepted state member now) ticket (is_told member head part) >>= dues node now turn)
        by_place (inl e) =
            subst (λ (p : ℕ). IsTurnOf view (acts node now (accepted state member now) p (is_told member head part) >>= dues node now turn)) (sym e)
            (hears_own (accepted state member now) view member head part at last_is few
            (unstamp member head part (subst (λ (p : ℕ). IsLetIn node r member p head part) e c)))
        by_place (inr ne) = hears_other (accepted state member now) view member ticket head part ne at last_is few
    meets r state view from (Asks ticket request) at last_is few c unstamp = by_place (same_or_not ticket place)
      where
        by_place : (ticket ≡ place) ⊎ (ticket ≢ place)
            → IsTurnOf view (acts node now state ticket (is_asked request) >>= dues node now turn)
        by_place (inl e) =
            subst (λ (p : ℕ). IsTurnOf view (acts node now state p (is_asked request) >>= dues node now turn)) (sym e)
            (asks_own state view request at last_is few)
        by_place (inr ne) = asks_other state view ticket request ne at last_is few
    meets r state view from (Attends ticket request) at last_is few c unstamp =
        let after : State = after_attending state ticket request in
        record {
          came = None;
          plan = then_plan after;
          may = after_may s place node now all own most enough (ready_at after) turn view;
          good = no_message Good;
          over = λ sent. (
            record { truly = refl; spoken = λ part between is named. absurd (attr_to_client _ between) },
            λ ok. then_dues after view sent at last_is few,
          );
        }
    meets r state view from (Answers messages) at last_is few c unstamp = record {
      came = None;
      plan = then_plan state;
      may = after_may s place node now all own most enough (ready_at state) turn view;
      good = no_message Good;
      over = λ sent. told messages c sent;
    }
      where
        told : (messages : List PlainMessage) → AreReplies node messages → (sent : List MemberMessage)
            → Over s place node now all sent ((each (sends_back from) messages >> Ends state) >>= dues node now turn)
            (plan_tree s now view (then_plan state view))
        told [] all sent = then_dues state view sent at last_is few
        told (message ∷ messages) all sent = (
          record { truly = all.0.0; spoken = λ part between is named. absurd (all.0.1 between) },
          λ ok. told messages all.1 sent,
        )
    meets r state view from Rests at last_is few c unstamp = nothing state view at last_is few

    -- ---- a job is over

    module _ (job : ℕ) (service : Service) where
      abbrev Told : List MemberMessage → Deeds Ask State → TurnTree → Type 0
      Told sent deeds tree = Mirrors node s Then sent deeds tree

      abbrev after_tree : View → Bool → TurnTree
      after_tree view ready = plan_tree s now view (after_plan s place node now all own most enough ready turn view)

      abbrev tells_plan : Bool → View → Plan
      tells_plan ready view = over_plan s now job service (after_plan s place node now all own most enough ready turn) view

      -- the ticket stands so, and this is what its host does
      pub record StandsSo (tree : TurnTree) (view : View) (ready : Bool) (sent : List MemberMessage) (state : State) (standing : TurnTree) : Type 0 where
        pub same : standing ≡ tree
        pub placed_at : IsPlacedAt s place view state.tickets
        pub moment_is : state.last_reading ≡ now
        pub few : IsFew state.common
        pub ready_is : ready_at state ≡ ready

      -- the tickets that come behind this one
      others_over : (n from : ℕ) (state : State) (view : View) (ready : Bool) (sent : List MemberMessage) → place < from
          → IsPlacedAt s place view state.tickets → state.last_reading ≡ now → IsFew state.common → ready_at state ≡ ready
          → Told sent (each_over node now job service (range_with_len from n) state) (after_tree view ready)
      others_over zero from state view ready sent behind at last_is few ready_is =
          subst (λ (b : Bool). Then sent state (after_tree view b)) ready_is (then_dues state view sent at last_is few)
      others_over (suc n) from state view ready sent behind at last_is few ready_is =
          mirrors_next node s (StandsSo (after_tree view ready) view ready) Then
          (each_over node now job service (range_with_len (from + 1) n)) sent (acts node now state from (ends_job job service)) (after_tree view ready)
          (λ sent' state' tree' m. subst (λ (t : TurnTree). Told sent' (each_over node now job service (range_with_len (from + 1) n) state') t) (sym m.same)
          (others_over n (from + 1) state' view ready sent' (omega (arith, behind)) m.placed_at m.moment_is m.few m.ready_is))
          (other_acts s place node now all (StandsSo (after_tree view ready) view ready) state view from (ends_job job service) sent (after_tree view ready) at
          (λ e. absurd (omega (arith, behind, e))) few
          (λ t waiters spare ready_of next_job. minds_over t.setup now t.known waiters job service)
          (λ tickets waiters counted few_now placed_now.
          record { same = refl; placed_at = placed_now; moment_is = last_is; few = few_now; ready_is = ready_is }))

      -- what this ticket leaves goes on with those behind it, and then with the deadlines
      abbrev LeftOver : ℕ → State → List MemberMessage → Left → TurnTree → Type 0
      LeftOver n state sent left tree =
          (counted : Common) → IsFew counted
          → Told sent (each_over node now job service (range_with_len (place + 1) n) (with_ticket state place counted (left_as left))) tree

      then_kept : IsKept Then
      then_kept state sent sent' tree tree' x m =
          mirrors_kept node s (IsOver s place node now all) (dues node now turn state) (over_kept s place node now all) sent sent' tree
          tree' x m

      over_left : (n : ℕ) (state : State) → IsKept (LeftOver n state)
      over_left n state left sent sent' tree tree' x m =
          λ counted few_now. mirrors_kept node s Then
          (each_over node now job service (range_with_len (place + 1) n) (with_ticket state place counted (left_as left))) then_kept sent sent' tree
          tree' x (m counted few_now)

      own_over : (n : ℕ) (state : State) (view : View) (sent : List MemberMessage) → IsPlacedAt s place view state.tickets → state.last_reading ≡ now
          → IsFew state.common
          → Told sent (acts node now state place (ends_job job service) >>= each_over node now job service (range_with_len (place + 1) n))
          (plan_tree s now view (tells_plan (ready_at state) view))
      own_over n state view sent at last_is few =
          mirrors_next node s Next Then (each_over node now job service (range_with_len (place + 1) n)) sent
          (acts node now state place (ends_job job service)) tree (λ sent' state' tree' m. m)
          (own_acts s place node now all Next state view (ends_job job service) sent tree few at.own
          (echoes_as s (LeftOver n state) (λ sent' left tree'. (counted : Common) → IsFew counted → Next sent' (with_ticket state place counted left) tree')
          left_as sent (end_job (record { setup = s; view = view }) (waiting_at state.waiters place) job service now) tree (λ sent' left tree' m. m)
          (job_ended s now most own (LeftOver n state) (over_left n state) (then_plan state)
          (λ left sent' same counted few_now.
          others_over n (place + 1) (with_ticket state place counted (left_as left)) left.core.view (ready_at state) sent' (omega arith)
          (left_set s place view state.tickets left same at) last_is few_now refl)
          (handler_at node place) state.common.next_job (below_most s place node now all own most enough state.common few) view
          (waiting_at state.waiters place) job service sent)))
        where
          tree : TurnTree
          tree = plan_tree s now view (tells_plan (ready_at state) view)

          Next : List MemberMessage → State → TurnTree → Type 0
          Next sent' state' tree' = Told sent' (each_over node now job service (range_with_len (place + 1) n) state') tree'

      -- all tickets from this place on, this one among them
      all_over : (n from : ℕ) (state : State) (view : View) (ready : Bool) (sent : List MemberMessage) → from ≤ place → place < from + n
          → IsPlacedAt s place view state.tickets → state.last_reading ≡ now → IsFew state.common → ready_at state ≡ ready
          → Told sent (each_over node now job service (range_with_len from n) state) (plan_tree s now view (tells_plan ready view))
      all_over zero from state view ready sent before within at last_is few ready_is = absurd (omega (arith, before, within))
      all_over (suc n) from state view ready sent before within at last_is few ready_is =
          by_place (same_or_not from place)
          (λ state' sent' before_now at_now last_now few_now ready_now.
          all_over n (from + 1) state' view ready sent' before_now (omega (arith, within)) at_now last_now few_now ready_now)
        where
          tree : TurnTree
          tree = plan_tree s now view (tells_plan ready view)

          by_place : (from ≡ place) ⊎ (from ≢ place)
              → ((state' : State) (sent' : List MemberMessage) → from + 1 ≤ place → IsPlacedAt s place view state'.tickets
              → state'.last_reading ≡ now → IsFew state'.common → ready_at state' ≡ ready
              → Told sent' (each_over node now job service (range_with_len (from + 1) n) state') tree)
              → Told sent (each_over node now job service (range_with_len from (suc n)) state) tree
          by_place (inl e) rest =
              subst (λ (p : ℕ). Told sent (acts node now state p (ends_job job service) >>= each_over node now job service (range_with_len (p + 1) n)) tree)
              (sym e)
              (subst (λ (b : Bool). Told sent
              (acts node now state place (ends_job job service) >>= each_over node now job service (range_with_len (place + 1) n))
              (plan_tree s now view (tells_plan b view))) ready_is (own_over n state view sent at last_is few))
          by_place (inr ne) rest =
              mirrors_next node s (StandsSo tree view ready) Then (each_over node now job service (range_with_len (from + 1) n)) sent
              (acts node now state from (ends_job job service)) tree
              (λ sent' state' tree' m.
              subst (λ (t : TurnTree). Told sent' (each_over node now job service (range_with_len (from + 1) n) state') t) (sym m.same)
              (rest state' sent' (omega (arith, before, ne)) m.placed_at m.moment_is m.few m.ready_is))
              (other_acts s place node now all (StandsSo tree view ready) state view from (ends_job job service) sent tree at ne few
              (λ t waiters spare ready_of next_job. minds_over t.setup now t.known waiters job service)
              (λ tickets waiters counted few_now placed_now.
              record { same = refl; placed_at = placed_now; moment_is = last_is; few = few_now; ready_is = ready_is }))

      ends_so : (state : State) (view : View) → IsPlacedAt s place view state.tickets → state.last_reading ≡ now → IsFew state.common
          → IsTurnOf view (each_over node now job service (all_places state) state >>= dues node now turn)
      ends_so state view at last_is few = record {
        came = None;
        plan = tells_plan (ready_at state);
        may = over_may s now most job service (then_plan state) (after_may s place node now all own most enough (ready_at state) turn) view;
        good = no_message Good;
        over = λ sent. let inside : place < length state.tickets = slice_get_within state.tickets place _ at.own in
            joined (each_over node now job service (all_places state) state) sent (plan_tree s now view (tells_plan (ready_at state) view))
            (all_over (length state.tickets) 0 state view (ready_at state) sent (omega arith) (omega (arith, inside)) at last_is few refl);
      }

  -- every message of this ticket that may be let in is one that may come, but for its stamp
  abbrev pub HearsGood : Result Arrival Failed → List ℕ → Type 0
  HearsGood (Ok (arrivals.Datagram from)) bytes =
      (member : ℕ) (head : Head) (part : TicketPart)
      → IsLetIn node (verdict node.config node.ring node.me now bytes) member place head part → Unstamped member head part
  HearsGood answer bytes = Unit {0}

  pub reacts : (old : State) (view : View) (answer : Result Arrival Failed) (bytes : List ℕ) → IsPlacedAt s place view old.tickets
      → IsFew old.common → HearsGood answer bytes → IsTurnOf view (react node old now answer bytes)
  reacts old view (Ok (arrivals.Datagram from)) bytes at few good =
      meets (turn_end (Ok (arrivals.Datagram from))) (verdict node.config node.ring node.me now bytes) (record old { last_reading = now }) view from
      (action node now old.tickets old.common from bytes) at refl few
      (comes node now old.tickets old.common (verdict node.config node.ring node.me now bytes) from (verdict node.config node.ring node.me now bytes) refl)
      good
  reacts old view (Ok (arrivals.Handler job status)) bytes at few good = ends_so (turn_end (Ok (arrivals.Handler job status))) job (service_of status) (record old { last_reading = now }) view at refl few
  reacts old view (Ok arrivals.Quiet) bytes at few good = nothing (turn_end (Ok arrivals.Quiet)) (record old { last_reading = now }) view at refl few
  reacts old view (Ok arrivals.Stop) bytes at few good = nothing (turn_end (Ok arrivals.Stop)) (record old { last_reading = now }) view at refl few
  reacts old view (Err failed) bytes at few good = nothing (turn_end (Err failed)) (record old { last_reading = now }) view at refl few
