-- What is done where it may be: a round is answered, a grant asks all, a majority gains.
use Rattle.std.proofs.Common.{◌≡◌, ◌<◌, ◌≤◌, ◌⊎◌, inl, inr, ℕ, zero, suc, ◌+◌, Bool, true, false, List, [], ◌∷◌, ◌++◌, length, slice_get, get_or, refl, sym, ap, ◌∙◌, subst, arith, append-nil, append_assoc, if◌then◌else◌}
use Rattle.std.specs.Prelude.{Option, Some, None, IsSome, Result, Ok, is_ok, option_map, position, not, ◌==◌}
use Rattle.std.specs.List.{filter, range_with_len}
use Rattle.std.proofs.lemmas.Option.{slice_get_cases, slice_get_within}
use Rattle.booth_base.specs.declared.address.Peer.{Peer}
use Rattle.booth_base.specs.Tree.{Deeds, Ends, Does, Leads, ◌>>=◌}
use Rattle.booth_base.proofs.TreeLemmas.{at_end, next_leads}
use Rattle.booth_chain.proofs.NodesLemmas.{slice_get-set_same}
use Rattle.booth_conf.specs.Config.{has_id}
use Rattle.booth_conf.specs.Lookups.{is_called}
use Rattle.booth_conf.specs.declared.members.Member.{Member as ConfMember}
use Rattle.booth_rec.specs.declared.record.Record.{Record}
use Rattle.booth_wire.specs.declared.command.Direction.{Direction}
use Rattle.booth_wire.specs.declared.command.Direction.TheVariants.{ToDaemon, BetweenMembers}
use Rattle.booth_wire.specs.declared.message.Head.{Head}
use Rattle.booth_wire.specs.declared.message.Setup.{Setup}
use Rattle.booth_wire.specs.declared.message.TicketPart.{TicketPart}
use Rattle.booth_wire.specs.Command.{direction_of}
use Rattle.booth_wire.specs.PlainMessage.{PlainMessage, Content, Ticket}
use Rattle.booth_auth.specs.declared.admission.DropFault.{DropFault}
use Rattle.booth_host.specs.declared.entry.Entry.{Entry}
use Rattle.booth_host.specs.declared.host.Arrival.TheVariants as arrivals
use Rattle.booth_raft.specs.declared.view.RoundKind.{RoundKind}
use Rattle.booth_raft.specs.declared.view.RoundKind.TheVariants.{Election, Renewal}
use Rattle.booth_raft.specs.declared.view.View.{View}
use Rattle.booth_ticket.specs.declared.hands.To.TheVariants.{Client, Member}
use Rattle.booth_ticket.specs.declared.request.Request.{Request}
use Rattle.booth_ticket.specs.declared.request.Wish.TheVariants.{Grant}
use Rattle.booth_ticket.specs.declared.waiters.Waiter.{Waiter}
use Rattle.booth_ticket.specs.Acts.{Ask as TicketAsk, Keep as KeepsRecord, Start as StartsJob, Say, Act, IsAct, kept, said, said_to_each}
use Rattle.booth_ticket.specs.Automatic.{hear}
use Rattle.booth_ticket.specs.Laws.{IsAnswer, IsBegunBy, IsDoneBy, IsRound, answer_to, answering_acts, promise_record, told_granted}
use Rattle.booth_ticket.specs.Requests.{follow_request}
use Rattle.booth_ticket.specs.Saying.{others}
use Rattle.booth_ticket.specs.Ticket.{TicketState, TicketLeft, Automatic, left_as}
use Rattle.booth_ticket.specs.Waiting.{Left, spare_in, waiting_at}
use Rattle.booth_ticket.proofs.LawLemmas.{asks_everyone, gains}
use Rattle.booth_ticket.proofs.RoundLawLemmas.{answers}
use Rattle.booth_node.specs.declared.event.Event.{Event}
use Rattle.booth_node.specs.declared.event.Event.TheVariants.{Heard, Asked}
use Rattle.booth_node.specs.declared.node.Turn.TheVariants.{Went}
use Rattle.booth_node.specs.declared.node_config.NodeConfig.{NodeConfig}
use Rattle.booth_node.specs.Calls.{ArrivalDoes, KeepsFirst}
use Rattle.booth_node.specs.Counting.{accepted}
use Rattle.booth_node.specs.Completeness.{GrantsAskAll, MajoritiesGain, RoundsAreAnswered, grant_of}
use Rattle.booth_node.specs.Opening.{AreSetUp}
use Rattle.booth_conf.specs.declared.tickets.GrantKind.TheVariants.{Manual}
use Rattle.booth_node.specs.AttributeRequests.{is_ready}
use Rattle.booth_node.specs.Jobs.{job_at}
use Rattle.booth_node.specs.Reaction.{Action, Hears, Asks, IsDone, action, acts, answers as answers_with, asks, befalls, demanded, dues, met, peer_at, peer_of, requested, routed}
use Rattle.booth_node.specs.Replies.{replies_to, request_of, wish_of}
use Rattle.booth_node.specs.State.{State}
use Rattle.booth_node.proofs.RoutingLemmas.{place_below}
use Rattle.booth_node.proofs.TicketLemmas.{Parts, at_moment, parts_of}
use Rattle.booth_node.proofs.ComesLemmas.{Comes, IsAnsweredAtOnce, IsAsked, IsAttended, IsHeard, comes}
use Rattle.booth_node.proofs.DueLemmas.{Each}
use Rattle.booth_node.proofs.PathLemmas.{ActFirst, HasPeer, HavePeers, SaidFirst, Seen, are_calls, seen_parts}
use Rattle.booth_node.proofs.SetupLemmas.{as_many, set_up_at}
use Rattle.booth_node.proofs.StayLemmas.{Acted, acted_at}
use Rattle.booth_node.proofs.TalkLemmas.{setup_stays}

-- ---- everyone has a place to listen at

member_listens : (node : NodeConfig) (place : ℕ) → place < length node.config.members
    → IsSome (peer_of node.config (Member place))
member_listens node place below = by_cases (slice_get_cases node.config.members place).1
  where
    by_cases : ((m : ConfMember) × (place < length node.config.members)
        × (slice_get node.config.members place ≡ Some m)
        × (get_or node.config.members place m ≡ m))
        ⊎ ((length node.config.members ≤ place) × (slice_get node.config.members place ≡ None))
        → IsSome (peer_of node.config (Member place))
    by_cases (inl h) = subst (λ (o : Option ConfMember). IsSome (peer_at node.config o)) (sym h.2) refl
    by_cases (inr h) = absurd (omega (arith, below, h.0))

range_below : (most start n : ℕ) → start + n ≤ most → Each (λ place. place < most) (range_with_len start n)
range_below most start zero within = tt
range_below most start (suc n) within =
    (omega (arith, within), range_below most (start + 1) n (omega (arith, within)))

each_filtered : (P : ℕ → Type 0) (test : ℕ → Bool) (xs : List ℕ) → Each P xs → Each P (filter test xs)
each_filtered P test [] each = tt
each_filtered P test (x ∷ xs) each = by_test (test x) refl (each_filtered P test xs each.1)
  where
    by_test : (b : Bool) → test x ≡ b → Each P (filter test xs) → Each P (filter test (x ∷ xs))
    by_test true e more =
        let step : filter test (x ∷ xs) ≡ x ∷ filter test xs = rw e in
        subst (λ (l : List ℕ). Each P l) (sym step) (each.0, more)
    by_test false e more =
        let step : filter test (x ∷ xs) ≡ filter test xs = rw e in
        subst (λ (l : List ℕ). Each P l) (sym step) more

-- ---- messages that are heard

-- acts that all say something to someone who listens
abbrev pub IsSaying : NodeConfig → TicketAsk → Bool → Type 0
IsSaying node (KeepsRecord tried) ok = ⊥
IsSaying node (StartsJob number expires) ok = ⊥
IsSaying node (Say to head part) ok = (ok ≡ true) × IsSome (peer_of node.config to)

abbrev pub Says : NodeConfig → List Act → Type 0
Says node [] = Unit {0}
Says node (act ∷ acts) = IsSaying node act.ask act.ok × Says node acts

says_each : (node : NodeConfig) (places : List ℕ) (head : Head) (part : TicketPart)
    → Each (λ place. place < length node.config.members) places → Says node (said_to_each places head part)
says_each node [] head part each = tt
says_each node (place ∷ places) head part each =
    ((refl, member_listens node place each.0), says_each node places head part each.1)

says_joined : (node : NodeConfig) (xs ys : List Act) → Says node xs → Says node ys → Says node (xs ++ ys)
says_joined node [] ys first later = later
says_joined node (x ∷ xs) ys first later = (first.0, says_joined node xs ys first.1 later)

says_others : (node : NodeConfig) (setup : Setup) (head : Head) (part : TicketPart)
    → setup.members ≡ length node.config.members → Says node (said_to_each (others setup) head part)
says_others node setup head part same =
    says_each node (others setup) head part
    (each_filtered (λ place. place < length node.config.members) (λ place. not (place == setup.place))
    (range_with_len 0 setup.members) (range_below (length node.config.members) 0 setup.members
    (omega (arith, same))))

says_granted : (node : NodeConfig) (setup : Setup) (waiters : List Waiter) (part : TicketPart)
    → Says node (told_granted setup waiters part)
says_granted node setup [] part = tt
says_granted node setup (w ∷ ws) part = ((refl, refl), says_granted node setup ws part)

peers_of_says : (node : NodeConfig) (acts : List Act) → Says node acts → HavePeers node acts
peers_of_says node [] says = tt
peers_of_says node (act ∷ acts) says = (one act.ask act.ok says.0, peers_of_says node acts says.1)
  where
    one : (ask : TicketAsk) (ok : Bool) → IsSaying node ask ok → HasPeer node ask
    one (KeepsRecord tried) ok is = absurd is
    one (StartsJob number expires) ok is = absurd is
    one (Say to head part) ok is = is.1

-- ---- one path of a tree, by the answers of its keeps

-- a path of a tree begins with these acts, and goes on as the tree does after them
abbrev Goes : Deeds TicketAsk TicketLeft → List Act → List Act → TicketLeft → Type 0
Goes rest acts begin left = (more : List Act) × (acts ≡ begin ++ more) × Leads IsAct rest more (Ends left)

said_next : (o : Option Peer) (bytes : List ℕ) (es : List Entry) (More : List Entry → Type 0)
    → SaidFirst o bytes es More
    → (rest : List Entry) × More rest
said_next None bytes es More said = (es, said)
said_next (Some peer) bytes es More said = (said.1, said.3)

module _ (node : NodeConfig) (now : ℕ) (name : List ℕ) (left : TicketLeft) where
  -- what was said is answered as what is said
  same_answer : (ask : TicketAsk) (mine theirs : Bool) (es : List Entry) (More : List Entry → Type 0)
      → IsSaying node ask mine
      → ActFirst node now name ask theirs es More → (theirs ≡ mine) × (rest : List Entry) × More rest
  same_answer (KeepsRecord tried) mine theirs es More is first = absurd is
  same_answer (StartsJob number expires) mine theirs es More is first = absurd is
  same_answer (Say to head part) mine theirs es More is first =
      let next_calls = said_next (peer_of node.config to) _ es More first.1 in
      (first.0 ∙ sym is.0, next_calls.0, next_calls.1)

  says_same : (deeds rest : Deeds TicketAsk TicketLeft) (says acts : List Act) (es : List Entry)
      → Says node says
      → Leads IsAct deeds says rest → Leads IsAct deeds acts (Ends left) → Seen node now name acts es
      → Goes rest acts says left
  says_same deeds rest [] acts es heard mine theirs seen = (
    acts,
    refl,
    subst (λ (t : Deeds TicketAsk TicketLeft). Leads IsAct t acts (Ends left))
        (sym mine) theirs,
  )
  says_same (Ends x) rest (say ∷ says) acts es heard mine theirs seen = absurd mine
  says_same (Does ask f) rest (say ∷ says) [] es heard mine theirs seen = absurd cc
  says_same (Does ask f) rest (say ∷ says) (act ∷ acts) es heard mine theirs seen =
      let saying = subst (λ (x : Act). IsSaying node x.ask x.ok) mine.1 heard.0 in
      let first =
      subst (λ (x : Act). ActFirst node now name x.ask x.ok es (Seen node now name acts)) theirs.1
      seen in
      let same = same_answer ask mine.0 theirs.0 es (Seen node now name acts) saying first in
      let more =
      says_same (f mine.0) rest says acts same.1 heard.1 mine.2
      (subst (λ (ok : Bool). Leads IsAct (f ok) acts (Ends left)) same.0 theirs.2) same.2 in
      let one : act ≡ say = theirs.1 ∙ ap (λ (ok : Bool). record { ask = ask; ok = ok }) same.0
      ∙ sym mine.1 in
      (more.0, ap (λ (l : List Act). act ∷ l) more.1 ∙ ap (λ (x : Act). x ∷ says ++ more.0) one, more.2)

  -- a keep that answered Ok, and what is said after it
  kept_same : (tried : Record) (deeds rest : Deeds TicketAsk TicketLeft) (says acts : List Act)
      (es : List Entry)
      → Says node says → Leads IsAct deeds (kept tried true ∷ says) rest → Leads IsAct deeds acts (Ends left)
      → Seen node now name acts es → KeepsFirst es → Goes rest acts (kept tried true ∷ says) left
  kept_same tried (Ends x) rest says acts es heard mine theirs seen well = absurd mine
  kept_same tried (Does ask f) rest says [] es heard mine theirs seen well = absurd cc
  kept_same tried (Does ask f) rest says (act ∷ acts) es heard mine theirs seen well =
      let mine_ok : mine.0 ≡ true = sym (ap (λ (x : Act). x.ok) mine.1) in
      let mine_ask : ask ≡ KeepsRecord tried = sym (ap (λ (x : Act). x.ask) mine.1) in
      let first =
      subst (λ (x : Act). ActFirst node now name x.ask x.ok es (Seen node now name acts)) theirs.1
      seen in
      let keeps : ActFirst node now name (KeepsRecord tried) theirs.0 es (Seen node now name acts) =
      subst (λ (a : TicketAsk). ActFirst node now name a theirs.0 es (Seen node now name acts))
      mine_ask first in
      let good : is_ok keeps.0 ≡ true = subst (λ (l : List Entry). KeepsFirst l) keeps.2 well in
      let theirs_ok : theirs.0 ≡ true = sym keeps.3 ∙ good in
      let more =
      says_same (f true) rest says acts keeps.1 heard
      (subst (λ (ok : Bool). Leads IsAct (f ok) says rest) mine_ok mine.2)
      (subst (λ (ok : Bool). Leads IsAct (f ok) acts (Ends left)) theirs_ok theirs.2) keeps.4 in
      let one : act ≡ kept tried true =
      theirs.1 ∙ ap (λ (ok : Bool). record { ask = ask; ok = ok }) theirs_ok
      ∙ ap (λ (a : TicketAsk). record { ask = a; ok = true }) mine_ask in
      (more.0, ap (λ (l : List Act). act ∷ l) more.1 ∙ ap (λ (x : Act). x ∷ says ++ more.0) one, more.2)

-- ---- the arrival at a ticket

first_well : (xs ys : List Entry) → KeepsFirst (xs ++ ys) → KeepsFirst xs
first_well [] ys well = tt
first_well (x ∷ xs) ys well = well

abbrev ticket_of : Setup → View → TicketState
ticket_of setup view = record { setup = setup; known = Automatic view }

-- what a ticket does along a path whose keep answers Ok is what the node does
pub lifted_done : (node : NodeConfig) (old new state : State) (now place : ℕ) (event : Event)
    (setup : Setup) (view : View)
    (deeds : Deeds TicketAsk Left) (tried : Record) (says : List Act) (Holds : Left
    → Type 0) (entries first later : List Entry)
    (mid : State)
    → befalls (record { setup = setup; known = Automatic view }) (waiting_at state.waiters place)
    (spare_in state.waiters) (is_ready node state.attributes place)
    (job_at node place state.common) event now ≡ (deeds >>= (λ end. Ends (left_as end)))
    → slice_get state.tickets place ≡ Some (record { setup = setup; known = Automatic view })
    → place < length state.waiters
    → Says node says → IsDoneBy deeds (kept tried true ∷ says) Holds → KeepsFirst entries
    → entries ≡ first ++ later
    → Leads (IsDone node.ring) (acts node now state place event) first (Ends mid)
    → Leads (IsDone node.ring) (dues node now Went mid) later (Ends new)
    → ArrivalDoes node now place setup (kept tried true ∷ says) Holds entries new
lifted_done node old new state now place event setup view deeds tried says Holds entries first later mid
    is there listed heard done well
    whole to_mid to_end =
    let ticket : TicketState = record { setup = setup; known = Automatic view } in
    let acted : Acted node now state place event ticket first mid =
    acted_at node now state place event ticket first mid there to_mid in
    let after : TicketLeft = left_as done.left in
    let by_rules : Deeds TicketAsk TicketLeft = deeds >>= (λ end. Ends (left_as end)) in
    let path =
    next_leads IsAct deeds (Ends done.left) (λ end. Ends (left_as end))
    (kept tried true ∷ says) done.all in
    let goes : Goes (Ends after) acted.did (kept tried true ∷ says) acted.left =
    kept_same node now setup.ticket acted.left tried by_rules (Ends after) says acted.did
    first heard path
    (subst (λ (t : Deeds TicketAsk TicketLeft). Leads IsAct t acted.did (Ends acted.left)) is acted.leads)
    acted.seen
    (first_well first later (subst (λ (l : List Entry). KeepsFirst l) whole well)) in
    let over = at_end IsAct after acted.left goes.0 goes.2 in
    let kept_setup : done.left.core.setup ≡ setup =
    sym (ap (λ (l : TicketLeft). l.ticket.setup) over.1)
    ∙ setup_stays ticket acted.left (waiting_at state.waiters place) (spare_in state.waiters)
    (is_ready node state.attributes place) (job_at node place state.common) now acted.did event acted.leads in
    let same : acted.did ≡ kept tried true ∷ says =
    goes.1 ∙ ap (λ (l : List Act). kept tried true ∷ says ++ l) over.0
    ∙ append-nil (kept tried true ∷ says) in
    record {
      arrival = first;
      deadlines = later;
      whole = whole;
      done = are_calls node now setup.ticket (kept tried true ∷ says) first
          (tt, peers_of_says node says heard)
          (subst (λ (l : List Act). Seen node now setup.ticket l first) same acted.seen);
      after = mid;
      left = done.left;
      ticket = ap (λ (s : State). slice_get s.tickets place) acted.is
          ∙ slice_get-set_same state.tickets place acted.left.ticket
          (slice_get_within state.tickets place ticket there)
          ∙ ap (λ (l : TicketLeft). Some l.ticket) over.1
          ∙ ap (λ (s : Setup). Some (ticket_of s done.left.core.view)) kept_setup;
      waiters = ap (λ (s : State). slice_get s.waiters place) acted.is
          ∙ slice_get-set_same state.waiters place acted.left.waiters listed
          ∙ ap (λ (l : TicketLeft). Some l.waiters) over.1;
      holds = done.holds;
      follow = to_end;
    }

-- ---- what a member says

differ : (d : Direction) → d ≡ ToDaemon → d ≡ BetweenMembers → ⊥
differ d first second = cc

same_part : (p q : TicketPart) → Ticket p ≡ Ticket q → p ≡ q
same_part p q e = cc

same_number : (m n : ℕ) → Some m ≡ Some n → m ≡ n
same_number m n e = cc

-- a member's message about a ticket is heard by it
abbrev HeardBy : NodeConfig → PlainMessage → Action → ℕ → TicketPart → Type 0
HeardBy node message a place part =
    (member : ℕ) × (position (has_id message.head.from) node.config.members ≡ Some member)
    × (a ≡ Hears member place message.head part)

heard_by : (node : NodeConfig) (from : Peer) (message : PlainMessage) (a : Action) (place : ℕ)
    (part : TicketPart)
    → direction_of message.head.cmd ≡ BetweenMembers → message.content ≡ Ticket part
    → position (is_called part.ticket) node.config.tickets ≡ Some place → Comes node from message a
    → HeardBy node message a place part
heard_by node from message a place part between content named (IsAnsweredAtOnce to reply is replies) =
    absurd (differ (direction_of message.head.cmd) to between)
heard_by node from message a place part between content named
    (IsAsked to p request is q at same_from same answer) =
    absurd (differ (direction_of message.head.cmd) to between)
heard_by node from message a place part between content named
    (IsAttended to p request is below number answer) =
    absurd (differ (direction_of message.head.cmd) to between)
heard_by node from message a place part between content named (IsHeard to member p q is has known at) =
    let one : q ≡ part = same_part q part (sym has ∙ content) in
    let here : p ≡ place =
    same_number p place
    (sym at ∙ ap (λ (x : TicketPart). position (is_called x.ticket) node.config.tickets) one ∙ named) in (
      member,
      known,
      is ∙ ap (λ (n : ℕ). Hears member n message.head q) here
          ∙ ap (λ (x : TicketPart). Hears member place message.head x) one,
    )

-- ---- a round is answered

round_between : (kind : RoundKind) (head : Head) → IsRound kind head → direction_of head.cmd ≡ BetweenMembers
round_between Election head is = ap direction_of is.0
round_between Renewal head is = ap direction_of is.0

module _ (node : NodeConfig) (now : ℕ) (name : List ℕ) (tried : Record) (says : List Act) (heard : Says node says) where
  -- what is said, in version 2 after a keep
  abbrev Begins : Bool → List Act
  Begins second = if second then kept tried true ∷ says else says

  -- a path whose first keep answers Ok begins so
  begins_same : (second : Bool) (left : TicketLeft) (deeds rest : Deeds TicketAsk TicketLeft) (acts : List Act)
      (es : List Entry) → Leads IsAct deeds (Begins second) rest → Leads IsAct deeds acts (Ends left)
      → Seen node now name acts es → KeepsFirst es → Goes rest acts (Begins second) left
  begins_same true left deeds rest acts es mine theirs seen well =
      kept_same node now name left tried deeds rest says acts es heard mine theirs seen well
  begins_same false left deeds rest acts es mine theirs seen well =
      says_same node now name left deeds rest says acts es heard mine theirs seen

  peers_of_begin : (second : Bool) → HavePeers node (Begins second)
  peers_of_begin true = (tt, peers_of_says node says heard)
  peers_of_begin false = peers_of_says node says heard

pub rounds : RoundsAreAnswered
rounds node old new now from message entries place part setup view kind turn about is may well =
    let state : State = at_moment old now in
    let name : List ℕ = setup.ticket in
    let parts : Parts node old now (Ok (arrivals.Datagram from)) turn.bytes entries new =
    parts_of node old new now (Ok (arrivals.Datagram from)) turn.bytes entries turn.deeds in
    let to : HeardBy node message (action node now old.tickets old.common from turn.bytes) place part =
    heard_by node from message (action node now old.tickets old.common from turn.bytes) place part
    (round_between kind message.head is) about.content about.named
    (comes node now old.tickets old.common from turn.bytes message turn.let_in) in
    let event : Event = Heard to.0 message.head part in
    let ticket : TicketState = record { setup = setup; known = Automatic view } in
    let acted : Acted node now (accepted state to.0 now) place event ticket parts.first parts.mid =
    acted_at node now (accepted state to.0 now) place event ticket parts.first parts.mid about.there
    (subst (λ (a : Action). Leads (IsDone node.ring) (met node now state from a) parts.first
    (Ends parts.mid)) to.2 parts.to_mid) in
    let deeds : Deeds TicketAsk Left =
    hear (record { setup = setup; view = view }) (waiting_at old.waiters place) to.0 message.head part now in
    let tried : Record = promise_record setup view message.head part now in
    let says : List Act = answer_to setup to.0 kind message.head part ∷ [] in
    let begin : List Act = answering_acts setup view to.0 kind message.head part now in
    let heard : Says node says =
    ((refl, member_listens node to.0 (place_below node.config.members message.head.from to.0 to.1)), tt) in
    let begun : IsBegunBy deeds begin =
    answers setup view (waiting_at old.waiters place) to.0 kind message.head part now is may in
    let goes_on : Left → Deeds TicketAsk TicketLeft = λ end. Ends (left_as end) in
    let goes : Goes (begun.rest >>= goes_on) acted.did begin acted.left =
    begins_same node now name tried says heard setup.second acted.left (deeds >>= goes_on) (begun.rest >>= goes_on)
    acted.did parts.first
    (next_leads IsAct deeds begun.rest goes_on begin begun.first) acted.leads acted.seen
    (first_well parts.first parts.later (subst (λ (l : List Entry). KeepsFirst l) parts.whole well)) in
    let calls =
    seen_parts node now name begin goes.0 parts.first
    (subst (λ (l : List Act). Seen node now name l parts.first) goes.1 acted.seen) in
    record {
      member = to.0;
      is_member = to.1;
      first = calls.0;
      others = calls.1 ++ parts.later;
      whole = parts.whole ∙ ap (λ (l : List Entry). l ++ parts.later) calls.2
          ∙ append_assoc calls.0 calls.1 parts.later;
      answers = are_calls node now name begin calls.0
          (peers_of_begin node now name tried says heard setup.second) calls.3;
    }

-- ---- a grant asks all

module _ (node : NodeConfig) (old : State) (place : ℕ) (setup : Setup) (view : View)
    (set_up : AreSetUp node old)
    (there : slice_get old.tickets place ≡ Some (record { setup = setup; known = Automatic view })) where
  all_members : setup.members ≡ length node.config.members
  all_members =
      ap (λ (s : Setup). s.members)
      (set_up_at node old place (record { setup = setup; known = Automatic view }) set_up there).2

  listed : place < length old.waiters
  listed =
      subst (λ (n : ℕ). place < n) (as_many node old set_up ∙ sym set_up.1)
      (slice_get_within old.tickets place (record { setup = setup; known = Automatic view }) there)

pub grants : GrantsAskAll
grants node old new now from message entries place part setup view set_up turn about cmd unhandled none few well =
    let state : State = at_moment old now in
    let request : Request = grant_of from message in
    let ready : Bool = is_ready node old.attributes place Manual in
    let grant_by : Option ℕ → Deeds TicketAsk Left = λ job.
    follow_request (record { setup = setup; view = view }) (waiting_at old.waiters place) (spare_in old.waiters)
    (record { now = now; ready = ready; job = job }) request Grant in
    let parts : Parts node old now (Ok (arrivals.Datagram from)) turn.bytes entries new =
    parts_of node old new now (Ok (arrivals.Datagram from)) turn.bytes entries turn.deeds in
    let once : Action = answers_with node.ring now (replies_to node now old.tickets old.common message) in
    let to : action node now old.tickets old.common from turn.bytes ≡ Asks place request =
    ap (λ (v : Result PlainMessage DropFault). demanded node now old.tickets old.common from v) turn.let_in
    ∙ ap (λ (d : Direction). routed node now old.tickets old.common from message d) (ap direction_of cmd)
    ∙ ap (λ w. requested node now old.tickets old.common message
    (request_of from message.head w message.content)) (ap wish_of cmd)
    ∙ ap (λ (c : Content). requested node now old.tickets old.common message
    (request_of from message.head (Some Grant) c))
    about.content
    ∙ ap (λ (o : Option ℕ). asks o request once) about.named in
    let many : setup.members ≡ length node.config.members = all_members node old place setup view set_up
    about.there in
    lifted_done node old new state now place (Asked request) setup view
    (grant_by None) _ _ _ entries
    parts.first parts.later parts.mid
    (ap (λ (job : Option ℕ). grant_by job >>= (λ end. Ends (left_as end)))
    (ap (λ (handler : Option (List ℕ)). option_map (λ words. old.common.next_job) handler) unhandled))
    about.there (listed node old place setup view set_up about.there)
    (says_joined node (said_to_each (others setup) _ _) (said (Client from) _ _ ∷ [])
    (says_others node setup _ _ many) ((refl, refl), tt))
    (asks_everyone setup view (waiting_at old.waiters place) (spare_in old.waiters) ready request now none
    few)
    well parts.whole
    (subst (λ (a : Action). Leads (IsDone node.ring) (met node now state from a) parts.first
    (Ends parts.mid)) to parts.to_mid)
    parts.to_end

-- ---- a majority gains

answer_between : (kind : RoundKind) (head : Head) → IsAnswer kind head
    → direction_of head.cmd ≡ BetweenMembers
answer_between Election head is = ap direction_of is.0
answer_between Renewal head is = ap direction_of is.0

pub majorities : MajoritiesGain
majorities node old new now from message entries place part setup view round kind member set_up turn about
    known is_round is done
    well =
    let state : State = at_moment old now in
    let parts : Parts node old now (Ok (arrivals.Datagram from)) turn.bytes entries new =
    parts_of node old new now (Ok (arrivals.Datagram from)) turn.bytes entries turn.deeds in
    let by : HeardBy node message (action node now old.tickets old.common from turn.bytes) place part =
    heard_by node from message (action node now old.tickets old.common from turn.bytes) place part
    (answer_between kind message.head is) about.content about.named
    (comes node now old.tickets old.common from turn.bytes message turn.let_in) in
    let one : by.0 ≡ member = same_number by.0 member (sym by.1 ∙ known) in
    let to : action node now old.tickets old.common from turn.bytes ≡ Hears member place message.head part =
    by.2 ∙ ap (λ (m : ℕ). Hears m place message.head part) one in
    let many : setup.members ≡ length node.config.members = all_members node old place setup view set_up
    about.there in
    lifted_done node old new (accepted state member now) now place (Heard member message.head part)
    setup view
    (hear (record { setup = setup; view = view }) (waiting_at old.waiters place) member message.head part now) _ _ _ entries
    parts.first parts.later parts.mid
    refl about.there (listed node old place setup view set_up about.there)
    (says_joined node (said_to_each (others setup) _ _) (told_granted setup (waiting_at old.waiters place) _)
    (says_others node setup _ _ many) (says_granted node setup (waiting_at old.waiters place) _))
    (gains setup view (waiting_at old.waiters place) round member kind message.head part now is_round
    is done) well parts.whole
    (subst (λ (a : Action). Leads (IsDone node.ring) (met node now state from a) parts.first
    (Ends parts.mid)) to parts.to_mid)
    parts.to_end
