-- The laws on clients: who asks is answered, nobody else is, and nobody is forgotten.
use Rattle.std.proofs.Common.{◌≡◌, ◌<◌, ◌≤◌, ◌⊎◌, inl, inr, ℕ, List, [], ◌∷◌, ◌++◌, length, slice_get, get_or, refl, sym, ap, ◌∙◌, subst, arith}
use Rattle.std.specs.Prelude.{Option, Some, None, Result, Ok, Err, position}
use Rattle.std.specs.List.{All}
use Rattle.std.proofs.lemmas.Option.{slice_get_cases}
use Rattle.booth_base.specs.declared.address.Peer.{Peer}
use Rattle.booth_base.specs.Tree.{Ends, Does, Leads}
use Rattle.booth_base.proofs.TreeLemmas.{at_end}
use Rattle.booth_conf.specs.Lookups.{is_called}
use Rattle.booth_wire.specs.declared.command.Direction.{Direction}
use Rattle.booth_wire.specs.declared.command.Direction.TheVariants.{ToDaemon, ToClient, BetweenMembers}
use Rattle.booth_wire.specs.declared.message.Setup.{Setup}
use Rattle.booth_wire.specs.Command.{answer_of, direction_of}
use Rattle.booth_wire.specs.PlainMessage.{PlainMessage}
use Rattle.booth_auth.specs.declared.admission.DropFault.{DropFault}
use Rattle.booth_auth.specs.Sealed.{sealed}
use Rattle.booth_auth.specs.Verdict.{verdict}
use Rattle.booth_host.specs.declared.entry.Entry.{Entry}
use Rattle.booth_host.specs.declared.entry.Entry.TheVariants as calls
use Rattle.booth_host.specs.declared.host.Arrival.{Arrival}
use Rattle.booth_host.specs.declared.host.Arrival.TheVariants as arrivals
use Rattle.booth_host.specs.declared.host.Failed.{Failed}
use Rattle.booth_raft.specs.Messages.{head_of}
use Rattle.booth_ticket.specs.declared.request.Request.{Request}
use Rattle.booth_ticket.specs.declared.waiters.Waiter.{Waiter}
use Rattle.booth_ticket.specs.Acts.{Act}
use Rattle.booth_ticket.specs.Requests.{reply_cmd}
use Rattle.booth_ticket.specs.Handling.{service_of}
use Rattle.booth_ticket.specs.Ticket.{TicketState}
use Rattle.booth_ticket.specs.Waiting.{spare_in, waiting_at}
use Rattle.booth_node.specs.declared.event.Event.TheVariants.{Heard, Asked}
use Rattle.booth_node.specs.declared.node.Turn.TheVariants.{Went}
use Rattle.booth_node.specs.declared.node_config.NodeConfig.{NodeConfig}
use Rattle.booth_node.specs.AttributeRequests.{attr_message, is_ready}
use Rattle.booth_node.specs.Calls.{IsAmong, ReachesWaiters}
use Rattle.booth_node.specs.Counting.{accepted, dropped}
use Rattle.booth_node.specs.Laws.{NobodyIsForgotten, IsReplyTo, AreRepliesTo, AreSends, ClientsAreAnswered, asked_by, request_let_in, request_of, OthersAreNotAnswered}
use Rattle.booth_node.specs.Opening.{AreSetUp}
use Rattle.booth_node.specs.Jobs.{job_at}
use Rattle.booth_node.specs.Reaction.{Action, Drops, Hears, Asks, Attends, Answers, Rests, Send, IsDone, action, after_attending, acts, acts_as, all_places, arrived, demanded, met, sent_as, turn_end}
use Rattle.booth_node.specs.State.{State}
use Rattle.booth_node.proofs.RoutingLemmas.{ticket_below}
use Rattle.booth_node.proofs.ComesLemmas.{Comes, IsAnsweredAtOnce, IsAsked, IsAttended, IsHeard, comes}
use Rattle.booth_node.proofs.DueLemmas.{Each, all_of_each}
use Rattle.booth_node.proofs.PathLemmas.{Seen, is_send, seen_parts, sent_back}
use Rattle.booth_node.proofs.SetupLemmas.{as_many, set_up_at}
use Rattle.booth_node.proofs.WaiterLemmas.{AllFewer, AllRemember, all_among, each_fewer, remember_on}
use Rattle.booth_node.proofs.StayLemmas.{Stays, acted_at, acted_remember, acted_set_up, acts_stay, dues_stay, each_over_stays, stays_here}
use Rattle.booth_node.proofs.ReachLemmas.{Replies, each_joined, reply_act}
use Rattle.booth_node.proofs.TalkLemmas.{asked_replied, heard_among}
use Rattle.booth_node.proofs.TicketLemmas.{at_moment, arrived_set_up, parts_of}

-- ---- clients

-- the calls of an arrival that is a client's request
record Answered (node : NodeConfig) (state : State) (from : Peer) (message : PlainMessage)
    (es : List Entry) (after : State) : Type 0 where
  before : List Entry
  replies : List PlainMessage
  sent : List Entry
  whole : es ≡ before ++ sent
  answers : AreRepliesTo node message 0 replies
  sends : AreSends node.ring from replies sent
  among : Each (ReachesWaiters node state.waiters) before
  set_up : AreSetUp node after

module _ (node : NodeConfig) (now : ℕ) (state : State) (from : Peer) (message : PlainMessage)
    (set_up : AreSetUp node state) where
  answered_once : (reply : PlainMessage) (mid : State) (es : List Entry) (after : State)
      → IsReplyTo node message 0 reply → AreSetUp node mid
      → Leads (IsDone node.ring) (Does (Send from reply) (λ ok. Ends mid)) es (Ends after)
      → Answered node state from message es after
  answered_once reply mid [] after replies mid_set_up leads = absurd cc
  answered_once reply mid (e ∷ es) after replies mid_set_up leads =
      let sent = is_send node.ring from reply leads.0 e leads.1 in
      let over = at_end (IsDone node.ring) mid after es leads.2 in
      record {
        before = [];
        replies = reply ∷ [];
        sent = calls.Send from (sealed node.ring reply) sent.0 ∷ [];
        whole = ap (λ (l : List Entry). e ∷ l) over.0 ∙ ap (λ (x : Entry). x ∷ []) sent.1;
        answers = replies;
        sends = (refl, refl, tt);
        among = tt;
        set_up = subst (λ (s : State). AreSetUp node s) (sym over.1) mid_set_up;
      }

  answered_so : (place : ℕ) (request : Request) (ticket : TicketState) (es : List Entry) (after : State)
      → request.from ≡ from → request.number ≡ message.head.request
      → answer_of message.head.cmd ≡ Some (reply_cmd request.wish)
      → slice_get state.tickets place ≡ Some ticket
      → Leads (IsDone node.ring) (acts node now state place (Asked request)) es (Ends after)
      → Answered node state from message es after
  answered_so place request ticket es after same_from same_number answer there leads =
      let acted = acted_at node now state place (Asked request) ticket es after there leads in
      let waiters : List Waiter = waiting_at state.waiters place in
      let says : Replies ticket.setup waiters acted.left.waiters request (reply_cmd request.wish) acted.did =
      asked_replied ticket acted.left waiters (spare_in state.waiters)
      (is_ready node state.attributes place) (job_at node place state.common) now acted.did
      request acted.leads in
      let last : Act = reply_act ticket.setup request (reply_cmd request.wish) says.result says.part says.ok in
      let own = set_up_at node state place ticket set_up there in
      let parts =
      seen_parts node now ticket.setup.ticket says.before (last ∷ []) es
      (subst (λ (l : List Act). Seen node now ticket.setup.ticket l es) says.whole acted.seen) in
      let reply : PlainMessage =
      sent_as node now (head_of ticket.setup (reply_cmd request.wish) request.number 0 0 says.result)
      says.part in
      let sent = parts.4.1 in
      record {
        before = parts.0;
        replies = reply ∷ [];
        sent = calls.Send from (sealed node.ring reply) sent.0 ∷ [];
        whole = parts.2
            ∙ ap (λ (l : List Entry). parts.0 ++ l)
            (sent.2 ∙ ap (λ (l : List Entry). calls.Send request.from (sealed node.ring reply) sent.0 ∷ l)
            sent.3
            ∙ ap (λ (p : Peer). calls.Send p (sealed node.ring reply) sent.0 ∷ []) same_from);
        answers = record {
          cmd = answer;
          request = same_number;
          options = refl;
          reason = refl;
          from = ap (λ (s : Setup). s.me) own.2;
        };
        sends = (refl, refl, tt);
        among = all_among node now ticket.setup.ticket ticket.setup place own state.waiters says.before parts.0
            says.among parts.3;
        set_up = acted_set_up node now state place (Asked request) ticket es after set_up there acted;
      }

  -- the ticket at a place of the configuration
  ticket_there : (place : ℕ) (name : List ℕ) → position (is_called name) node.config.tickets ≡ Some place
      → (ticket : TicketState) × (slice_get state.tickets place ≡ Some ticket)
  ticket_there place name named = by_cases (slice_get_cases state.tickets place).1
    where
      below : place < length state.tickets
      below = subst (λ (n : ℕ). place < n) (sym (as_many node state set_up))
          (ticket_below node.config.tickets name place named)

      by_cases : ((t : TicketState) × (place < length state.tickets)
          × (slice_get state.tickets place ≡ Some t) × (get_or state.tickets place t ≡ t))
          ⊎ ((length state.tickets ≤ place) × (slice_get state.tickets place ≡ None))
          → (ticket : TicketState) × (slice_get state.tickets place ≡ Some ticket)
      by_cases (inl h) = (h.0, h.2)
      by_cases (inr h) = let low = below in absurd (omega (arith, low, h.0))

  differ : (d e : Direction) → d ≡ ToDaemon → d ≡ BetweenMembers → ⊥
  differ d e first second = cc

  answered : (a : Action) (es : List Entry) (after : State) → direction_of message.head.cmd ≡ ToDaemon
      → Comes node from message a
      → Leads (IsDone node.ring) (met node now state from a) es (Ends after)
      → Answered node state from message es after
  answered a es after asks (IsAnsweredAtOnce to replies is answers) leads =
      let back = sent_back node.ring from replies state es after
      (subst (λ (x : Action). Leads (IsDone node.ring) (met node now state from x) es (Ends after)) is leads) in
      record {
        before = [];
        replies = replies;
        sent = es;
        whole = refl;
        answers = answers;
        sends = back.sends;
        among = tt;
        set_up = subst (λ (s : State). AreSetUp node s) (sym back.left) set_up;
      }
  answered a es after asks (IsAsked to place request is part named same_from same_number answer) leads =
      let it = ticket_there place part.ticket named in
      answered_so place request it.0 es after same_from same_number answer it.1
      (subst (λ (x : Action). Leads (IsDone node.ring) (met node now state from x) es (Ends after)) is
      leads)
  answered a es after asks (IsAttended to place request is below number answer) leads =
      answered_once (attr_message node now state.attributes place request)
      (after_attending state place request) es after
      (record { cmd = answer; request = number; options = refl; reason = refl; from = refl }) set_up
      (subst (λ (x : Action). Leads (IsDone node.ring) (met node now state from x) es (Ends after)) is
      leads)
  answered a es after asks (IsHeard to member place part is content known named) leads = absurd
      (differ _ ToDaemon asks to)

pub clients : ClientsAreAnswered
clients node old new now from message entries set_up turn asks =
    let parts = parts_of node old new now (Ok (arrivals.Datagram from)) turn.bytes entries turn.deeds in
    let a : Action = action node now old.tickets old.common from turn.bytes in
    let it : Answered node (at_moment old now) from message parts.first parts.mid =
    answered node now (at_moment old now) from message set_up a parts.first parts.mid asks
    (comes node now old.tickets old.common from turn.bytes message turn.let_in) parts.to_mid in
    let due = dues_stay node now Went parts.mid new parts.later it.set_up parts.to_end in
    record {
      before = it.before;
      replies = it.replies;
      sent = it.sent;
      deadlines = parts.later;
      whole = parts.whole ∙ ap (λ (l : List Entry). l ++ parts.later) it.whole;
      answers = it.answers;
      sends = it.sends;
      waited = all_of_each (ReachesWaiters node old.waiters) it.before it.among;
      after = parts.mid;
      waiting = all_of_each (ReachesWaiters node parts.mid.waiters) parts.later due.among;
      follow = parts.to_end;
    }

-- ---- nobody else is answered

asks_nothing : (d : Direction) (message : PlainMessage) → asked_by d message ≡ None → d ≡ ToDaemon → ⊥
asks_nothing ToDaemon message none to = cc
asks_nothing BetweenMembers message none to = cc
asks_nothing ToClient message none to = cc

module _ (node : NodeConfig) (now : ℕ) (state : State) (set_up : AreSetUp node state) where
  -- these calls reach members and those that wait alone, and nobody waits that did not
  record Quiet (es : List Entry) (after : State) : Type 0 where
    among : Each (ReachesWaiters node state.waiters) es
    fewer : AllFewer state.waiters after.waiters

  quiet_by : (mid : State) (es : List Entry) (after : State) → mid.waiters ≡ state.waiters
      → Stays node mid after es → Quiet es after
  quiet_by mid es after same stays = record {
    among = subst (λ (ws : List (List Waiter)). Each (ReachesWaiters node ws) es) same stays.among;
    fewer = subst (λ (ws : List (List Waiter)). AllFewer ws after.waiters) same stays.fewer;
  }

  unasked_stays : (from : Peer) (message : PlainMessage) (a : Action) (es : List Entry) (after : State)
      → asked_by (direction_of message.head.cmd) message ≡ None → Comes node from message a
      → Leads (IsDone node.ring) (met node now state from a) es (Ends after)
      → Quiet es after
  unasked_stays from message a es after none (IsAnsweredAtOnce to reply is replies) leads =
      absurd (asks_nothing (direction_of message.head.cmd) message none to)
  unasked_stays from message a es after none
      (IsAsked to place request is part named same_from same_number answer) leads =
      absurd (asks_nothing (direction_of message.head.cmd) message none to)
  unasked_stays from message a es after none (IsAttended to place request is below number answer) leads =
      absurd (asks_nothing (direction_of message.head.cmd) message none to)
  unasked_stays from message a es after none (IsHeard to member place part is content known named) leads =
      quiet_by (accepted state member now) es after refl
      (acts_stay node now (accepted state member now) place (Heard member message.head part) es after
      (λ ticket left waiters spare ready job did leads.
      heard_among ticket left waiters spare ready job now did member message.head part leads)
      set_up
      (subst (λ (x : Action). Leads (IsDone node.ring) (met node now state from x) es (Ends after)) is
      leads))

  arrived_unasked : (arrival : Result Arrival Failed) (bytes : List ℕ) (es : List Entry) (after : State)
      → request_of node now arrival bytes ≡ None
      → Leads (IsDone node.ring) (arrived node now state arrival bytes) es (Ends after)
      → Quiet es after
  arrived_unasked (Ok (arrivals.Datagram from)) bytes es after none leads =
      by_verdict (verdict node.config node.ring node.me now bytes) refl
    where
      by_verdict : (v : Result PlainMessage DropFault) → verdict node.config node.ring node.me now bytes ≡ v
          → Quiet es after
      by_verdict (Err fault) is =
          quiet_by (dropped state fault) es after refl
          (stays_here node (dropped state fault) after es set_up
          (subst (λ (v : Result PlainMessage DropFault).
          Leads (IsDone node.ring)
          (met node now state from (demanded node now state.tickets state.common from v)) es
          (Ends after))
          is leads))
      by_verdict (Ok message) is =
          unasked_stays from message (action node now state.tickets state.common from bytes) es after
          (ap (λ (v : Result PlainMessage DropFault). request_let_in v) (sym is) ∙ none)
          (comes node now state.tickets state.common from bytes message is) leads
  arrived_unasked (Ok (arrivals.Handler job status)) bytes es after none leads =
      quiet_by state es after refl
      (each_over_stays node now job (service_of status) (all_places state) state after es set_up leads)
  arrived_unasked (Ok arrivals.Quiet) bytes es after none leads =
      quiet_by state es after refl (stays_here node state after es set_up leads)
  arrived_unasked (Ok arrivals.Stop) bytes es after none leads =
      quiet_by state es after refl (stays_here node state after es set_up leads)
  arrived_unasked (Err failed) bytes es after none leads =
      quiet_by state es after refl (stays_here node state after es set_up leads)

pub others : OthersAreNotAnswered
others node old new now arrival bytes entries set_up leads none =
    let parts = parts_of node old new now arrival bytes entries leads in
    let first = arrived_unasked node now (at_moment old now) set_up arrival bytes parts.first
    parts.mid none parts.to_mid in
    let due =
    dues_stay node now (turn_end arrival) parts.mid new parts.later
    (arrived_set_up node now (at_moment old now) arrival bytes parts.first parts.mid set_up
    parts.to_mid) parts.to_end in
    subst (λ (l : List Entry). All (ReachesWaiters node old.waiters) l) (sym parts.whole)
    (all_of_each (ReachesWaiters node old.waiters) (parts.first ++ parts.later)
    (each_joined (ReachesWaiters node old.waiters) parts.first parts.later first.among
    (each_fewer node old.waiters parts.mid.waiters parts.later first.fewer due.among)))

-- ---- nobody is forgotten

module _ (node : NodeConfig) (now : ℕ) (state : State) (set_up : AreSetUp node state) where
  abbrev Kept : List Entry → State → Type 0
  Kept es after = AllRemember node state.waiters after.waiters es

  asks_remember : (place : ℕ) (request : Request) (es : List Entry) (after : State)
      → Leads (IsDone node.ring) (acts node now state place (Asked request)) es (Ends after) → Kept es after
  asks_remember place request es after leads = by_ticket (slice_get state.tickets place) refl
    where
      by_ticket : (o : Option TicketState) → slice_get state.tickets place ≡ o → Kept es after
      by_ticket None is =
          (stays_here node state after es set_up
          (subst (λ (o : Option TicketState). Leads (IsDone node.ring)
          (acts_as node now state place (Asked request) o) es (Ends after)) is leads)).remember
      by_ticket (Some ticket) is =
          let acted = acted_at node now state place (Asked request) ticket es after is leads in
          acted_remember node now state place (Asked request) ticket es after set_up is acted
          (asked_replied ticket acted.left (waiting_at state.waiters place) (spare_in state.waiters)
          (is_ready node state.attributes place) (job_at node place state.common) now acted.did request acted.leads).remembers

  met_remember : (from : Peer) (a : Action) (es : List Entry) (after : State)
      → Leads (IsDone node.ring) (met node now state from a) es (Ends after) → Kept es after
  met_remember from (Drops fault) es after leads =
      (stays_here node (dropped state fault) after es set_up leads).remember
  met_remember from (Hears member ticket head part) es after leads =
      (acts_stay node now (accepted state member now) ticket (Heard member head part) es after
      (λ t left waiters spare ready job did l. heard_among t left waiters spare ready job now did member head part l) set_up
      leads).remember
  met_remember from (Asks ticket request) es after leads = asks_remember ticket request es after leads
  met_remember from (Attends ticket request) [] after leads = absurd cc
  met_remember from (Attends ticket request) (e ∷ es) after leads = λ place w h.
      inl (subst (λ (s : State). IsAmong w (waiting_at s.waiters place))
      (sym (at_end (IsDone node.ring) (after_attending state ticket request) after es leads.2).1) h)
  met_remember from (Answers messages) es after leads = λ place w h.
      inl (subst (λ (s : State). IsAmong w (waiting_at s.waiters place))
      (sym (sent_back node.ring from messages state es after leads).left) h)
  met_remember from Rests es after leads = (stays_here node state after es set_up leads).remember

  arrived_remember : (arrival : Result Arrival Failed) (bytes : List ℕ) (es : List Entry) (after : State)
      → Leads (IsDone node.ring) (arrived node now state arrival bytes) es (Ends after) → Kept es after
  arrived_remember (Ok (arrivals.Datagram from)) bytes es after leads =
      met_remember from (action node now state.tickets state.common from bytes) es after leads
  arrived_remember (Ok (arrivals.Handler job status)) bytes es after leads =
      (each_over_stays node now job (service_of status) (all_places state) state after es set_up leads).remember
  arrived_remember (Ok arrivals.Quiet) bytes es after leads =
      (stays_here node state after es set_up leads).remember
  arrived_remember (Ok arrivals.Stop) bytes es after leads =
      (stays_here node state after es set_up leads).remember
  arrived_remember (Err failed) bytes es after leads = (stays_here node state after es set_up leads).remember

pub nobody : NobodyIsForgotten
nobody node old new now arrival bytes entries set_up leads =
    let parts = parts_of node old new now arrival bytes entries leads in
    let first = arrived_remember node now (at_moment old now) set_up arrival bytes parts.first parts.mid
    parts.to_mid in
    let due =
    dues_stay node now (turn_end arrival) parts.mid new parts.later
    (arrived_set_up node now (at_moment old now) arrival bytes parts.first parts.mid set_up
    parts.to_mid) parts.to_end in
    remember_on node old.waiters parts.mid.waiters new.waiters parts.first parts.later entries parts.whole first
    due.remember
