-- A turn answers how a ticket stands before all else that it sends, and says what the ticket's state says.
use Rattle.std.proofs.Common.{Bool, List, [], ap, arith, map, refl, slice_get, subst, sym, ℕ, ◌+◌, ◌<◌, ◌∙◌, ◌∷◌, ◌≡◌, ◌≢◌}
use Rattle.std.specs.Prelude.{Option, Some, None, Result, Ok, Err, position}
use Rattle.booth_base.specs.declared.address.MemberId.{MemberId}
use Rattle.booth_base.specs.declared.address.Peer.{Peer}
use Rattle.booth_base.specs.declared.address.TheConstants.{NO_ONE}
use Rattle.booth_base.specs.Tree.{Deeds, Ends, Does, ◌>>=◌, each, Always, ◌>>◌}
use Rattle.booth_base.proofs.TreeLemmas.{always_then}
use Rattle.booth_conf.specs.Config.{has_id}
use Rattle.booth_conf.specs.Lookups.{is_called}
use Rattle.booth_wire.specs.declared.codes.results.TheConstants.{MORE, SUCCESS}
use Rattle.booth_wire.specs.declared.command.Cmd.{Cmd}
use Rattle.booth_wire.specs.declared.command.Cmd.TheVariants as cmds
use Rattle.booth_wire.specs.declared.command.Direction.{Direction}
use Rattle.booth_wire.specs.declared.command.Direction.TheVariants.{ToDaemon, ToClient, BetweenMembers}
use Rattle.booth_wire.specs.declared.message.Head.{Head}
use Rattle.booth_wire.specs.declared.message.TicketPart.{TicketPart}
use Rattle.booth_wire.specs.declared.message.Setup.{Setup}
use Rattle.booth_wire.specs.Command.{answer_of, direction_of}
use Rattle.booth_wire.specs.PlainMessage.{PlainMessage, Content, Bare, Ticket, Attr, Text}
use Rattle.booth_auth.specs.declared.admission.DropFault.{DropFault}
use Rattle.booth_auth.specs.Verdict.{verdict}
use Rattle.booth_auth.specs.Sealed.{stamped}
use Rattle.booth_host.specs.declared.host.Arrival.{Arrival}
use Rattle.booth_host.specs.declared.host.Arrival.TheVariants as arrivals
use Rattle.booth_host.specs.declared.host.Failed.{Failed}
use Rattle.booth_raft.specs.declared.deed.Told.{Told}
use Rattle.booth_raft.proofs.FactsLemmas.{on_cond}
use Rattle.booth_ticket.specs.declared.handling.Service.{Service}
use Rattle.booth_ticket.specs.declared.request.Request.{Request}
use Rattle.booth_ticket.specs.declared.request.Wish.{Wish}
use Rattle.booth_ticket.specs.declared.request.Wish.TheVariants.{Grant, Revoke}
use Rattle.booth_ticket.specs.declared.waiters.Waiter.{Waiter}
use Rattle.booth_ticket.specs.Acts.{Ask as TicketAsk, Keep as KeepsRecord, Start as StartsJob, Say}
use Rattle.booth_ticket.specs.Handling.{service_of}
use Rattle.booth_ticket.specs.Requests.{reply_cmd}
use Rattle.booth_ticket.specs.Saying.{say_to}
use Rattle.booth_ticket.specs.Ticket.{TicketState, TicketLeft, told_ticket}
use Rattle.booth_ticket.specs.Waiting.{result_for, spare_in, tell_one, tell_result, waiting_at}
use Rattle.booth_ticket.proofs.WalkLemmas.{Allows, Any, ticket_asked_walks, ticket_due_walks, ticket_heard_walks, ticket_over_walks}
use Rattle.booth_conf.specs.declared.tickets.GrantKind.{GrantKind}
use Rattle.booth_conf.specs.declared.tickets.GrantKind.TheVariants as kinds
use Rattle.booth_node.specs.declared.node.Turn.{Turn}
use Rattle.booth_node.specs.declared.node.Turn.TheVariants.{Went, Stopped}
use Rattle.booth_node.specs.declared.node_config.NodeConfig.{NodeConfig}
use Rattle.booth_node.specs.declared.state.Common.{Common}
use Rattle.booth_node.specs.AttributeRequests.{attended_place, attr_request_in, is_ready}
use Rattle.booth_node.proofs.AttributeLemmas.{attr_is_no_ticket}
use Rattle.booth_node.specs.Befalling.{AttributeAsking, Befalling, comes_due, ends_job, is_told, is_asked}
use Rattle.booth_node.specs.Counting.{accepted}
use Rattle.booth_node.specs.Jobs.{job_at}
use Rattle.booth_node.specs.Lists.{cut_lines, part_text}
use Rattle.booth_node.specs.Reaction.{Ask, Send, Keep, Start, Action, Drops, Hears, Asks, Attends, Answers, Rests, action, acts, acts_as, all_places, answers, arrived, asks, attended, attends, befalls, demanded, due_places, dues, each_due, each_over, hears, lifted, met, one_of, peer_of, react, requested, routed, said, sends, sends_back, sent_as, turn_end}
use Rattle.booth_node.specs.Replies.{Reply, answered, is_list, list_lines, no_ticket, part_message, part_messages, replies_to, reply_message, reply_with, request_in, text_for, ticket_in, told_for, told_of}
use Rattle.booth_node.specs.State.{State}
use Rattle.booth_world.specs.Told.{PartTellsTerm, MessageTellsTerm}
use Rattle.booth_world.proofs.TellerClaims.{same_part}

-- ---- what tickets say

-- what is said is no answer on how a ticket stands
abbrev IsOther : TicketAsk → Type 0
IsOther (KeepsRecord tried) = Unit {0}
IsOther (StartsJob job expires) = Unit {0}
IsOther (Say to head part) = head.cmd ≢ cmds.RTkt

of_members : (cmd : Cmd) → direction_of cmd ≡ BetweenMembers → cmd ≢ cmds.RTkt
of_members cmd between is = never (ap direction_of (sym is) ∙ between)
  where
    never : ToClient ≡ BetweenMembers → ⊥
    never e = cc

granted : cmds.RGnt ≢ cmds.RTkt
granted e = cc

told_other : (s : Setup) (part : TicketPart) (told : Told) (waiters : List Waiter) → Always IsOther Any (each (tell_one s part told) waiters)
unfolding tell_one say_to
told_other s part told [] = tt
told_other s part told (w ∷ ws) =
    always_then IsOther Any Any (tell_result s part w (result_for told w)) _ (by_result (result_for told w))
    (λ done any. told_other s part told ws)
  where
    by_result : (r : Option ℕ) → Always IsOther Any (tell_result s part w r)
    by_result None = tt
    by_result (Some result) = (granted, λ ok. tt)

other_allowed : (s : Setup) (waiters : List Waiter) → Allows s waiters IsOther
other_allowed s waiters = record {
  keeps = λ tried. tt;
  starts = λ job expires. tt;
  says = λ place head part own. of_members head.cmd own.between;
  tells = λ part told names. told_other s part told waiters;
}

replied : (wanted : Wish) → reply_cmd wanted ≢ cmds.RTkt
replied Grant e = cc
replied Revoke e = cc

-- ---- what a node asks of its host

-- it sends no such answer
abbrev pub SendsOther : Ask → Type 0
SendsOther (Send peer message) = message.head.cmd ≢ cmds.RTkt
SendsOther (Keep name tried) = Unit {0}
SendsOther (Start job) = Unit {0}

-- These deeds send messages of which P holds; behind their first keep they send no such answer.
abbrev pub FirstTells : (PlainMessage → Type 0) → Deeds Ask State → Type 0
FirstTells P (Ends state) = Unit {0}
FirstTells P (Does (Send peer message) go) = P message × ((ok : Bool) → FirstTells P (go ok))
FirstTells P (Does (Keep name tried) go) = (ok : Bool) → Always SendsOther Any (go ok)
FirstTells P (Does (Start job) go) = (ok : Bool) → FirstTells P (go ok)

-- what this message tells of the ticket's term is so
abbrev pub IsTrueTerm : List ℕ → MemberId → (ℕ → Type 0) → PlainMessage → Type 0
IsTrueTerm name me IsSo message = (term : ℕ) → MessageTellsTerm name me message term → IsSo term

pub other_true : (name : List ℕ) (me : MemberId) (IsSo : ℕ → Type 0) (message : PlainMessage) → message.head.cmd ≢ cmds.RTkt
    → IsTrueTerm name me IsSo message
other_true name me IsSo message other term tells = absurd (other tells.2.answers)

pub other_first : (name : List ℕ) (me : MemberId) (IsSo : ℕ → Type 0) (deeds : Deeds Ask State) → Always SendsOther Any deeds
    → FirstTells (IsTrueTerm name me IsSo) deeds
other_first name me IsSo (Ends state) all = tt
other_first name me IsSo (Does (Send peer message) go) all =
    (other_true name me IsSo message all.0, λ ok. other_first name me IsSo (go ok) (all.1 ok))
other_first name me IsSo (Does (Keep ticket tried) go) all = λ ok. all.1 ok
other_first name me IsSo (Does (Start job) go) all = λ ok. other_first name me IsSo (go ok) (all.1 ok)

first_then : (name : List ℕ) (me : MemberId) (IsSo : ℕ → Type 0) (deeds : Deeds Ask State) (f : State → Deeds Ask State)
    → FirstTells (IsTrueTerm name me IsSo) deeds → ((state : State) → Always SendsOther Any (f state))
    → FirstTells (IsTrueTerm name me IsSo) (deeds >>= f)
first_then name me IsSo (Ends state) f h others = other_first name me IsSo (f state) (others state)
first_then name me IsSo (Does (Send peer message) go) f h others = (h.0, λ ok. first_then name me IsSo (go ok) f (h.1 ok) others)
first_then name me IsSo (Does (Keep ticket tried) go) f h others =
    λ ok. always_then SendsOther Any Any (go ok) f (h ok) (λ state any. others state)
first_then name me IsSo (Does (Start job) go) f h others = λ ok. first_then name me IsSo (go ok) f (h ok) others

module _ (node : NodeConfig) (now : ℕ) where
  -- ---- what befalls a ticket

  one_other : (name : List ℕ) (common : Common) (ask : TicketAsk) → IsOther ask → Always SendsOther Any (one_of node now name common ask)
  one_other name common (KeepsRecord tried) other = (tt, λ ok. tt)
  one_other name common (StartsJob job expires) other = (tt, λ ok. tt)
  one_other name common (Say to head part) other = by_peer (peer_of node.config to)
    where
      by_peer : (o : Option Peer) → Always SendsOther Any (sends o (sent_as node now head part) common to)
      by_peer None = tt
      by_peer (Some peer) = (other, λ ok. tt)

  lifted_other : (Q : TicketLeft → Type 0) (name : List ℕ) (common : Common) (deeds : Deeds TicketAsk TicketLeft) → Always IsOther Q deeds
      → Always SendsOther Any (lifted node now name common deeds)
  lifted_other Q name common (Ends left) all = tt
  lifted_other Q name common (Does ask go) all =
      always_then SendsOther Any Any (one_of node now name common ask) _ (one_other name common ask all.0)
      (λ done any. lifted_other Q name done.common (go done.ok) (all.1 done.ok))

  abbrev IsOfOthers : Befalling → Type 0
  IsOfOthers event =
      (t : TicketState) (waiters : List Waiter) (spare : ℕ) (ready : GrantKind → Bool) (job : Option ℕ)
      → Always IsOther (λ (left : TicketLeft). left.ticket.setup ≡ t.setup) (befalls t waiters spare ready job event now)

  acts_other : (state : State) (place : ℕ) (event : Befalling) → IsOfOthers event → Always SendsOther Any (acts node now state place event)
  acts_other state place event others = by_ticket (slice_get state.tickets place)
    where
      by_ticket : (o : Option TicketState) → Always SendsOther Any (acts_as node now state place event o)
      by_ticket None = tt
      by_ticket (Some t) =
          always_then SendsOther Any Any
          (lifted node now t.setup.ticket state.common
          (befalls t (waiting_at state.waiters place) (spare_in state.waiters) (is_ready node state.attributes place) (job_at node place state.common) event now)) _
          (lifted_other (λ (left : TicketLeft). left.ticket.setup ≡ t.setup) t.setup.ticket state.common
          (befalls t (waiting_at state.waiters place) (spare_in state.waiters) (is_ready node state.attributes place) (job_at node place state.common) event now)
          (others t (waiting_at state.waiters place) (spare_in state.waiters) (is_ready node state.attributes place) (job_at node place state.common)))
          (λ done any. tt)

  due_other : (state : State) (place : ℕ) → Always SendsOther Any (acts node now state place comes_due)
  due_other state place =
      acts_other state place comes_due
      (λ t waiters spare ready job. ticket_due_walks t.setup waiters IsOther (other_allowed t.setup waiters) t.known
      (record { now = now; ready = ready kinds.Auto; job = job }))

  heard_other : (state : State) (place member : ℕ) (head : Head) (part : TicketPart)
      → Always SendsOther Any (acts node now state place (is_told member head part))
  heard_other state place member head part =
      acts_other state place (is_told member head part)
      (λ t waiters spare ready job. ticket_heard_walks t.setup waiters IsOther (other_allowed t.setup waiters) t.known member head part now)

  asked_other : (state : State) (place : ℕ) (request : Request) → Always SendsOther Any (acts node now state place (is_asked request))
  asked_other state place request =
      acts_other state place (is_asked request)
      (λ t waiters spare ready job. ticket_asked_walks t.setup waiters IsOther (other_allowed t.setup waiters) t.known spare
      (record { now = now; ready = ready kinds.Manual; job = job }) request (λ wanted result part names. replied wanted))

  over_other : (state : State) (place number : ℕ) (service : Service) → Always SendsOther Any (acts node now state place (ends_job number service))
  over_other state place number service =
      acts_other state place (ends_job number service)
      (λ t waiters spare ready job. ticket_over_walks t.setup waiters IsOther (other_allowed t.setup waiters) t.known number service now)

  each_due_other : (places : List ℕ) (state : State) → Always SendsOther Any (each_due node now places state)
  each_due_other [] state = tt
  each_due_other (p ∷ places) state =
      always_then SendsOther Any Any (acts node now state p comes_due) (each_due node now places) (due_other state p)
      (λ later any. each_due_other places later)

  each_over_other : (number : ℕ) (service : Service) (places : List ℕ) (state : State)
      → Always SendsOther Any (each_over node now number service places state)
  each_over_other number service [] state = tt
  each_over_other number service (p ∷ places) state =
      always_then SendsOther Any Any (acts node now state p (ends_job number service)) (each_over node now number service places)
      (over_other state p number service) (λ later any. each_over_other number service places later)

  dues_other : (turn : Turn) (state : State) → Always SendsOther Any (dues node now turn state)
  dues_other Went state = each_due_other (due_places now state.tickets) state
  dues_other Stopped state = tt

  -- ---- what a client is answered at once

  module _ (name : List ℕ) (me : MemberId) (IsSo : ℕ → Type 0) where
    abbrev pub part_told : TicketState → TicketPart
    part_told ticket = told_ticket ticket.setup ticket.known now

    -- where what is told of one of these tickets names this one, and this member as its holder, its term is so
    abbrev pub AreTrueTerms : List TicketState → Type 0
    AreTrueTerms tickets =
        (place : ℕ) (ticket : TicketState) → slice_get tickets place ≡ Some ticket → (part_told ticket).ticket ≡ name
        → (part_told ticket).leader ≡ me → 0 < (part_told ticket).valid_for → IsSo (part_told ticket).term

    abbrev IsTrue : PlainMessage → Type 0
    IsTrue message = IsTrueTerm name me IsSo message

    abbrev AreTrue : List PlainMessage → Type 0
    AreTrue [] = Unit {0}
    AreTrue (message ∷ messages) = IsTrue message × AreTrue messages

    abbrev AreTrueUnstamped : List PlainMessage → Type 0
    AreTrueUnstamped messages = AreTrue (map (stamped node.ring now) messages)

    other_reply : (request : ℕ) (cmd : Cmd) (o : Option Reply) → cmd ≢ cmds.RTkt → AreTrueUnstamped (answered node.me request (Some cmd) o)
    other_reply request cmd None other = tt
    other_reply request cmd (Some reply) other =
        (other_true name me IsSo (stamped node.ring now (reply_message node.me request cmd reply)) other, tt)

    unknown_true : (request : ℕ) (asked : TicketPart) → AreTrueUnstamped (answered node.me request (Some cmds.RTkt) (no_ticket (Ticket asked)))
    unknown_true request asked = (λ term tells. absurd (none_left tells.0 (same_part none tells.0 tells.1) tells.2.left), tt)
      where
        none : TicketPart
        none = record { ticket = asked.ticket; leader = NO_ONE; term = 0; valid_for = 0 }

        none_left : (found : TicketPart) → none ≡ found → 0 < found.valid_for → ⊥
        none_left found same left =
            let seconds : 0 ≡ found.valid_for = ap (λ (p : TicketPart). p.valid_for) same in
            omega (arith, seconds, left)

    known_true : (request place : ℕ) (tickets : List TicketState) (ticket : TicketState) → AreTrueTerms tickets → slice_get tickets place ≡ Some ticket
        → IsTrue (stamped node.ring now (reply_message node.me request cmds.RTkt (record { result = SUCCESS; content = Ticket (part_told ticket) })))
    known_true request place tickets ticket all is term tells =
        by_part tells.0 (same_part (part_told ticket) tells.0 tells.1) tells.2
      where
        by_part : (found : TicketPart) → part_told ticket ≡ found
            → PartTellsTerm name me (stamped node.ring now (reply_message node.me request cmds.RTkt (record { result = SUCCESS; content = Ticket (part_told ticket) }))).head found term
            → IsSo term
        by_part found same so =
            subst IsSo (ap (λ (p : TicketPart). p.term) same ∙ so.term)
            (all place ticket is (ap (λ (p : TicketPart). p.ticket) same ∙ so.named) (ap (λ (p : TicketPart). p.leader) same ∙ so.leads)
            (subst (λ (n : ℕ). 0 < n) (sym (ap (λ (p : TicketPart). p.valid_for) same)) so.left))

    standing_true : (tickets : List TicketState) (request : ℕ) (content : Content) → AreTrueTerms tickets
        → AreTrueUnstamped (answered node.me request (Some cmds.RTkt) (told_for node now tickets content))
    standing_true tickets request (Ticket asked) all = by_place (position (is_called asked.ticket) node.config.tickets)
      where
        by_ticket : (place : ℕ) (o : Option TicketState) → slice_get tickets place ≡ o
            → AreTrueUnstamped (answered node.me request (Some cmds.RTkt) (told_of o now asked))
        by_ticket place None is = unknown_true request asked
        by_ticket place (Some ticket) is = (known_true request place tickets ticket all is, tt)

        by_place : (o : Option ℕ) → AreTrueUnstamped (answered node.me request (Some cmds.RTkt) (told_of (ticket_in tickets o) now asked))
        by_place None = unknown_true request asked
        by_place (Some place) = by_ticket place (slice_get tickets place) refl
    standing_true tickets request Bare all = tt
    standing_true tickets request (Attr attr) all = tt
    standing_true tickets request (Text text) all = tt

    answer_true : (request : ℕ) (text : List ℕ) (told : Option Reply) (cmd : Cmd) (content : Content)
        → AreTrueUnstamped (answered node.me request (Some cmds.RTkt) told)
        → AreTrueUnstamped (answered node.me request (answer_of cmd) (reply_with text told cmd content))
    answer_true request text told cmds.CTkt content so = so
    answer_true request text told cmds.Peer content so = other_reply request cmds.RPer (reply_with text told cmds.Peer content) (λ e. cc)
    answer_true request text told cmds.CGnt content so = other_reply request cmds.RGnt (no_ticket content) granted
    answer_true request text told cmds.CRvk content so = other_reply request cmds.RRvk (no_ticket content) (λ e. cc)
    answer_true request text told cmds.ASet content so = other_reply request cmds.RAtr (reply_with text told cmds.ASet content) (λ e. cc)
    answer_true request text told cmds.AGet content so = other_reply request cmds.RAtr (reply_with text told cmds.AGet content) (λ e. cc)
    answer_true request text told cmds.ADel content so = other_reply request cmds.RAtr (reply_with text told cmds.ADel content) (λ e. cc)
    answer_true request text told cmds.ALst content so = other_reply request cmds.RALs (reply_with text told cmds.ALst content) (λ e. cc)
    answer_true request text told cmd content so = tt

    listed : cmds.RLst ≢ cmds.RTkt
    listed e = cc

    parts_true : (request number : ℕ) (parts : List (List (List ℕ))) → AreTrueUnstamped (part_messages node.me request number parts)
    parts_true request number [] = tt
    parts_true request number (part ∷ []) =
        (other_true name me IsSo (stamped node.ring now (part_message node.me request number SUCCESS (part_text part))) listed, tt)
    parts_true request number (part ∷ next ∷ parts) = (
      other_true name me IsSo (stamped node.ring now (part_message node.me request number MORE (part_text part))) listed,
      parts_true request (number + 1) (next ∷ parts),
    )

    replies_true : (tickets : List TicketState) (common : Common) (message : PlainMessage) → AreTrueTerms tickets
        → AreTrueUnstamped (replies_to node now tickets common message)
    replies_true tickets common message all =
        on_cond AreTrueUnstamped (is_list message.head.cmd) _ _
        (parts_true message.head.request 0 (cut_lines 0 (list_lines node now tickets)))
        (answer_true message.head.request (text_for node common message.head.cmd) (told_for node now tickets message.content) message.head.cmd
        message.content (standing_true tickets message.head.request message.content all))

    -- ---- the arrival

    abbrev IsTrueAction : Action → Type 0
    IsTrueAction (Answers messages) = AreTrue messages
    IsTrueAction a = Unit {0}

    answers_true : (messages : List PlainMessage) → AreTrueUnstamped messages → IsTrueAction (answers node.ring now messages)
    answers_true [] so = tt
    answers_true (message ∷ messages) so = so

    action_true : (tickets : List TicketState) (common : Common) (from : Peer) (bytes : List ℕ) → AreTrueTerms tickets
        → IsTrueAction (action node now tickets common from bytes)
    action_true tickets common from bytes all = by_verdict (verdict node.config node.ring node.me now bytes)
      where
        at_once : (message : PlainMessage) → IsTrueAction (answers node.ring now (replies_to node now tickets common message))
        at_once message = answers_true (replies_to node now tickets common message) (replies_true tickets common message all)

        by_attribute : (message : PlainMessage) (o : Option AttributeAsking)
            → IsTrueAction (attended node o (answers node.ring now (replies_to node now tickets common message)))
        by_attribute message None = at_once message
        by_attribute message (Some request) = by_place (attended_place node request.ticket)
          where
            by_place : (o : Option ℕ) → IsTrueAction (attends o request (answers node.ring now (replies_to node now tickets common message)))
            by_place None = at_once message
            by_place (Some ticket) = tt

        by_request : (message : PlainMessage) (o : Option (TicketPart × Request)) → IsTrueAction (requested node now tickets common message o)
        by_request message None = by_attribute message (attr_request_in message)
        by_request message (Some asked) = by_place (position (is_called asked.0.ticket) node.config.tickets)
          where
            by_place : (o : Option ℕ) → IsTrueAction (asks o asked.1 (answers node.ring now (replies_to node now tickets common message)))
            by_place None = at_once message
            by_place (Some ticket) = tt

        by_content : (head : Head) (content : Content) → IsTrueAction (said node head content)
        by_content head (Ticket part) = by_places (position (has_id head.from) node.config.members) (position (is_called part.ticket) node.config.tickets)
          where
            by_places : (a b : Option ℕ) → IsTrueAction (hears a b head part)
            by_places (Some member) (Some ticket) = tt
            by_places (Some member) None = tt
            by_places None b = tt
        by_content head Bare = tt
        by_content head (Attr attr) = tt
        by_content head (Text text) = tt

        by_direction : (message : PlainMessage) (d : Direction) → IsTrueAction (routed node now tickets common from message d)
        by_direction message ToDaemon = by_request message (request_in from message)
        by_direction message BetweenMembers = by_content message.head message.content
        by_direction message ToClient = tt

        by_verdict : (r : Result PlainMessage DropFault) → IsTrueAction (demanded node now tickets common from r)
        by_verdict (Err fault) = tt
        by_verdict (Ok message) = by_direction message (direction_of message.head.cmd)

    abbrev TellsFirst : Deeds Ask State → Type 0
    TellsFirst deeds = FirstTells IsTrue deeds

    met_first : (state : State) (from : Peer) (a : Action) → IsTrueAction a → TellsFirst (met node now state from a)
    met_first state from (Drops fault) so = tt
    met_first state from (Hears member ticket head part) so =
        other_first name me IsSo (acts node now (accepted state member now) ticket (is_told member head part))
        (heard_other (accepted state member now) ticket member head part)
    met_first state from (Asks ticket request) so =
        other_first name me IsSo (acts node now state ticket (is_asked request)) (asked_other state ticket request)
    met_first state from (Attends ticket request) so = (λ term tells. absurd (attr_is_no_ticket node now state.attributes ticket request tells.0 tells.1), λ ok. tt)
    met_first state from (Answers messages) so = told messages so
      where
        told : (messages : List PlainMessage) → AreTrue messages → TellsFirst (each (sends_back from) messages >> Ends state)
        told [] so = tt
        told (message ∷ messages) so = (so.0, λ ok. told messages so.1)
    met_first state from Rests so = tt

    arrived_first : (state : State) (answer : Result Arrival Failed) (bytes : List ℕ) → AreTrueTerms state.tickets
        → TellsFirst (arrived node now state answer bytes)
    arrived_first state (Ok (arrivals.Datagram from)) bytes all =
        met_first state from (action node now state.tickets state.common from bytes) (action_true state.tickets state.common from bytes all)
    arrived_first state (Ok (arrivals.Handler job status)) bytes all =
        other_first name me IsSo (each_over node now job (service_of status) (all_places state) state)
        (each_over_other job (service_of status) (all_places state) state)
    arrived_first state (Ok arrivals.Quiet) bytes all = tt
    arrived_first state (Ok arrivals.Stop) bytes all = tt
    arrived_first state (Err failed) bytes all = tt

    -- what a turn tells of the ticket's term is so, where it is so of what stands before it
    pub turn_true : (old : State) (answer : Result Arrival Failed) (bytes : List ℕ) → AreTrueTerms old.tickets
        → FirstTells (IsTrueTerm name me IsSo) (react node old now answer bytes)
    turn_true old answer bytes all =
        first_then name me IsSo (arrived node now (record old { last_reading = now }) answer bytes) (dues node now (turn_end answer))
        (arrived_first (record old { last_reading = now }) answer bytes all) (λ state. dues_other (turn_end answer) state)
