-- Where a message goes that was let in, and what was done of it.
use Rattle.std.proofs.Common.{◌≡◌, ◌≢◌, ◌<◌, ℕ, Bool, true, false, List, [], ◌∷◌, length, get_or, ap, sym, subst, arith}
use Rattle.std.specs.Prelude.{Option, Some, None, Result, ◌==◌, position, if◌then◌else◌}
use Rattle.std.proofs.lemmas.List.Quantifiers.{position-Some}
use Rattle.std.proofs.lemmas.Bool.Decides.{nat_tests}
use Rattle.booth_base.specs.declared.address.Peer.{Peer}
use Rattle.booth_base.specs.declared.address.MemberId.{MemberId}
use Rattle.booth_conf.specs.Config.{has_id}
use Rattle.booth_conf.specs.Lookups.{is_called}
use Rattle.booth_conf.specs.declared.members.Member.{Member}
use Rattle.booth_conf.specs.declared.tickets.TicketConf.{TicketConf}
use Rattle.booth_wire.specs.declared.command.Direction.TheVariants.{BetweenMembers}
use Rattle.booth_wire.specs.Command.{answer_of, direction_of}
use Rattle.booth_wire.specs.PlainMessage.{PlainMessage}
use Rattle.booth_wire.specs.Spelling.{Fits}
use Rattle.booth_auth.specs.declared.admission.DropFault.{DropFault}
use Rattle.booth_auth.specs.Sealed.{sealed}
use Rattle.booth_auth.specs.Verdict.{verdict}
use Rattle.booth_host.specs.declared.entry.Entry.{Entry}
use Rattle.booth_node.specs.declared.attributes.AttrWish.{AttrWish}
use Rattle.booth_node.specs.declared.attributes.AttrWish.TheVariants as wishes
use Rattle.booth_node.specs.declared.node_config.NodeConfig.{NodeConfig}
use Rattle.booth_node.specs.declared.routing.Action.{Action as Made}
use Rattle.booth_node.specs.AttributeRequests.{attr_answer}
use Rattle.booth_node.specs.Led.{Led}
use Rattle.booth_node.specs.Reaction.{Action, Answers, Rests, IsDone, answers, demanded, met, routed, action}
use Rattle.booth_node.specs.Lists.{cut_lines}
use Rattle.booth_node.specs.Replies.{answered as answered_so, is_list, list_lines, part_messages, replies_to, reply_with, text_for, told_for}
use Rattle.booth_node.specs.ReplyForms.{IsWritten}
use Rattle.booth_node.specs.Routing.{Routes, at_once, named}
use Rattle.booth_node.specs.State.{State}
use Rattle.booth_node.specs.declared.state.Common.{Common}
use Rattle.booth_ticket.specs.Ticket.{TicketState}

-- ---- places

same_id : (a b m : ℕ) → a == m ≡ true → b == m ≡ true → a == b ≡ true
same_id a b m first second = grind (arith, nat_tests)

ids : (m x : ℕ) → m == x ≡ true → x == m ≡ true
ids m x e = grind (arith, nat_tests)

-- two ids that stand at one place are one
at_one_place : (members : List Member) (a b : MemberId) (place : ℕ) → place < length members
    → position (has_id a) members ≡ Some place → position (has_id b) members ≡ Some place → a.0 == b.0 ≡ true
at_one_place [] a b place below first second = absurd (omega (arith, below))
at_one_place (m ∷ members) a b place below first second =
    let there : Member = get_or (m ∷ members) place m in
    same_id a.0 b.0 there.id.0
    (ids there.id.0 a.0 ((position-Some (has_id a) (m ∷ members) place m first).1))
    (ids there.id.0 b.0 ((position-Some (has_id b) (m ∷ members) place m second).1))

pub place_below : (members : List Member) (id : MemberId) (place : ℕ)
    → position (has_id id) members ≡ Some place
    → place < length members
place_below [] id place is = absurd cc
place_below (m ∷ members) id place is = (position-Some (has_id id) (m ∷ members) place m is).0

pub ticket_below : (tickets : List TicketConf) (name : List ℕ) (place : ℕ)
    → position (is_called name) tickets ≡ Some place
    → place < length tickets
ticket_below [] name place is = absurd cc
ticket_below (t ∷ tickets) name place is = (position-Some (is_called name) (t ∷ tickets) place t is).0

pub place_at_site : (node : NodeConfig) (name : List ℕ) (site : Bool) (ticket : ℕ)
    → (if site then position (is_called name) node.config.tickets else None) ≡ Some ticket
    → ticket < length node.config.tickets
place_at_site node name true ticket is = ticket_below node.config.tickets name ticket is
place_at_site node name false ticket is = absurd cc

-- at the sender's place stands another member than this one
pub other_place : (members : List Member) (sender me : MemberId) (place : ℕ) → sender.0 == me.0 ≡ false
    → position (has_id sender) members ≡ Some place → position (has_id me) members ≢ Some place
other_place members sender me place apart here own =
    differ (sender.0 == me.0) apart (at_one_place members sender me place (place_below members sender place here) here own)
  where
    differ : (b : Bool) → b ≡ false → b ≡ true → ⊥
    differ b off on = cc

-- ---- what was done

untrue : false ≡ true → ⊥
untrue is = cc

module _ {H : Type 0} {past : H → Option (List Entry)} {faults : H → ℕ} {left : State} {a b : H} (node : NodeConfig)
    (now : ℕ) (state : State) (from : Peer) where
  pub followed : (message : PlainMessage) (route : Made) → Routes node from message route
      → Led past faults (IsDone node.ring)
      (met node now state from (named (at_once node now state.tickets state.common message) route)) left a b
      → Led past faults (IsDone node.ring)
      (met node now state from (routed node now state.tickets state.common from message (direction_of message.head.cmd))) left a b
  followed message route routes led =
      subst (λ (it : Action). Led past faults (IsDone node.ring) (met node now state from it) left a b)
      (routes now state.tickets state.common) led

  pub judged : (bytes : List ℕ) (given : Result PlainMessage DropFault)
      → verdict node.config node.ring node.me now bytes ≡ given
      → Led past faults (IsDone node.ring) (met node now state from (demanded node now state.tickets state.common from given)) left a b
      → Led past faults (IsDone node.ring) (met node now state from (action node now state.tickets state.common from bytes)) left a b
  judged bytes given is led =
      subst (λ (v : Result PlainMessage DropFault). Led past faults (IsDone node.ring)
      (met node now state from (demanded node now state.tickets state.common from v)) left a b) (sym is) led

  -- ---- a message that is answered at once

  pub unanswered : (replies : List PlainMessage) (frame : List ℕ) → IsWritten node.ring now replies false frame
      → Led past faults (IsDone node.ring) (met node now state from Rests) left a b
      → Led past faults (IsDone node.ring) (met node now state from (answers node.ring now replies)) left a b
  unanswered [] frame written led = led
  unanswered (reply ∷ []) frame written led = absurd (untrue written.0)
  unanswered (reply ∷ next ∷ replies) frame written led = absurd written

  pub answered : (replies : List PlainMessage) (frame : List ℕ) → IsWritten node.ring now replies true frame
      → ((message : PlainMessage) → frame ≡ sealed node.ring message → Fits message
      → Led past faults (IsDone node.ring) (met node now state from (Answers (message ∷ []))) left a b)
      → Led past faults (IsDone node.ring) (met node now state from (answers node.ring now replies)) left a b
  answered [] frame written meets = absurd (untrue (sym written))
  answered (reply ∷ []) frame written meets = meets _ written.1 written.2
  answered (reply ∷ next ∷ replies) frame written meets = absurd written

-- what is no list is answered by one message at most
pub one_reply : (node : NodeConfig) (now : ℕ) (tickets : List TicketState) (common : Common) (message : PlainMessage)
    → is_list message.head.cmd ≡ false → replies_to node now tickets common message
    ≡ answered_so node.me message.head.request (answer_of message.head.cmd)
    (reply_with (text_for node common message.head.cmd) (told_for node now tickets message.content) message.head.cmd message.content)
one_reply node now tickets common message single =
    ap (λ (b : Bool). if b then part_messages node.me message.head.request 0 (cut_lines 0 (list_lines node now tickets))
    else answered_so node.me message.head.request (answer_of message.head.cmd)
    (reply_with (text_for node common message.head.cmd) (told_for node now tickets message.content) message.head.cmd message.content)) single

-- what is written of a list of tickets is written of a list that is the same
pub over_tickets : (node : NodeConfig) (now : ℕ) (common : Common) (message : PlainMessage) (listed tickets : List TicketState) (written : Bool)
    (frame : List ℕ) → listed ≡ tickets
    → IsWritten node.ring now (answered_so node.me message.head.request (answer_of message.head.cmd)
    (reply_with (text_for node common message.head.cmd) (told_for node now listed message.content) message.head.cmd message.content)) written frame
    → IsWritten node.ring now (answered_so node.me message.head.request (answer_of message.head.cmd)
    (reply_with (text_for node common message.head.cmd) (told_for node now tickets message.content) message.head.cmd message.content)) written frame
over_tickets node now common message listed tickets written frame same is =
    subst (λ (ts : List TicketState). IsWritten node.ring now (answered_so node.me message.head.request (answer_of message.head.cmd)
    (reply_with (text_for node common message.head.cmd) (told_for node now ts message.content) message.head.cmd message.content)) written frame)
    same is

-- a list is answered by its parts
pub parts_reply : (node : NodeConfig) (now : ℕ) (tickets : List TicketState) (common : Common) (message : PlainMessage)
    → is_list message.head.cmd ≡ true → replies_to node now tickets common message
    ≡ part_messages node.me message.head.request 0 (cut_lines 0 (list_lines node now tickets))
parts_reply node now tickets common message is =
    ap (λ (b : Bool). if b then part_messages node.me message.head.request 0 (cut_lines 0 (list_lines node now tickets))
    else answered_so node.me message.head.request (answer_of message.head.cmd)
    (reply_with (text_for node common message.head.cmd) (told_for node now tickets message.content) message.head.cmd message.content)) is

-- what answers a request about attributes is no member's command
pub attr_to_client : (wish : AttrWish) → direction_of (attr_answer wish) ≡ BetweenMembers → ⊥
attr_to_client (wishes.Set pair) e = cc
attr_to_client (wishes.Get pair) e = cc
attr_to_client (wishes.Delete pair) e = cc
attr_to_client wishes.List e = cc
