-- What an arrival's action stands for: a member's message that is let in, or replies.
use Rattle.std.proofs.Common.{◌≡◌, ℕ, ◌+◌, Bool, true, false, List, refl, map, [], ◌∷◌}
use Rattle.std.specs.Prelude.{Option, Some, None, is_some, position, Result, Ok, Err, if◌then◌else◌}
use Rattle.booth_base.specs.declared.address.Peer.{Peer}
use Rattle.booth_conf.specs.Config.{has_id}
use Rattle.booth_conf.specs.Lookups.{is_called}
use Rattle.booth_wire.specs.declared.command.Cmd.{Cmd}
use Rattle.booth_wire.specs.declared.command.Cmd.TheVariants as cmds
use Rattle.booth_wire.specs.declared.command.Direction.{Direction}
use Rattle.booth_wire.specs.declared.command.Direction.TheVariants.{ToDaemon, ToClient, BetweenMembers}
use Rattle.booth_wire.specs.declared.message.Head.{Head}
use Rattle.booth_wire.specs.declared.message.TicketPart.{TicketPart}
use Rattle.booth_wire.specs.Command.{direction_of, answer_of}
use Rattle.booth_wire.specs.PlainMessage.{PlainMessage, Content, Bare, Ticket, Attr, Text}
use Rattle.booth_auth.specs.declared.admission.DropFault.{DropFault}
use Rattle.booth_auth.specs.Sealed.{stamped}
use Rattle.booth_ticket.specs.declared.request.Request.{Request}
use Rattle.booth_ticket.specs.Ticket.{TicketState}
use Rattle.booth_node.specs.declared.node_config.NodeConfig.{NodeConfig}
use Rattle.booth_node.specs.declared.state.Common.{Common}
use Rattle.booth_node.specs.Befalling.{AttributeAsking}
use Rattle.booth_node.specs.AttributeRequests.{attr_request_in}
use Rattle.booth_node.specs.Reaction.{Action, Hears, Answers, answers, asks, attends, attended, requested, hears, said, routed, demanded}
use Rattle.booth_node.specs.Replies.{Reply, answered, is_list, list_lines, part_messages, replies_to, reply_with, request_in, text_for, told_for}
use Rattle.booth_node.specs.Lists.{cut_lines}

-- ---- what an action stands for

-- a message was let in, that a member said about the ticket at a place
pub record IsLetIn (node : NodeConfig) (r : Result PlainMessage DropFault) (member place : ℕ) (head : Head) (part : TicketPart) : Type 0 where
  pub message : PlainMessage
  pub let_in : r ≡ Ok message
  pub between : direction_of message.head.cmd ≡ BetweenMembers
  pub head_is : message.head ≡ head
  pub content_is : message.content ≡ Ticket part
  pub from : position (has_id head.from) node.config.members ≡ Some member
  pub about : position (is_called part.ticket) node.config.tickets ≡ Some place

-- a reply says truly whether there is a key, and is no member's message
abbrev pub IsReply : NodeConfig → PlainMessage → Type 0
IsReply node message = (message.head.auth ≡ is_some node.ring) × (direction_of message.head.cmd ≡ BetweenMembers → ⊥)

abbrev pub AreReplies : NodeConfig → List PlainMessage → Type 0
AreReplies node [] = Unit {0}
AreReplies node (message ∷ messages) = IsReply node message × AreReplies node messages

-- what an action that hears or answers comes from
abbrev pub Comes : NodeConfig → Result PlainMessage DropFault → Action → Type 0
Comes node r (Hears member place head part) = IsLetIn node r member place head part
Comes node r (Answers messages) = AreReplies node messages
Comes node r act = Unit {0}

abbrev IsToClient : Option Cmd → Type 0
IsToClient None = Unit {0}
IsToClient (Some a) = direction_of a ≡ ToClient

to_client : (cmd : Cmd) → IsToClient (answer_of cmd)
to_client cmds.CLst = refl
to_client cmds.CTkt = refl
to_client cmds.Peer = refl
to_client cmds.CGnt = refl
to_client cmds.CRvk = refl
to_client cmds.ASet = refl
to_client cmds.AGet = refl
to_client cmds.ADel = refl
to_client cmds.ALst = refl
to_client cmd = tt

not_between : (d : Direction) → d ≡ ToClient → d ≡ BetweenMembers → ⊥
not_between d is e = cc

module _ (node : NodeConfig) (now : ℕ) (tickets : List TicketState) (common : Common) (r : Result PlainMessage DropFault) where
  from_messages : (messages : List PlainMessage) → AreReplies node (map (stamped node.ring now) messages)
      → Comes node r (answers node.ring now messages)
  from_messages [] all = tt
  from_messages (message ∷ messages) all = all

  of_answer : (request : ℕ) (cmd : Option Cmd) (made : Option Reply) → IsToClient cmd
      → AreReplies node (map (stamped node.ring now) (answered node.me request cmd made))
  of_answer request None made client = tt
  of_answer request (Some cmd) None client = tt
  of_answer request (Some cmd) (Some made) client = ((refl, not_between (direction_of cmd) client), tt)

  of_parts : (request number : ℕ) (parts : List (List (List ℕ)))
      → AreReplies node (map (stamped node.ring now) (part_messages node.me request number parts))
  of_parts request number [] = tt
  of_parts request number (part ∷ []) = ((refl, not_between (direction_of cmds.RLst) refl), tt)
  of_parts request number (part ∷ next ∷ parts) =
      ((refl, not_between (direction_of cmds.RLst) refl), of_parts request (number + 1) (next ∷ parts))

  from_reply : (message : PlainMessage) → Comes node r (answers node.ring now (replies_to node now tickets common message))
  from_reply message = from_messages (replies_to node now tickets common message) (by_list (is_list message.head.cmd))
    where
      by_list : (b : Bool) → AreReplies node (map (stamped node.ring now)
          (if b then part_messages node.me message.head.request 0 (cut_lines 0 (list_lines node now tickets))
          else answered node.me message.head.request (answer_of message.head.cmd)
          (reply_with (text_for node common message.head.cmd) (told_for node now tickets message.content) message.head.cmd message.content)))
      by_list true = of_parts message.head.request 0 (cut_lines 0 (list_lines node now tickets))
      by_list false = of_answer message.head.request (answer_of message.head.cmd) _ (to_client message.head.cmd)

  from_ask : (place : Option ℕ) (request : Request) (message : PlainMessage)
      → Comes node r (asks place request (answers node.ring now (replies_to node now tickets common message)))
  from_ask None request message = from_reply message
  from_ask (Some place) request message = tt

  from_attend : (place : Option ℕ) (request : AttributeAsking) (message : PlainMessage)
      → Comes node r (attends place request (answers node.ring now (replies_to node now tickets common message)))
  from_attend None request message = from_reply message
  from_attend (Some place) request message = tt

  from_attended : (message : PlainMessage) (found : Option AttributeAsking)
      → Comes node r (attended node found (answers node.ring now (replies_to node now tickets common message)))
  from_attended message None = from_reply message
  from_attended message (Some request) = from_attend _ request message

  from_request : (message : PlainMessage) (found : Option (TicketPart × Request)) → Comes node r (requested node now tickets common message found)
  from_request message None = from_attended message (attr_request_in message)
  from_request message (Some found) = from_ask (position (is_called found.0.ticket) node.config.tickets) found.1 message

  from_hear : (message : PlainMessage) (part : TicketPart) (member place : Option ℕ) → r ≡ Ok message → direction_of message.head.cmd ≡ BetweenMembers
      → message.content ≡ Ticket part → position (has_id message.head.from) node.config.members ≡ member
      → position (is_called part.ticket) node.config.tickets ≡ place → Comes node r (hears member place message.head part)
  from_hear message part None place is between content from about = tt
  from_hear message part (Some member) None is between content from about = tt
  from_hear message part (Some member) (Some place) is between content from about = record {
    message = message;
    let_in = is;
    between = between;
    head_is = refl;
    content_is = content;
    from = from;
    about = about;
  }

  from_said : (message : PlainMessage) (content : Content) → message.content ≡ content → r ≡ Ok message → direction_of message.head.cmd ≡ BetweenMembers
      → Comes node r (said node message.head content)
  from_said message Bare e is between = tt
  from_said message (Ticket part) e is between =
      from_hear message part (position (has_id message.head.from) node.config.members) (position (is_called part.ticket) node.config.tickets) is between e refl refl
  from_said message (Attr part) e is between = tt
  from_said message (Text text) e is between = tt

  from_routed : (from : Peer) (message : PlainMessage) (d : Direction) → direction_of message.head.cmd ≡ d → r ≡ Ok message
      → Comes node r (routed node now tickets common from message d)
  from_routed from message ToDaemon e is = from_request message (request_in from message)
  from_routed from message ToClient e is = tt
  from_routed from message BetweenMembers e is = from_said message message.content refl is e

  pub comes : (from : Peer) (o : Result PlainMessage DropFault) → r ≡ o → Comes node r (demanded node now tickets common from o)
  comes from (Err fault) e = tt
  comes from (Ok message) e = from_routed from message (direction_of message.head.cmd) refl e
