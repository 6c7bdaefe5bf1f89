-- What a message that was let in comes to.
use Rattle.std.proofs.Common.{◌≡◌, ◌<◌, ◌+◌, ℕ, true, false, List, [], ◌∷◌, map, length, Option, Some, None, Result, Ok, Err, refl, sym, ap, subst, ◌∙◌}
use Rattle.std.specs.Prelude.{ok_or, option_map, position, is_some, not}
use Rattle.booth_base.specs.declared.address.Peer.{Peer as Sender}
use Rattle.booth_conf.specs.Config.{has_id}
use Rattle.booth_conf.specs.Lookups.{is_called}
use Rattle.booth_wire.specs.declared.command.Cmd.{Cmd}
use Rattle.booth_wire.specs.declared.command.Cmd.TheVariants.{CLst, CTkt, Peer, CGnt, CRvk, ASet, AGet, ADel, ALst, RLst, RTkt, RPer, RALs, RGnt, RRvk, RAtr, Stat, MIdx, RVot, VtFr, HrtB, Ack, UpdE, Revk, Rjc}
use Rattle.booth_wire.specs.declared.command.Direction.{Direction}
use Rattle.booth_wire.specs.declared.command.Direction.TheVariants.{ToDaemon, ToClient, BetweenMembers}
use Rattle.booth_wire.specs.declared.message.AttrPart.{AttrPart}
use Rattle.booth_wire.specs.declared.message.FrameFault.{FrameFault}
use Rattle.booth_wire.specs.declared.message.FrameFault.TheVariants as faults
use Rattle.booth_wire.specs.declared.message.TicketPart.{TicketPart}
use Rattle.booth_wire.specs.Command.{kind_of, direction_of, answer_of}
use Rattle.booth_wire.specs.PlainMessage.{Content, Bare, Ticket, Attr, Text, PlainMessage}
use Rattle.booth_wire.specs.Layout.{field_at}
use Rattle.booth_wire.specs.Reading.{◌>>=◌, name_in, value_in, head_read, body_read, ticket_with, ticket_in, attr_with, content_in, decoded}
use Rattle.booth_auth.specs.Verdict.{is_stranger, may_come_from, names_no_ticket, part_of_member, member_part, verdict}
use Rattle.booth_auth.specs.Sealed.{stamped}
use Rattle.booth_auth.proofs.GateLemmas.{lets_in}
use Rattle.booth_ticket.specs.declared.request.Request.{Request}
use Rattle.booth_ticket.specs.declared.request.Wish.TheVariants.{Grant, Revoke}
use Rattle.booth_ticket.specs.Ticket.{TicketState}
use Rattle.booth_node.specs.declared.node_config.NodeConfig.{NodeConfig}
use Rattle.booth_node.specs.declared.state.Common.{Common}
use Rattle.booth_wire.specs.declared.message.Head.{Head}
use Rattle.booth_node.specs.declared.attributes.AttrRequest.{AttrRequest}
use Rattle.booth_node.specs.declared.attributes.AttrWish.{AttrWish}
use Rattle.booth_node.specs.declared.attributes.AttrWish.TheVariants as wishes
use Rattle.booth_node.specs.AttributeRequests.{attended_place, attr_answer, attr_request_in, attr_request_of, attr_wish, is_at_site}
use Rattle.booth_node.proofs.RoutingLemmas.{place_at_site}
use Rattle.booth_node.specs.Replies.{Reply, text_for, ticket_named, told_for, told_of, no_ticket, no_attribute, no_attribute_of, reply_with, reply_message, is_list, list_lines, part_messages, replies_to, request_in, request_of, wish_of}
use Rattle.booth_node.specs.Reaction.{Action, Hears, Asks, Attends, Answers, answers, asks, attends, attended, hears, requested, routed, said, demanded, action}
use Rattle.booth_node.specs.Laws.{AreRepliesTo}
use Rattle.booth_node.specs.Lists.{cut_lines}
use Rattle.booth_node.specs.Telling.{list_messages}
use Rattle.booth_node.proofs.ListLemmas.{some_part}
use Rattle.booth_node.proofs.TellLemmas.{list_answers}
use Rattle.booth_ticket.specs.Requests.{reply_cmd}

-- ---- what was read

bind_ok : {A B : Type 0} (r : Result A FrameFault) (f : A → Result B FrameFault) (y : B) →
    (r >>= f) ≡ Ok y → (x : A) × (r ≡ Ok x) × (f x ≡ Ok y)
bind_ok (Ok x) f y h = (x, refl, h)
bind_ok (Err e) f y h = absurd cc

ok_or_ok : {A : Type 0} (o : Option A) (e : FrameFault) (x : A) → ok_or o e ≡ Ok x → o ≡ Some x
ok_or_ok None e x h = absurd cc
ok_or_ok (Some y) e x h = cc

mapped : {A B : Type 0} (f : A → B) (o : Option A) (y : B) → option_map f o ≡ Some y →
    (x : A) × (o ≡ Some x) × (f x ≡ y)
mapped f None y h = absurd cc
mapped f (Some x) y h = (x, refl, cc)

-- these bytes are such a content, for this command
abbrev IsRead : Cmd → Content → Type 0
IsRead cmd content = (inner : List ℕ) × (content_in cmd (kind_of cmd) inner ≡ Some content)

content_read : (bytes : List ℕ) (l : PlainMessage) → decoded bytes ≡ Ok l → IsRead l.head.cmd l.content
content_read bytes l read =
    let a =
    bind_ok (head_read bytes)
    (λ h. body_read h bytes >>= λ inner. ok_or (content_in h.cmd (kind_of h.cmd) inner) faults.Name
    >>= λ c. Ok (record { head = h; content = c })) l read in
    let b =
    bind_ok (body_read a.0 bytes)
    (λ inner. ok_or (content_in a.0.cmd (kind_of a.0.cmd) inner) faults.Name
    >>= λ c. Ok (record { head = a.0; content = c })) l a.2 in
    let c =
    bind_ok (ok_or (content_in a.0.cmd (kind_of a.0.cmd) b.0) faults.Name)
    (λ c. Ok (record { head = a.0; content = c })) l b.2 in
    let made : PlainMessage = record { head = a.0; content = c.0 } in
    let is : made ≡ l = cc (c.2) in
    subst (λ (x : PlainMessage). IsRead x.head.cmd x.content) {x = made} is
    (b.0, ok_or_ok (content_in a.0.cmd (kind_of a.0.cmd) b.0) faults.Name c.0 c.1)

-- ---- replies that are made at once

abbrev HasReply : Option Reply → Type 0
HasReply found = (reply : Reply) × (found ≡ Some reply)

-- a ticket command's content is a ticket's part
abbrev IsPart : Content → Type 0
IsPart content = (part : TicketPart) × (content ≡ Ticket part)

ticket_part : (bytes : List ℕ) (c : Content) → ticket_in bytes ≡ Some c → IsPart c
ticket_part bytes c read =
    let t = mapped (ticket_with bytes) (name_in (field_at 0 64 bytes)) c read in
    (_, sym t.2)

-- an attribute command's content is an attribute's part, and all but a list name it
abbrev IsAttr : Content → Type 0
IsAttr content = (part : AttrPart) × (content ≡ Attr part)

abbrev IsNamedAttr : Content → Type 0
IsNamedAttr content = (part : AttrPart) × (name : List ℕ) × (content ≡ Attr part) × (part.name ≡ Some name)

attr_part : (ticket : Option (List ℕ)) (name : Option (Option (List ℕ))) (value : Option (List ℕ))
    (c : Content) → attr_with ticket name value ≡ Some c → IsAttr c
attr_part None name value c read = absurd cc
attr_part (Some ticket) None value c read = absurd cc
attr_part (Some ticket) (Some name) None c read = absurd cc
attr_part (Some ticket) (Some name) (Some value) c read =
    let part : AttrPart = record { ticket = ticket; name = name; value = value } in
    let is : Attr part ≡ c = cc in
    (part, sym is)

named_part_with : (ticket name value : Option (List ℕ)) (c : Content) →
    attr_with ticket (option_map (λ text. Some text) name) value ≡ Some c → IsNamedAttr c
named_part_with None name value c read = absurd cc
named_part_with (Some ticket) None value c read = absurd cc
named_part_with (Some ticket) (Some name) None c read = absurd cc
named_part_with (Some ticket) (Some name) (Some value) c read =
    let part : AttrPart = record { ticket = ticket; name = Some name; value = value } in
    let is : Attr part ≡ c = cc in
    (part, name, sym is, refl)

named_part : (bytes : List ℕ) (c : Content) →
    attr_with (name_in (field_at 0 64 bytes))
    (option_map (λ text. Some text) (name_in (field_at 64 64 bytes)))
    (value_in (field_at 128 128 bytes)) ≡ Some c → IsNamedAttr c
named_part bytes c read =
    named_part_with (name_in (field_at 0 64 bytes)) (name_in (field_at 64 64 bytes))
    (value_in (field_at 128 128 bytes)) c read

-- a command that wishes nothing of attributes asks nothing of them
asks_no_attribute : (head : Head) (c : Content)
    → ((name : Option (List ℕ)) (value : List ℕ) → attr_wish head.cmd name value ≡ None)
    → attr_request_of head c ≡ None
asks_no_attribute head (Attr part) none =
    ap (λ (w : Option AttrWish). option_map (λ wish. record { ticket = part.ticket; number = head.request; wish = wish }) w)
    (none part.name part.value)
asks_no_attribute head Bare none = refl
asks_no_attribute head (Ticket part) none = refl
asks_no_attribute head (Text text) none = refl

-- ---- what it comes to

-- A client's message is answered at once, or asked of a ticket or of its attributes, and a member's is heard by its
-- ticket.
pub data Comes (node : NodeConfig) (from : Sender) (message : PlainMessage) (a : Action) : Type 0 where
  IsAnsweredAtOnce : direction_of message.head.cmd ≡ ToDaemon → (replies : List PlainMessage) → a ≡ Answers replies
      → AreRepliesTo node message 0 replies → Comes node from message a
  IsAsked : direction_of message.head.cmd ≡ ToDaemon → (place : ℕ) (request : Request) → a ≡ Asks place request
      → (part : TicketPart) → position (is_called part.ticket) node.config.tickets ≡ Some place
      → request.from ≡ from → request.number ≡ message.head.request
      → answer_of message.head.cmd ≡ Some (reply_cmd request.wish) → Comes node from message a
  IsAttended : direction_of message.head.cmd ≡ ToDaemon → (place : ℕ) (request : AttrRequest)
      → a ≡ Attends place request → place < length node.config.tickets → request.number ≡ message.head.request
      → answer_of message.head.cmd ≡ Some (attr_answer request.wish) → Comes node from message a
  IsHeard : direction_of message.head.cmd ≡ BetweenMembers → (member place : ℕ) (part : TicketPart)
      → a ≡ Hears member place message.head part → message.content ≡ Ticket part
      → position (has_id message.head.from) node.config.members ≡ Some member
      → position (is_called part.ticket) node.config.tickets ≡ Some place → Comes node from message a

module _ (node : NodeConfig) (now : ℕ) (tickets : List TicketState) (common : Common) (from : Sender)
    (message : PlainMessage) where
  abbrev Routed : Action
  Routed = routed node now tickets common from message (direction_of message.head.cmd)

  at_once : (cmd out : Cmd) → message.head.cmd ≡ cmd → answer_of cmd ≡ Some out → direction_of cmd ≡ ToDaemon
      → is_list cmd ≡ false → HasReply (reply_with (text_for node common cmd) (told_for node now tickets message.content) cmd message.content)
      → Routed ≡ answers node.ring now (replies_to node now tickets common message)
      → Comes node from message Routed
  at_once cmd out is answer to single found routes =
      let reply : PlainMessage = reply_message node.me message.head.request out found.0 in
      let same : replies_to node now tickets common message ≡ reply ∷ [] = rw (is, single, answer, found.1) refl in
      IsAnsweredAtOnce (ap direction_of is ∙ to) (stamped node.ring now reply ∷ [])
      (routes ∙ ap (λ r. answers node.ring now r) same)
      (record { cmd = ap answer_of is ∙ answer; request = refl; options = refl; reason = refl; from = refl })

  -- a request that is about no ticket goes to none
  unasked_routes : (cmd : Cmd) → message.head.cmd ≡ cmd → direction_of cmd ≡ ToDaemon → wish_of cmd ≡ None
      → ((name : Option (List ℕ)) (value : List ℕ) → attr_wish cmd name value ≡ None)
      → Routed ≡ answers node.ring now (replies_to node now tickets common message)
  unasked_routes cmd is to none no_wish =
      ap (λ d. routed node now tickets common from message d) (ap direction_of is ∙ to)
      ∙ ap (λ w. requested node now tickets common message (request_of from message.head w message.content))
      (ap wish_of is ∙ none)
      ∙ ap (λ r. attended node r (answers node.ring now (replies_to node now tickets common message)))
      (asks_no_attribute message.head message.content
      (λ name value. ap (λ (k : Cmd). attr_wish k name value) is ∙ no_wish name value))

  unasked : (cmd out : Cmd) → message.head.cmd ≡ cmd → answer_of cmd ≡ Some out → direction_of cmd ≡ ToDaemon
      → is_list cmd ≡ false → wish_of cmd ≡ None
      → ((name : Option (List ℕ)) (value : List ℕ) → attr_wish cmd name value ≡ None)
      → HasReply (reply_with (text_for node common cmd) (told_for node now tickets message.content) cmd message.content)
      → Comes node from message Routed
  unasked cmd out is answer to single none no_wish found =
      at_once cmd out is answer to single found (unasked_routes cmd is to none no_wish)

  -- a list is answered by its parts
  parts_answer : message.head.cmd ≡ CLst → (number : ℕ) (part : List (List ℕ)) (parts : List (List (List ℕ)))
      → AreRepliesTo node message number
      (map (stamped node.ring now) (part_messages node.me message.head.request number (part ∷ parts)))
  parts_answer is number part [] =
      record { cmd = ap answer_of is; request = refl; options = refl; reason = refl; from = refl }
  parts_answer is number part (next ∷ []) = (
    record { cmd = ap answer_of is; request = refl; options = refl; reason = refl; from = refl },
    is,
    refl,
    parts_answer is (number + 1) next [],
  )
  parts_answer is number part (next ∷ more ∷ parts) = (
    record { cmd = ap answer_of is; request = refl; options = refl; reason = refl; from = refl },
    is,
    refl,
    parts_answer is (number + 1) next (more ∷ parts),
  )

  lists : message.head.cmd ≡ CLst → Comes node from message Routed
  lists is =
      let lines = list_lines node now tickets in
      let some = some_part 0 lines in
      let same : replies_to node now tickets common message ≡ part_messages node.me message.head.request 0 (cut_lines 0 lines)
      = rw is refl in
      IsAnsweredAtOnce (ap direction_of is) (list_messages node now message.head.request lines)
      (unasked_routes CLst is refl refl (λ name value. refl) ∙ ap (λ r. answers node.ring now r) same
      ∙ list_answers node now message.head.request lines)
      (subst (λ (ps : List (List (List ℕ))). AreRepliesTo node message 0
      (map (stamped node.ring now) (part_messages node.me message.head.request 0 ps))) (sym some.2)
      (parts_answer is 0 some.0 some.1))

  -- a request about attributes is attended to, or answered at once
  attends_of : (cmd : Cmd) (part : AttrPart) (wish : AttrWish) → message.head.cmd ≡ cmd
      → direction_of cmd ≡ ToDaemon → is_list cmd ≡ false → wish_of cmd ≡ None → message.content ≡ Attr part
      → attr_wish cmd part.name part.value ≡ Some wish → answer_of cmd ≡ Some (attr_answer wish)
      → HasReply (reply_with (text_for node common cmd) (told_for node now tickets message.content) cmd message.content)
      → Comes node from message Routed
  attends_of cmd part wish is to single none content wished answer found =
      by_place (attended_place node part.ticket) refl
    where
      once : Action
      once = answers node.ring now (replies_to node now tickets common message)

      with_wish : AttrWish → AttrRequest
      with_wish w = record { ticket = part.ticket; number = message.head.request; wish = w }

      asked : attr_request_in message ≡ Some (with_wish wish)
      asked =
          ap (λ (c : Content). attr_request_of message.head c) content
          ∙ ap (λ (k : Cmd). option_map with_wish (attr_wish k part.name part.value)) is
          ∙ ap (λ (w : Option AttrWish). option_map with_wish w) wished

      routes : (o : Option ℕ) → attended_place node part.ticket ≡ o
          → Routed ≡ attends o (with_wish wish) once
      routes o e =
          ap (λ d. routed node now tickets common from message d) (ap direction_of is ∙ to)
          ∙ ap (λ w. requested node now tickets common message (request_of from message.head w message.content))
          (ap wish_of is ∙ none)
          ∙ ap (λ r. attended node r once) asked
          ∙ ap (λ o. attends o (with_wish wish) once) e

      by_place : (o : Option ℕ) → attended_place node part.ticket ≡ o → Comes node from message Routed
      by_place None e = at_once cmd (attr_answer wish) is answer to single found (routes None e)
      by_place (Some place) e =
          IsAttended (ap direction_of is ∙ to) place (with_wish wish) (routes (Some place) e)
          (place_at_site node part.ticket (is_at_site node) place e) refl (ap answer_of is ∙ answer)

  asks_of : (cmd : Cmd) (request : Request) → message.head.cmd ≡ cmd → direction_of cmd ≡ ToDaemon → is_list cmd ≡ false
      → (part : TicketPart) → request_in from message ≡ Some (part, request)
      → answer_of cmd ≡ Some (reply_cmd request.wish)
      → HasReply (reply_with (text_for node common cmd) (told_for node now tickets message.content) cmd message.content)
      → request.from ≡ from → request.number ≡ message.head.request → Comes node from message Routed
  asks_of cmd request is to single part asked answer found same_from same_number =
      by_ticket (position (is_called part.ticket) node.config.tickets) refl
    where
      once : Action
      once = answers node.ring now (replies_to node now tickets common message)

      routes : (o : Option ℕ) → position (is_called part.ticket) node.config.tickets ≡ o
          → Routed ≡ asks o request once
      routes o e =
          ap (λ d. routed node now tickets common from message d) (ap direction_of is ∙ to)
          ∙ ap (λ r. requested node now tickets common message r) asked
          ∙ ap (λ o. asks o request once) e

      by_ticket : (o : Option ℕ) → position (is_called part.ticket) node.config.tickets ≡ o
          → Comes node from message Routed
      by_ticket None e = at_once cmd (reply_cmd request.wish) is answer to single found (routes None e)
      by_ticket (Some place) e =
          IsAsked (ap direction_of is ∙ to) place request (routes (Some place) e) part e same_from same_number
          (ap answer_of is ∙ answer)

  repeats : (part : AttrPart) (name : List ℕ) → message.content ≡ Attr part → part.name ≡ Some name
      → HasReply (no_attribute message.content)
  repeats part name content named =
      (_, ap no_attribute content ∙ ap (λ n. no_attribute_of part n) named)

  -- a request for one ticket has its reply
  told_reply : (ticket : Option TicketState) (now : ℕ) (asked : TicketPart) → told_for node now tickets message.content ≡ told_of ticket now asked
      → HasReply (told_for node now tickets message.content)
  told_reply None now asked is = (_, is)
  told_reply (Some ticket) now asked is = (_, is)

  client_comes : (cmd : Cmd) → message.head.cmd ≡ cmd → direction_of cmd ≡ ToDaemon → IsRead cmd message.content
      → Comes node from message Routed
  client_comes CLst is to read = lists is
  client_comes CTkt is to read =
      let it = ticket_part read.0 message.content read.1 in
      unasked CTkt RTkt is refl refl refl refl (λ name value. refl)
      (told_reply (ticket_named node tickets it.0.ticket) now it.0 (ap (told_for node now tickets) it.1))
  client_comes Peer is to read = unasked Peer RPer is refl refl refl refl (λ name value. refl) (_, refl)
  client_comes CGnt is to read =
      let it = ticket_part read.0 message.content read.1 in
      asks_of CGnt
      (record {
        wish = Grant;
        from = from;
        number = message.head.request;
        options = message.head.options;
      }) is refl refl it.0
      (ap (λ w. request_of from message.head w message.content) (ap wish_of is)
      ∙ ap (λ c. request_of from message.head (Some Grant) c) it.1) refl (_, ap no_ticket it.1) refl refl
  client_comes CRvk is to read =
      let it = ticket_part read.0 message.content read.1 in
      asks_of CRvk
      (record {
        wish = Revoke;
        from = from;
        number = message.head.request;
        options = message.head.options;
      }) is refl refl it.0
      (ap (λ w. request_of from message.head w message.content) (ap wish_of is)
      ∙ ap (λ c. request_of from message.head (Some Revoke) c) it.1) refl (_, ap no_ticket it.1) refl refl
  client_comes ASet is to read =
      let it = named_part read.0 message.content read.1 in
      attends_of ASet it.0 (wishes.Set (record { name = it.1; value = it.0.value })) is refl refl refl it.2
      (ap (λ name. attr_wish ASet name it.0.value) it.3) refl (repeats it.0 it.1 it.2 it.3)
  client_comes AGet is to read =
      let it = named_part read.0 message.content read.1 in
      attends_of AGet it.0 (wishes.Get (record { name = it.1; value = it.0.value })) is refl refl refl it.2
      (ap (λ name. attr_wish AGet name it.0.value) it.3) refl (repeats it.0 it.1 it.2 it.3)
  client_comes ADel is to read =
      let it = named_part read.0 message.content read.1 in
      attends_of ADel it.0 (wishes.Delete (record { name = it.1; value = it.0.value })) is refl refl refl it.2
      (ap (λ name. attr_wish ADel name it.0.value) it.3) refl (repeats it.0 it.1 it.2 it.3)
  client_comes ALst is to read =
      let it = attr_part _ _ _ message.content read.1 in
      attends_of ALst it.0 wishes.List is refl refl refl it.1 refl refl (_, refl)
  client_comes RLst is to read = absurd cc
  client_comes RTkt is to read = absurd cc
  client_comes RPer is to read = absurd cc
  client_comes RALs is to read = absurd cc
  client_comes RGnt is to read = absurd cc
  client_comes RRvk is to read = absurd cc
  client_comes RAtr is to read = absurd cc
  client_comes Stat is to read = absurd cc
  client_comes MIdx is to read = absurd cc
  client_comes RVot is to read = absurd cc
  client_comes VtFr is to read = absurd cc
  client_comes HrtB is to read = absurd cc
  client_comes Ack is to read = absurd cc
  client_comes UpdE is to read = absurd cc
  client_comes Revk is to read = absurd cc
  client_comes Rjc is to read = absurd cc

  -- a member's command is about a ticket
  member_part_of : (cmd : Cmd) → direction_of cmd ≡ BetweenMembers → IsRead cmd message.content
      → IsPart message.content
  member_part_of CLst to read = absurd cc
  member_part_of CTkt to read = absurd cc
  member_part_of Peer to read = absurd cc
  member_part_of CGnt to read = absurd cc
  member_part_of CRvk to read = absurd cc
  member_part_of ASet to read = absurd cc
  member_part_of AGet to read = absurd cc
  member_part_of ADel to read = absurd cc
  member_part_of ALst to read = absurd cc
  member_part_of RLst to read = absurd cc
  member_part_of RTkt to read = absurd cc
  member_part_of RPer to read = absurd cc
  member_part_of RALs to read = absurd cc
  member_part_of RGnt to read = absurd cc
  member_part_of RRvk to read = absurd cc
  member_part_of RAtr to read = absurd cc
  member_part_of Stat to read = ticket_part read.0 message.content read.1
  member_part_of MIdx to read = ticket_part read.0 message.content read.1
  member_part_of RVot to read = ticket_part read.0 message.content read.1
  member_part_of VtFr to read = ticket_part read.0 message.content read.1
  member_part_of HrtB to read = ticket_part read.0 message.content read.1
  member_part_of Ack to read = ticket_part read.0 message.content read.1
  member_part_of UpdE to read = ticket_part read.0 message.content read.1
  member_part_of Revk to read = ticket_part read.0 message.content read.1
  member_part_of Rjc to read = ticket_part read.0 message.content read.1

  found : (o : Option ℕ) → not (is_some o) ≡ false → (place : ℕ) × (o ≡ Some place)
  found None some = absurd cc
  found (Some place) some = (place, refl)

  member_comes : direction_of message.head.cmd ≡ BetweenMembers → IsRead message.head.cmd message.content
      → is_stranger node.config message.head ≡ false
      → names_no_ticket node.config (part_of_member message) ≡ false
      → Comes node from message Routed
  member_comes to read known named =
      let it = member_part_of message.head.cmd to read in
      let member = found (position (has_id message.head.from) node.config.members)
      (ap (λ d. not (may_come_from node.config d message.head.from)) (sym to) ∙ known) in
      let place = found (position (is_called it.0.ticket) node.config.tickets)
      (ap (λ d. names_no_ticket node.config (member_part d (Ticket it.0))) (sym to)
      ∙ ap (λ c. names_no_ticket node.config (member_part (direction_of message.head.cmd) c)) (sym it.1)
      ∙ named) in
      IsHeard to member.0 place.0 it.0
      (ap (λ d. routed node now tickets common from message d) to ∙ ap (λ c. said node message.head c) it.1
      ∙ ap (λ m. hears m (position (is_called it.0.ticket) node.config.tickets) message.head it.0) member.1
      ∙ ap (λ p. hears (Some member.0) p message.head it.0) place.1)
      it.1 member.1 place.1

is_not : true ≡ false → ⊥
is_not h = cc

-- what is let in is answered at once, asked of its ticket, or heard by its ticket
pub comes : (node : NodeConfig) (now : ℕ) (tickets : List TicketState) (common : Common) (from : Sender)
    (bytes : List ℕ)
    (message : PlainMessage) → verdict node.config node.ring node.me now bytes ≡ Ok message
    → Comes node from message (action node now tickets common from bytes)
comes node now tickets common from bytes message is =
    let free = (lets_in node.config node.ring node.me now bytes message).0 is in
    let read : IsRead message.head.cmd message.content = content_read bytes message free.read in
    subst (λ (a : Action). Comes node from message a)
    (sym (ap (λ v. demanded node now tickets common from v) is))
    (by_direction (direction_of message.head.cmd) refl read free.known free.ticket)
  where
    by_direction : (d : Direction) → direction_of message.head.cmd ≡ d → IsRead message.head.cmd message.content
        → is_stranger node.config message.head ≡ false
        → names_no_ticket node.config (part_of_member message) ≡ false
        → Comes node from message (routed node now tickets common from message
        (direction_of message.head.cmd))
    by_direction ToDaemon to read known named = client_comes node now tickets common from message
        message.head.cmd refl to read
    by_direction BetweenMembers to read known named = member_comes node now tickets common from message to
        read known named
    by_direction ToClient to read known named =
        absurd (is_not (ap (λ d. not (may_come_from node.config d message.head.from)) (sym to) ∙ known))
