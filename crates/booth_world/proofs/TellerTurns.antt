-- What a turn of a node tells of an automatic ticket is borne out by the records that may be kept then.
use Rattle.std.proofs.Common.{Bool, List, [], ap, arith, false, inl, inr, map, refl, slice_get, subst, sym, true, ℕ, ⊎_elim, ◌++◌, ◌+◌, ◌<◌, ◌∙◌, ◌∷◌, ◌≡◌, ◌≢◌, ◌⊎◌}
use Rattle.std.specs.Prelude.{Option, Some, None, Result, Ok, Err, ◌==◌, position, if◌then◌else◌}
use Rattle.booth_keys.specs.declared.ring.Ring.{Ring}
use Rattle.booth_base.specs.declared.address.Address.{Address}
use Rattle.booth_base.specs.declared.address.MemberId.{MemberId}
use Rattle.booth_base.specs.declared.address.Peer.{Peer}
use Rattle.booth_base.specs.declared.address.TheConstants.{NO_ONE}
use Rattle.booth_base.specs.Address.{printed}
use Rattle.booth_base.specs.Tree.{Ends, each, Always, ◌>>◌}
use Rattle.booth_conf.specs.Config.{ConfigSays, has_id}
use Rattle.booth_conf.specs.Lookups.{is_called}
use Rattle.booth_conf.specs.declared.tickets.GrantKind.{GrantKind}
use Rattle.booth_conf.specs.declared.tickets.GrantKind.TheVariants as kinds
use Rattle.booth_rec.specs.declared.record.Record.{Record}
use Rattle.booth_wire.specs.declared.codes.results.TheConstants.{IARG, MORE, SUCCESS}
use Rattle.booth_wire.specs.declared.command.Cmd.{Cmd}
use Rattle.booth_wire.specs.declared.command.Cmd.TheVariants as cmds
use Rattle.booth_wire.specs.declared.command.Direction.{Direction}
use Rattle.booth_wire.specs.declared.command.Direction.TheVariants.{ToDaemon, ToClient, BetweenMembers}
use Rattle.booth_wire.specs.declared.message.Head.{Head}
use Rattle.booth_wire.specs.declared.message.TicketPart.{TicketPart}
use Rattle.booth_wire.specs.declared.message.Setup.{Setup}
use Rattle.booth_wire.specs.Command.{answer_of, direction_of}
use Rattle.booth_wire.specs.PlainMessage.{PlainMessage, Content, Bare, Ticket, Attr, Text}
use Rattle.booth_wire.specs.Reading.{decoded}
use Rattle.booth_wire.specs.declared.message.FrameFault.{FrameFault}
use Rattle.booth_auth.specs.declared.admission.DropFault.{DropFault}
use Rattle.booth_auth.specs.declared.admission.DropFault.TheVariants as faults
use Rattle.booth_auth.specs.Verdict.{verdict, judged_if_read, admitted, lacks_mac, has_wrong_mac, is_too_old, is_stranger, names_no_ticket, names_no_leader, part_of_member}
use Rattle.booth_auth.specs.Sealed.{stamped}
use Rattle.booth_host.specs.declared.host.Arrival.{Arrival}
use Rattle.booth_host.specs.declared.host.Arrival.TheVariants as arrivals
use Rattle.booth_host.specs.declared.host.Failed.{Failed}
use Rattle.booth_raft.specs.Members.{is_same}
use Rattle.booth_raft.proofs.AnswerLemmas.{same-is_same}
use Rattle.booth_raft.proofs.FactsLemmas.{on_cond, untrue}
use Rattle.booth_ticket.specs.declared.handling.Service.{Service}
use Rattle.booth_ticket.specs.declared.request.Request.{Request}
use Rattle.booth_ticket.specs.declared.waiters.Waiter.{Waiter}
use Rattle.booth_ticket.specs.Handling.{service_of}
use Rattle.booth_ticket.specs.Ticket.{TicketState, TicketLeft, Known}
use Rattle.booth_ticket.specs.Waiting.{spare_in, waiting_at}
use Rattle.booth_ticket.proofs.WalkLemmas.{ticket_asked_walks, ticket_due_walks, ticket_heard_walks, ticket_over_walks}
use Rattle.booth_node.specs.declared.node.Turn.{Turn}
use Rattle.booth_node.specs.declared.node.Turn.TheVariants.{Went, Stopped}
use Rattle.booth_node.specs.declared.node_config.NodeConfig.{NodeConfig}
use Rattle.booth_node.specs.declared.state.Common.{Common}
use Rattle.booth_node.specs.AttributeRequests.{attended_place, attr_message, attr_request_in, is_ready}
use Rattle.booth_node.proofs.AttributeLemmas.{attr_is_no_list, attr_is_no_ticket}
use Rattle.booth_node.specs.Befalling.{AttributeAsking, Befalling, comes_due, ends_job, is_told, is_asked}
use Rattle.booth_node.specs.Counting.{accepted}
use Rattle.booth_node.specs.Jobs.{job_at}
use Rattle.booth_node.specs.Lists.{cut_lines, part_text}
use Rattle.booth_node.specs.Reaction.{Action, Drops, Hears, Asks, Attends, Answers, Rests, action, acts, acts_as, all_places, answers, arrived, asks, attended, attends, befalls, demanded, due_places, dues, each_due, each_over, hears, met, react, requested, routed, said, turn_end, sends_back}
use Rattle.booth_node.specs.Replies.{Reply, answered, is_list, list_lines, no_attribute, no_attribute_of, no_ticket, part_message, part_messages, replies_to, reply_message, reply_with, request_in, text_for, ticket_in, told_for, told_of}
use Rattle.booth_node.specs.State.{State, with_ticket}
use Rattle.booth_world.specs.Tellers.{Claim, IsGranted, HasLeft, EndsIn, IsListed, HasLine, ListTells, MessageTells, PartTells}
use Rattle.booth_world.proofs.TellerClaims.{IsBacked, IsHonestMessage, IsOwn, IsPlaced, found_or_not, same_part, same_text, text_is_none, told_of_none, told_of_ticket}
use Rattle.booth_world.proofs.TellerLists.{AreTheirs, IsLineTold, lines_told}
use Rattle.booth_world.proofs.TellerStanding.{standing_true}
use Rattle.booth_world.proofs.TellerTexts.{AllOf, AllParts, IsLineOf, cut_of_all, line_found, named_is_some}
use Rattle.booth_world.proofs.TellerSteps.{Honest, IsHonest, IsHonestLeft}
use Rattle.booth_world.proofs.TellerTickets.{ticket_asked_honest, ticket_due_honest, ticket_heard_honest, ticket_over_honest}
use Rattle.booth_world.proofs.TellerNodes.{Names, names_allowed, by, KeepsHonest, keeps_next, own_keeps, other_keeps, own_left, other_left}

module _ (s : Setup) (at_found : Option ℕ) (lasts : 0 < s.times.expire) (address : Address) where
  module _ (node : NodeConfig) (moment : ℕ) where
    -- ---- what befalls a ticket

    abbrev OwnIsHonest : Befalling → Type 0
    OwnIsHonest event =
        (known : Known) (waiters : List Waiter) (spare : ℕ) (may : List Record) (ready : GrantKind → Bool) (job : Option ℕ) → IsHonest s may known
        → Honest s moment (IsHonestLeft s) may (befalls (record { setup = s; known = known }) waiters spare ready job event moment)

    abbrev OthersName : Befalling → Type 0
    OthersName event =
        (t : TicketState) (waiters : List Waiter) (spare : ℕ) (ready : GrantKind → Bool) (job : Option ℕ)
        → Always (Names t.setup.ticket) (λ (left : TicketLeft). left.ticket.setup ≡ t.setup) (befalls t waiters spare ready job event moment)

    acts_keep : (state : State) (at_place : ℕ) (may : List Record) (event : Befalling) → OwnIsHonest event → OthersName event
        → IsPlaced s at_found may state.tickets → KeepsHonest s at_found lasts address node.ring may (acts node moment state at_place event)
    acts_keep state at_place may event own_honest names at = by_place (found_or_not at_found at_place)
      where
        own : at_found ≡ Some at_place → KeepsHonest s at_found lasts address node.ring may (acts node moment state at_place event)
        own here =
            let placed : IsOwn s at_found at_place may state.tickets = at.own at_place here in
            subst (λ (o : Option TicketState). KeepsHonest s at_found lasts address node.ring may (acts_as node moment state at_place event o)) (sym placed.own)
            (own_keeps s at_found lasts address node moment may state.common
            (befalls (record { setup = s; known = placed.known }) (waiting_at state.waiters at_place) (spare_in state.waiters)
            (is_ready node state.attributes at_place) (job_at node at_place state.common) event moment)
            (λ common left. Ends (with_ticket state at_place common left))
            (own_honest placed.known (waiting_at state.waiters at_place) (spare_in state.waiters) may
            (is_ready node state.attributes at_place) (job_at node at_place state.common) placed.honest)
            (λ later counted left h. own_left s at_found lasts address node moment state at_place may later counted left at here h))

        other : at_found ≢ Some at_place → (o : Option TicketState) → slice_get state.tickets at_place ≡ o
            → KeepsHonest s at_found lasts address node.ring may (acts_as node moment state at_place event o)
        other ne None is = at
        other ne (Some t) is =
            other_keeps s at_found lasts address node moment t.setup.ticket (at.others at_place t is ne) may state.common (λ (left : TicketLeft). left.ticket.setup ≡ t.setup)
            (befalls t (waiting_at state.waiters at_place) (spare_in state.waiters) (is_ready node state.attributes at_place)
            (job_at node at_place state.common) event moment)
            (λ common left. Ends (with_ticket state at_place common left))
            (names t (waiting_at state.waiters at_place) (spare_in state.waiters) (is_ready node state.attributes at_place)
            (job_at node at_place state.common))
            (λ counted left same. other_left s at_found lasts address node moment state at_place may t counted left at is ne same)

        by_place : (at_found ≡ Some at_place) ⊎ (at_found ≢ Some at_place) → KeepsHonest s at_found lasts address node.ring may (acts node moment state at_place event)
        by_place (inl here) = own here
        by_place (inr ne) = other ne (slice_get state.tickets at_place) refl

    due_acts : (state : State) (at_place : ℕ) (may : List Record) → IsPlaced s at_found may state.tickets → KeepsHonest s at_found lasts address node.ring may (acts node moment state at_place comes_due)
    due_acts state at_place may at =
        acts_keep state at_place may comes_due
        (λ known waiters spare may ready job h. ticket_due_honest s moment lasts may known waiters (ready kinds.Auto) job h)
        (λ t waiters spare ready job. ticket_due_walks t.setup waiters (Names t.setup.ticket) (names_allowed t.setup waiters) t.known
        (record { now = moment; ready = ready kinds.Auto; job = job }))
        at

    heard_acts : (state : State) (at_place : ℕ) (may : List Record) (member : ℕ) (head : Head) (part : TicketPart) → (head.from ≡ s.me → ⊥)
        → IsPlaced s at_found may state.tickets → KeepsHonest s at_found lasts address node.ring may (acts node moment state at_place (is_told member head part))
    heard_acts state at_place may member head part not_own at =
        acts_keep state at_place may (is_told member head part)
        (λ known waiters spare may ready job h. ticket_heard_honest s moment lasts may known waiters member head part not_own h)
        (λ t waiters spare ready job. ticket_heard_walks t.setup waiters (Names t.setup.ticket) (names_allowed t.setup waiters) t.known member head part moment)
        at

    asked_acts : (state : State) (at_place : ℕ) (may : List Record) (request : Request)
        → IsPlaced s at_found may state.tickets → KeepsHonest s at_found lasts address node.ring may (acts node moment state at_place (is_asked request))
    asked_acts state at_place may request at =
        acts_keep state at_place may (is_asked request)
        (λ known waiters spare may ready job h. ticket_asked_honest s moment lasts may known waiters spare (ready kinds.Manual) job request h)
        (λ t waiters spare ready job. ticket_asked_walks t.setup waiters (Names t.setup.ticket) (names_allowed t.setup waiters) t.known spare
        (record { now = moment; ready = ready kinds.Manual; job = job }) request (λ wanted result part names. names))
        at

    over_acts : (state : State) (at_place : ℕ) (may : List Record) (number : ℕ) (service : Service)
        → IsPlaced s at_found may state.tickets → KeepsHonest s at_found lasts address node.ring may (acts node moment state at_place (ends_job number service))
    over_acts state at_place may number service at =
        acts_keep state at_place may (ends_job number service)
        (λ known waiters spare may ready job h. ticket_over_honest s moment lasts may known waiters number service h)
        (λ t waiters spare ready job. ticket_over_walks t.setup waiters (Names t.setup.ticket) (names_allowed t.setup waiters) t.known number service moment)
        at

    -- ---- the arrival

    abbrev AreHonest : List Record → List PlainMessage → Type 0
    AreHonest may [] = Unit {0}
    AreHonest may (message ∷ messages) = IsHonestMessage (by s at_found lasts address) node.ring may message × AreHonest may messages

    -- what an action demands is borne out: no message of this member itself is heard
    abbrev IsHonestAction : List Record → Action → Type 0
    IsHonestAction may (Hears member ticket head part) = head.from ≡ s.me → ⊥
    IsHonestAction may (Answers messages) = AreHonest may messages
    IsHonestAction may a = Unit {0}

    met_keeps : (state : State) (from : Peer) (a : Action) (may : List Record) → IsHonestAction may a → IsPlaced s at_found may state.tickets
        → KeepsHonest s at_found lasts address node.ring may (met node moment state from a)
    met_keeps state from (Drops fault) may so at = at
    met_keeps state from (Hears member ticket head part) may so at = heard_acts (accepted state member moment) ticket may member head part so at
    met_keeps state from (Asks ticket request) may so at = asked_acts state ticket may request at
    met_keeps state from (Attends ticket request) may so at = (
      told_of_none (by s at_found lasts address) node.ring may (attr_message node moment state.attributes ticket request) refl
          (λ part e. attr_is_no_ticket node moment state.attributes ticket request part e) (λ e. attr_is_no_list _ e),
      λ ok. at,
    )
    met_keeps state from (Answers messages) may so at = told messages so
      where
        told : (messages : List PlainMessage) → AreHonest may messages → KeepsHonest s at_found lasts address node.ring may (each (sends_back from) messages >> Ends state)
        told [] so = at
        told (message ∷ messages) so = (so.0, λ ok. told messages so.1)
    met_keeps state from Rests may so at = at

    -- ---- what a client is answered at once

    abbrev AreHonestUnstamped : List Record → List PlainMessage → Type 0
    AreHonestUnstamped may messages = AreHonest may (map (stamped node.ring moment) messages)

    -- a reply about a ticket that is unknown tells nothing
    unknown_honest : (may : List Record) (request : ℕ) (cmd : Cmd) (content : Content)
        → AreHonestUnstamped may (answered node.me request (Some cmd) (no_ticket content))
    unknown_honest may request cmd (Ticket told) = (
      told_of_ticket (by s at_found lasts address) node.ring may (stamped node.ring moment (reply_message node.me request cmd none)) part refl refl
          (λ claim tells. by_claim tells.0 (same_part part tells.0 tells.1) claim tells.2),
      tt,
    )
      where
        part : TicketPart
        part = record { ticket = told.ticket; leader = NO_ONE; term = 0; valid_for = 0 }

        none : Reply
        none = record { result = IARG; content = Ticket part }

        by_claim : (found : TicketPart) → part ≡ found → (claim : Claim)
            → PartTells s.ticket s.me (stamped node.ring moment (reply_message node.me request cmd none)).head found claim → IsBacked may claim
        by_claim found same (IsGranted head) t = let done : IARG ≡ SUCCESS = t.3 in absurd (omega (arith, done))
        by_claim found same (HasLeft head seconds) t =
            let left : 0 ≡ seconds = ap (λ (p : TicketPart). p.valid_for) same ∙ t.3 in
            let some : 0 < seconds = t.4 in
            absurd (omega (arith, left, some))
        by_claim found same (EndsIn second) t = absurd t
        by_claim found same (IsListed digits) t = absurd t
    unknown_honest may request cmd Bare = tt
    unknown_honest may request cmd (Attr attr) = tt
    unknown_honest may request cmd (Text text) = tt

    -- a reply that is about no ticket
    other_honest : (may : List Record) (request : ℕ) (cmd : Cmd) (reply : Reply) → ((part : TicketPart) → reply.content ≡ Ticket part → ⊥)
        → (cmd ≡ cmds.RLst → ⊥) → AreHonestUnstamped may (answered node.me request (Some cmd) (Some reply))
    other_honest may request cmd reply none other =
        (told_of_none (by s at_found lasts address) node.ring may (stamped node.ring moment (reply_message node.me request cmd reply)) refl none other, tt)

    attribute_honest : (may : List Record) (request : ℕ) (cmd : Cmd) (content : Content) → (cmd ≡ cmds.RLst → ⊥)
        → AreHonestUnstamped may (answered node.me request (Some cmd) (no_attribute content))
    attribute_honest may request cmd (Attr attr) other = by_name attr.name
      where
        by_name : (o : Option (List ℕ)) → AreHonestUnstamped may (answered node.me request (Some cmd) (no_attribute_of attr o))
        by_name None = tt
        by_name (Some name) = other_honest may request cmd (record { result = IARG; content = Attr attr }) (λ part e. absurd (cc)) other
    attribute_honest may request cmd Bare other = tt
    attribute_honest may request cmd (Ticket part) other = tt
    attribute_honest may request cmd (Text text) other = tt

    -- how a ticket stands
    abbrev IsStanding : List Record → ℕ → TicketPart → Option TicketState → Type 0
    IsStanding may request asked ticket = AreHonestUnstamped may (answered node.me request (Some cmds.RTkt) (told_of ticket moment asked))

    standing_honest : (may : List Record) (tickets : List TicketState) (request : ℕ) (content : Content) → IsPlaced s at_found may tickets
        → AreHonestUnstamped may (answered node.me request (Some cmds.RTkt) (told_for node moment tickets content))
    standing_honest may tickets request (Ticket asked) at = by_place (position (is_called asked.ticket) node.config.tickets)
      where
        by_ticket : (place : ℕ) (o : Option TicketState) → slice_get tickets place ≡ o → IsStanding may request asked o
        by_ticket place None is = unknown_honest may request cmds.RTkt (Ticket asked)
        by_ticket place (Some ticket) is = (standing_true s at_found lasts address node moment may request place ticket tickets at is, tt)

        by_place : (o : Option ℕ) → IsStanding may request asked (ticket_in tickets o)
        by_place None = unknown_honest may request cmds.RTkt (Ticket asked)
        by_place (Some place) = by_ticket place (slice_get tickets place) refl
    standing_honest may tickets request Bare at = tt
    standing_honest may tickets request (Attr attr) at = tt
    standing_honest may tickets request (Text text) at = tt

    answer_honest : (may : List Record) (request : ℕ) (text : List ℕ) (told : Option Reply) (cmd : Cmd) (content : Content)
        → AreHonestUnstamped may (answered node.me request (Some cmds.RTkt) told)
        → AreHonestUnstamped may (answered node.me request (answer_of cmd) (reply_with text told cmd content))
    answer_honest may request text told cmds.CTkt content so = so
    answer_honest may request text told cmds.Peer content so =
        other_honest may request cmds.RPer (record { result = SUCCESS; content = Text text }) (λ part e. text_is_none text part e) (λ e. absurd (cc))
    answer_honest may request text told cmds.CGnt content so = unknown_honest may request cmds.RGnt content
    answer_honest may request text told cmds.CRvk content so = unknown_honest may request cmds.RRvk content
    answer_honest may request text told cmds.ASet content so = attribute_honest may request cmds.RAtr content (λ e. absurd (cc))
    answer_honest may request text told cmds.AGet content so = attribute_honest may request cmds.RAtr content (λ e. absurd (cc))
    answer_honest may request text told cmds.ADel content so = attribute_honest may request cmds.RAtr content (λ e. absurd (cc))
    answer_honest may request text told cmds.ALst content so =
        other_honest may request cmds.RALs (record { result = IARG; content = Text text }) (λ part e. text_is_none text part e) (λ e. absurd (cc))
    answer_honest may request text told cmd content so = tt

    -- ---- lists

    module _ (theirs : AreTheirs node.config s.me address) where
      abbrev IsTrueLine : List Record → List ℕ → Type 0
      IsTrueLine may = IsLineOf (IsLineTold s at_found node.config address theirs moment may)

      part_honest : (may : List Record) (request number result : ℕ) (part : List (List ℕ)) → AllOf (IsTrueLine may) part
          → IsHonestMessage (by s at_found lasts address) node.ring may (stamped node.ring moment (part_message node.me request number result (part_text part)))
      part_honest may request number result part lines = (
        refl,
        λ claim told.
            ⊎_elim
            (λ (t : MessageTells s.ticket s.me (stamped node.ring moment (part_message node.me request number result (part_text part))) claim).
            absurd (text_is_none (part_text part) t.0 t.1))
            (λ (t : ListTells s.ticket address (stamped node.ring moment (part_message node.me request number result (part_text part))) claim).
            by_claim claim t) told,
      )
        where
          by_claim : (claim : Claim)
              → ListTells s.ticket address (stamped node.ring moment (part_message node.me request number result (part_text part))) claim
              → IsBacked may claim
          by_claim (IsGranted head) t = absurd t
          by_claim (HasLeft head seconds) t = absurd t
          by_claim (EndsIn second) t = absurd t
          by_claim (IsListed digits) t =
              line_found (IsLineTold s at_found node.config address theirs moment may) part lines (s.ticket ++ 32 ∷ (printed address ++ 32 ∷ digits))
              (named_is_some s.ticket (printed address ++ 32 ∷ digits))
              (subst (λ (text : List ℕ). HasLine text (s.ticket ++ 32 ∷ (printed address ++ 32 ∷ digits))) (sym (same_text (part_text part) t.0 t.2)) t.3)
              digits refl

      parts_honest : (may : List Record) (request number : ℕ) (parts : List (List (List ℕ))) → AllParts (IsTrueLine may) parts
          → AreHonestUnstamped may (part_messages node.me request number parts)
      parts_honest may request number [] all = tt
      parts_honest may request number (part ∷ []) all = (part_honest may request number SUCCESS part all.0, tt)
      parts_honest may request number (part ∷ next ∷ parts) all =
          (part_honest may request number MORE part all.0, parts_honest may request (number + 1) (next ∷ parts) all.1)

      replies_honest : (may : List Record) (tickets : List TicketState) (common : Common) (message : PlainMessage) → IsPlaced s at_found may tickets
          → AreHonestUnstamped may (replies_to node moment tickets common message)
      replies_honest may tickets common message at =
          on_cond (AreHonestUnstamped may) (is_list message.head.cmd) _ _
          (parts_honest may message.head.request 0 (cut_lines 0 (list_lines node moment tickets))
          (cut_of_all (IsTrueLine may) 0 (list_lines node moment tickets) (lines_told s at_found node.config address theirs moment may tickets at)))
          (answer_honest may message.head.request (text_for node common message.head.cmd) (told_for node moment tickets message.content)
          message.head.cmd message.content (standing_honest may tickets message.head.request message.content at))

    answers_honest : (may : List Record) (messages : List PlainMessage) → AreHonestUnstamped may messages
        → IsHonestAction may (answers node.ring moment messages)
    answers_honest may [] so = tt
    answers_honest may (message ∷ messages) so = so

    -- ---- what is heard

    passed : {A : Type 0} (test : Bool) (fault : DropFault) (rest : Result A DropFault) (x : A) → (if test then Err fault else rest) ≡ Ok x
        → (test ≡ false) × (rest ≡ Ok x)
    passed true fault rest x e = absurd (cc)
    passed false fault rest x e = (refl, e)

    abbrev as_read : PlainMessage → Result PlainMessage DropFault
    as_read message = Ok message

    -- a message of this member itself is not let in
    from_another : (config : ConfigSays) (ring : Option Ring) (me : MemberId) (now : ℕ) (bytes : List ℕ) (message : PlainMessage)
        → verdict config ring me now bytes ≡ Ok message → message.head.from ≡ me → ⊥
    from_another config ring me now bytes message is same = by_read (decoded bytes) is
      where
        by_read : (r : Result PlainMessage FrameFault) → judged_if_read config ring me now bytes r ≡ Ok message → ⊥
        by_read (Err fault) e = absurd (cc)
        by_read (Ok l) e =
            let signed = passed (lacks_mac ring l.head) faults.NoMac _ message e in
            let right = passed (has_wrong_mac ring bytes) faults.BadMac _ message signed.1 in
            let fresh = passed (is_too_old ring config.skew now l.head) faults.TooOld (admitted config me l) message right.1 in
            let known = passed (is_stranger config l.head) faults.Stranger _ message fresh.1 in
            let other = passed (l.head.from.0 == me.0) faults.Own _ message known.1 in
            let ticket = passed (names_no_ticket config (part_of_member l)) faults.Ticket _ message other.1 in
            let leader = passed (names_no_leader config l.head (part_of_member l)) faults.Leader _ message ticket.1 in
            let read : l ≡ message = the_message l message leader.1 in
            let own : is_same l.head.from me ≡ true =
            same-is_same l.head.from me (ap (λ (m : PlainMessage). m.head.from) read ∙ same) in
            absurd (untrue (sym other.0 ∙ own))
          where
            the_message : (a b : PlainMessage) → as_read a ≡ as_read b → a ≡ b
            the_message a b e = cc

    module _ (own_id : s.me ≡ node.me) (theirs : AreTheirs node.config s.me address) where
      action_honest : (may : List Record) (tickets : List TicketState) (common : Common) (from : Peer) (bytes : List ℕ) → IsPlaced s at_found may tickets
          → IsHonestAction may (action node moment tickets common from bytes)
      action_honest may tickets common from bytes at = by_verdict (verdict node.config node.ring node.me moment bytes) refl
        where
          by_content : (head : Head) (content : Content) → (head.from ≡ s.me → ⊥) → IsHonestAction may (said node head content)
          by_content head (Ticket part) other = by_places (position (has_id head.from) node.config.members) (position (is_called part.ticket) node.config.tickets)
            where
              by_places : (a b : Option ℕ) → IsHonestAction may (hears a b head part)
              by_places (Some member) (Some ticket) = other
              by_places (Some member) None = tt
              by_places None b = tt
          by_content head Bare other = tt
          by_content head (Attr attr) other = tt
          by_content head (Text text) other = tt

          at_once : (message : PlainMessage) → IsHonestAction may (answers node.ring moment (replies_to node moment tickets common message))
          at_once message =
              answers_honest may (replies_to node moment tickets common message) (replies_honest theirs may tickets common message at)

          by_attribute : (message : PlainMessage) (o : Option AttributeAsking)
              → IsHonestAction may (attended node o (answers node.ring moment (replies_to node moment tickets common message)))
          by_attribute message None = at_once message
          by_attribute message (Some request) = by_place (attended_place node request.ticket)
            where
              by_place : (o : Option ℕ)
                  → IsHonestAction may (attends o request (answers node.ring moment (replies_to node moment tickets common message)))
              by_place None = at_once message
              by_place (Some ticket) = tt

          by_request : (message : PlainMessage) (o : Option (TicketPart × Request)) → IsHonestAction may (requested node moment tickets common message o)
          by_request message None = by_attribute message (attr_request_in message)
          by_request message (Some asked) = by_place (position (is_called asked.0.ticket) node.config.tickets)
            where
              by_place : (o : Option ℕ)
                  → IsHonestAction may (asks o asked.1 (answers node.ring moment (replies_to node moment tickets common message)))
              by_place None = at_once message
              by_place (Some ticket) = tt

          by_direction : (message : PlainMessage) → (message.head.from ≡ s.me → ⊥) → (d : Direction)
              → IsHonestAction may (routed node moment tickets common from message d)
          by_direction message other ToDaemon = by_request message (request_in from message)
          by_direction message other BetweenMembers = by_content message.head message.content other
          by_direction message other ToClient = tt

          by_verdict : (r : Result PlainMessage DropFault) → verdict node.config node.ring node.me moment bytes ≡ r
              → IsHonestAction may (demanded node moment tickets common from r)
          by_verdict (Err fault) e = tt
          by_verdict (Ok message) e =
              by_direction message
              (λ same. from_another node.config node.ring node.me moment bytes message e (same ∙ own_id)) (direction_of message.head.cmd)

      -- ---- the turn

      over_keeps : (number : ℕ) (service : Service) (places : List ℕ) (may : List Record) (state : State) → IsPlaced s at_found may state.tickets
          → KeepsHonest s at_found lasts address node.ring may (each_over node moment number service places state)
      over_keeps number service [] may state at = at
      over_keeps number service (p ∷ places) may state at =
          keeps_next s at_found lasts address node.ring (each_over node moment number service places) may (acts node moment state p (ends_job number service))
          (λ later left placed. over_keeps number service places later left placed)
          (over_acts state p may number service at)

      arrived_keeps : (state : State) (arrival : Result Arrival Failed) (bytes : List ℕ) (may : List Record) → IsPlaced s at_found may state.tickets
          → KeepsHonest s at_found lasts address node.ring may (arrived node moment state arrival bytes)
      arrived_keeps state (Ok (arrivals.Datagram from)) bytes may at =
          met_keeps state from (action node moment state.tickets state.common from bytes) may
          (action_honest may state.tickets state.common from bytes at) at
      arrived_keeps state (Ok (arrivals.Handler job status)) bytes may at =
          over_keeps job (service_of status) (all_places state) may state at
      arrived_keeps state (Ok arrivals.Quiet) bytes may at = at
      arrived_keeps state (Ok arrivals.Stop) bytes may at = at
      arrived_keeps state (Err failed) bytes may at = at

      each_keeps : (places : List ℕ) (may : List Record) (state : State) → IsPlaced s at_found may state.tickets
          → KeepsHonest s at_found lasts address node.ring may (each_due node moment places state)
      each_keeps [] may state at = at
      each_keeps (p ∷ places) may state at =
          keeps_next s at_found lasts address node.ring (each_due node moment places) may (acts node moment state p comes_due)
          (λ later left placed. each_keeps places later left placed) (due_acts state p may at)

      dues_keep : (turn : Turn) (may : List Record) (state : State) → IsPlaced s at_found may state.tickets → KeepsHonest s at_found lasts address node.ring may (dues node moment turn state)
      dues_keep Went may state at = each_keeps (due_places moment state.tickets) may state at
      dues_keep Stopped may state at = at

      -- all that a turn tells of the ticket is borne out
      pub turn_honest : (state : State) (arrival : Result Arrival Failed) (bytes : List ℕ) (may : List Record) → IsPlaced s at_found may state.tickets
          → KeepsHonest s at_found lasts address node.ring may (react node state moment arrival bytes)
      turn_honest state arrival bytes may at =
          keeps_next s at_found lasts address node.ring (dues node moment (turn_end arrival)) may
          (arrived node moment (record state { last_reading = moment }) arrival bytes)
          (λ later left placed. dues_keep (turn_end arrival) later left placed)
          (arrived_keeps (record state { last_reading = moment }) arrival bytes may at)
