-- A ticket's tree of deeds in the node's: its own, and another ticket's, which passes by.
use Rattle.std.proofs.Common.{◌≡◌, ◌≢◌, inl, inr, ⊎_elim, ℕ, ◌+◌, ◌-◌, ◌^◌, ◌<◌, Bool, true, false, List, [], ◌∷◌, length, refl, sym, ap, ◌∙◌, subst, arith}
use Rattle.std.specs.Prelude.{◌==◌, ◌&&◌, min, Option, Some, None, slice_get, if◌then◌else◌}
use Rattle.std.proofs.lemmas.Bool.Decides.{nat_tests}
use Rattle.std.proofs.lemmas.Option.{slice_get_within, slice_get_cases}
use Rattle.booth_base.specs.declared.address.Peer.{Peer}
use Rattle.booth_base.specs.Tree.{Deeds, Ends, Does, ◌>>=◌, each, Always}
use Rattle.booth_base.proofs.TreeLemmas.{always_then}
use Rattle.booth_conf.specs.Config.{ConfigSays}
use Rattle.booth_conf.specs.declared.members.Member.{Member as MemberConf}
use Rattle.booth_wire.specs.declared.command.Direction.TheVariants.{BetweenMembers, ToClient}
use Rattle.booth_wire.specs.declared.message.Head.{Head}
use Rattle.booth_wire.specs.declared.message.TicketPart.{TicketPart}
use Rattle.booth_wire.specs.declared.message.Setup.{Setup}
use Rattle.booth_wire.specs.Command.{direction_of}
use Rattle.booth_wire.specs.PlainMessage.{PlainMessage, Ticket}
use Rattle.booth_auth.specs.Sealed.{stamped_head}
use Rattle.booth_raft.specs.declared.view.View.{View}
use Rattle.booth_raft.specs.declared.view.Round.{Round}
use Rattle.booth_wire.specs.declared.command.Cmd.{Cmd}
use Rattle.booth_wire.specs.declared.command.Cmd.TheVariants as cmds
use Rattle.booth_raft.specs.OtherMessages.{hear, is_bound_elsewhere}
use Rattle.booth_raft.specs.Outcome.{quiet}
use Rattle.booth_raft.specs.StartAndLearn.{learned, with_seen}
use Rattle.booth_raft.specs.declared.deed.Told.{Told}
use Rattle.booth_ticket.specs.declared.hands.To.{To}
use Rattle.booth_ticket.specs.declared.hands.To.TheVariants.{Member, Client}
use Rattle.booth_ticket.specs.declared.request.Request.{Request}
use Rattle.booth_ticket.specs.declared.request.Wish.{Wish}
use Rattle.booth_ticket.specs.declared.request.Wish.TheVariants.{Grant, Revoke}
use Rattle.booth_ticket.specs.declared.handling.Service.{Service}
use Rattle.booth_ticket.specs.Acts.{Ask as TicketAsk, Keep as KeepsRecord, Start as StartsJob, Say}
use Rattle.booth_ticket.specs.Requests.{reply_cmd}
use Rattle.booth_ticket.specs.Saying.{others}
use Rattle.booth_ticket.specs.declared.waiters.Waiter.{Waiter}
use Rattle.booth_ticket.specs.Saying.{say_to}
use Rattle.booth_ticket.proofs.WalkLemmas.{Allows, Any, ticket_asked_walks, ticket_due_walks, ticket_heard_walks, ticket_over_walks}
use Rattle.booth_ticket.specs.Waiting.{result_for, tell_one, tell_result}
use Rattle.booth_ticket.specs.Ticket.{TicketLeft, Known, ticket_due, ticket_heard, ticket_asked, ticket_over}
use Rattle.booth_node.specs.declared.node_config.NodeConfig.{NodeConfig}
use Rattle.booth_node.specs.declared.state.Common.{Common}
use Rattle.booth_node.specs.Counting.{count_send}
use Rattle.booth_node.specs.Jobs.{number_after, count_start}
use Rattle.booth_node.specs.Reaction.{Ask, peer_at, peer_of, sent_as, sends, lifted}
use Rattle.booth_world.specs.Facts.{Has}
use Rattle.booth_world.specs.Rules.{MemberMessage}
use Rattle.booth_world.specs.Revocations.{SendsEach}
use Rattle.booth_world.specs.Turns.{TurnTree}
use Rattle.booth_world.proofs.Lists.{none_is}
use Rattle.booth_world.proofs.Mirrors.{later, sent_by, Repeats, IsSpoken, Mirrors}
use Rattle.booth_world.proofs.Echoes.{Echoes, Reaches, SaysEach, others_below}

-- a ticket's deeds at the node, and what follows
abbrev pub lifts : {S : Type 0} → NodeConfig → ℕ → List ℕ → Common → Deeds TicketAsk TicketLeft
    → (Common → TicketLeft → Deeds Ask S) → Deeds Ask S
lifts node now name common deeds rest = lifted node now name common deeds >>= (λ done. rest done.common done.left)

-- the same from a send on, where there is a peer
abbrev pub sends_on : {S : Type 0} → NodeConfig → ℕ → List ℕ → Option Peer → PlainMessage → Common → To
    → (Bool → Deeds TicketAsk TicketLeft) → (Common → TicketLeft → Deeds Ask S) → Deeds Ask S
sends_on node now name peer message common to go rest =
    (sends peer message common to >>= (λ done. lifted node now name done.common (go done.ok)))
    >>= (λ done. rest done.common done.left)

-- a stamp changes nothing of what the rules hear
same_bound : (round : Option Round) (auth : Bool) (time : ℕ) (head : Head) (part : TicketPart)
    → is_bound_elsewhere round (stamped_head auth time head) part ≡ is_bound_elsewhere round head part
same_bound None auth time head part = refl
same_bound (Some round) auth time head part = refl

same_by : (s : Setup) (view : View) (from : ℕ) (auth : Bool) (time : ℕ) (head : Head) (part : TicketPart) (now : ℕ) (cmd : Cmd)
    → hear s view from (stamped_head auth time head) part now cmd ≡ hear s view from head part now cmd
same_by s view from auth time head part now cmds.Rjc =
    ap
    (λ (b : Bool). quiet (learned s (if s.steady && b then with_seen view (min (view.term + 1) 4294967295) else view) part now))
    (same_bound view.round auth time head part)
same_by s view from auth time head part now cmd = refl

pub same_heard : (s : Setup) (view : View) (from : ℕ) (auth : Bool) (time : ℕ) (head : Head) (part : TicketPart) (now : ℕ)
    → hear s view from (stamped_head auth time head) part now head.cmd ≡ hear s view from head part now head.cmd
same_heard s view from auth time head part now = same_by s view from auth time head part now head.cmd

same_part : (a b : TicketPart) → Ticket a ≡ Ticket b → a ≡ b
same_part a b e = cc

-- a member is where a message goes to it
is_member : (config : ConfigSays) (place : ℕ) (peer : Peer) → peer_of config (Member place) ≡ Some peer → place < length config.members
is_member config place peer is = by_member (slice_get config.members place) refl is
  where
    by_member : (o : Option MemberConf) → slice_get config.members place ≡ o → peer_at config o ≡ Some peer → place < length config.members
    by_member None e is = absurd (none_is peer is)
    by_member (Some member) e is = slice_get_within config.members place member e

-- and a member has a place where messages go
has_peer : (config : ConfigSays) (place : ℕ) → place < length config.members → peer_of config (Member place) ≡ None → ⊥
has_peer config place below is = by_member (slice_get config.members place) refl is
  where
    by_member : (o : Option MemberConf) → slice_get config.members place ≡ o → peer_at config o ≡ None → ⊥
    by_member None e none =
        ⊎_elim
        (λ some. none_is some.0 (sym e ∙ some.2))
        (λ past. let out = past.0 in absurd (omega (arith, out, below)))
        (slice_get_cases config.members place).1
    by_member (Some member) e none = none_is _ (sym none)

-- ---- another ticket's deeds

-- what is said is about this ticket, or to a client; and this is so of what is left
abbrev pub IsAbout : List ℕ → To → Head → TicketPart → Type 0
IsAbout name (Member place) head part = part.ticket ≡ name
IsAbout name (Client peer) head part = direction_of head.cmd ≡ ToClient

abbrev pub Minds : {V : Type 0} → (V → Type 0) → List ℕ → Deeds TicketAsk V → Type 0
Minds P name (Ends left) = P left
Minds P name (Does (Say to head part) go) = IsAbout name to head part × Minds P name (go true)
Minds P name (Does (KeepsRecord tried) go) = (ok : Bool) → Minds P name (go ok)
Minds P name (Does (StartsJob job expires) go) = (ok : Bool) → Minds P name (go ok)

-- an ask of a ticket that is about it, or to a client
abbrev AboutAsk : List ℕ → TicketAsk → Type 0
AboutAsk name (KeepsRecord tried) = Unit {0}
AboutAsk name (StartsJob job expires) = Unit {0}
AboutAsk name (Say to head part) = IsAbout name to head part

minds_of : {V : Type 0} (P : V → Type 0) (name : List ℕ) (deeds : Deeds TicketAsk V) → Always (AboutAsk name) P deeds
    → Minds P name deeds
minds_of P name (Ends left) all = all
minds_of P name (Does (Say to head part) go) all = (all.0, minds_of P name (go true) (all.1 true))
minds_of P name (Does (KeepsRecord tried) go) all = λ ok. minds_of P name (go ok) (all.1 ok)
minds_of P name (Does (StartsJob job expires) go) all = λ ok. minds_of P name (go ok) (all.1 ok)

-- those that wait are told, and that is said to clients
told_about : (s : Setup) (part : TicketPart) (told : Told) (waiters : List Waiter)
    → Always (AboutAsk s.ticket) Any (each (tell_one s part told) waiters)
unfolding tell_one say_to
told_about s part told [] = tt
told_about s part told (w ∷ ws) =
    always_then (AboutAsk s.ticket) Any Any (tell_result s part w (result_for told w)) _ (by_result (result_for told w))
    (λ done any. told_about s part told ws)
  where
    by_result : (r : Option ℕ) → Always (AboutAsk s.ticket) Any (tell_result s part w r)
    by_result None = tt
    by_result (Some result) = (refl, λ ok. tt)

about_allowed : (s : Setup) (waiters : List Waiter) → Allows s waiters (AboutAsk s.ticket)
about_allowed s waiters = record {
  keeps = λ tried. tt;
  starts = λ job expires. tt;
  says = λ place head part own. own.ticket;
  tells = λ part told names. told_about s part told waiters;
}

to_client : (wanted : Wish) → direction_of (reply_cmd wanted) ≡ ToClient
to_client Grant = refl
to_client Revoke = refl

module _ (s : Setup) (now : ℕ) where
  -- what is left has the same setup
  abbrev pub HasSetup : TicketLeft → Type 0
  HasSetup left = left.ticket.setup ≡ s

  pub minds_due : (known : Known) (waiters : List Waiter) (ready : Bool) (job : Option ℕ)
      → Minds HasSetup s.ticket (ticket_due s known waiters (record { now = now; ready = ready; job = job }))
  minds_due known waiters ready job =
      minds_of HasSetup s.ticket (ticket_due s known waiters (record { now = now; ready = ready; job = job }))
      (ticket_due_walks s waiters (AboutAsk s.ticket) (about_allowed s waiters) known (record { now = now; ready = ready; job = job }))

  pub minds_over : (known : Known) (waiters : List Waiter) (job : ℕ) (service : Service)
      → Minds HasSetup s.ticket (ticket_over s known waiters job service now)
  minds_over known waiters job service =
      minds_of HasSetup s.ticket (ticket_over s known waiters job service now)
      (ticket_over_walks s waiters (AboutAsk s.ticket) (about_allowed s waiters) known job service now)

  pub minds_heard : (known : Known) (waiters : List Waiter) (from : ℕ) (head : Head) (part : TicketPart)
      → Minds HasSetup s.ticket (ticket_heard s known waiters from head part now)
  minds_heard known waiters from head part =
      minds_of HasSetup s.ticket (ticket_heard s known waiters from head part now)
      (ticket_heard_walks s waiters (AboutAsk s.ticket) (about_allowed s waiters) known from head part now)

  pub minds_asked : (known : Known) (waiters : List Waiter) (spare : ℕ) (ready : Bool) (job : Option ℕ) (request : Request)
      → Minds HasSetup s.ticket (ticket_asked s known waiters spare (record { now = now; ready = ready; job = job }) request)
  minds_asked known waiters spare ready job request =
      minds_of HasSetup s.ticket (ticket_asked s known waiters spare (record { now = now; ready = ready; job = job }) request)
      (ticket_asked_walks s waiters (AboutAsk s.ticket) (about_allowed s waiters) known spare
      (record { now = now; ready = ready; job = job }) request (λ wanted result part names. to_client wanted))

-- ---- a ticket's deeds as the node's

-- the next job's number is one of 64 bits
abbrev pub IsFew : Common → Type 0
IsFew common = common.next_job < 2 ^ 64

few_sent : (common : Common) (to : To) (ok : Bool) → IsFew common → IsFew (count_send common to ok)
few_sent common (Member place) ok few = few
few_sent common (Client peer) ok few = few

few_after : (n : ℕ) → n < 2 ^ 64 → number_after n < 2 ^ 64
few_after n few = by_test (n == 2 ^ 64 - 1) refl
  where
    by_test : (b : Bool) → (n == 2 ^ 64 - 1) ≡ b → (if b then 1 else n + 1) < 2 ^ 64
    by_test true is = omega arith
    by_test false is = let other : n ≢ 2 ^ 64 - 1 = grind (arith, nat_tests) in omega (arith, other, few)

module _ (s : Setup) (node : NodeConfig) (now : ℕ) {S : Type 0} (Q : List MemberMessage → S → TurnTree → Type 0) where
  abbrev Mirror : List MemberMessage → Deeds Ask S → TurnTree → Type 0
  Mirror sent deeds tree = Mirrors node s Q sent deeds tree

  said_own : (sent : List MemberMessage) (head : Head) (part : TicketPart) → Has sent (record { sender = s.place; head = head; part = part })
      → IsSpoken node s sent (sent_as node now head part)
  said_own sent head part h = record {
    truly = refl;
    spoken = λ other between is named. (
      head,
      now,
      refl,
      subst (λ (p : TicketPart). Has sent (record { sender = s.place; head = head; part = p })) (same_part part other is) h,
    );
  }

  said_client : (sent : List MemberMessage) (head : Head) (part : TicketPart) → direction_of head.cmd ≡ ToClient
      → IsSpoken node s sent (sent_as node now head part)
  said_client sent head part client = record { truly = refl; spoken = λ other between is named. absurd (never (sym client ∙ between)) }
    where
      never : ToClient ≡ BetweenMembers → ⊥
      never e = cc

  said_other : (sent : List MemberMessage) (head : Head) (part : TicketPart) (name : List ℕ) → name ≢ s.ticket → part.ticket ≡ name
      → IsSpoken node s sent (sent_as node now head part)
  said_other sent head part name other about = record {
    truly = refl;
    spoken = λ (p : TicketPart) between is named.
        absurd (other (sym about ∙ ap (λ (q : TicketPart). q.ticket) (same_part part p is) ∙ named));
  }

  -- what the ticket says to each of these members, the node sends to each
  lifted_says : (places : List ℕ) (common : Common) (message : MemberMessage) (deeds : Deeds TicketAsk TicketLeft) (rest : Common → TicketLeft → Deeds Ask S)
      → ((place : ℕ) → Has places place → place < length node.config.members)
      → SaysEach s places message.head message.part deeds
      → SendsEach node.config places (Repeats message) (lifts node now s.ticket common deeds rest)
  lifted_says [] common message deeds rest below x = tt
  lifted_says (place ∷ places) common message (Ends left) rest below x = absurd x
  lifted_says (place ∷ places) common message (Does (KeepsRecord tried) go) rest below x = absurd x
  lifted_says (place ∷ places) common message (Does (StartsJob job expires) go) rest below x = absurd x
  lifted_says (place ∷ places) common message (Does (Say to head part) go) rest below x =
      subst (λ (t : To). SendsEach node.config (place ∷ places) (Repeats message)
      (sends_on node now s.ticket (peer_of node.config t) (sent_as node now head part) common t go rest)) (sym x.0)
      (by_peer (peer_of node.config (Member place)) refl
      (λ ok. lifted_says places (count_send common (Member place) ok) message (go true) rest (λ p h. below p (inr h)) x.3))
    where
      by_peer : (o : Option Peer) → peer_of node.config (Member place) ≡ o
          → ((ok : Bool) → SendsEach node.config places (Repeats message)
          (lifts node now s.ticket (count_send common (Member place) ok) (go true) rest))
          → SendsEach node.config (place ∷ places) (Repeats message)
          (sends_on node now s.ticket o (sent_as node now head part) common (Member place) go rest)
      by_peer None is others_too = absurd (has_peer node.config place (below place (inl refl)) is)
      by_peer (Some peer) is others_too = (
        is,
        (ap (λ (h : Head). h.cmd) x.1, ap (λ (p : TicketPart). Ticket p) x.2),
        others_too,
      )

  pub own_lifted : s.members ≡ length node.config.members → (common : Common) → IsFew common → (sent : List MemberMessage)
      (deeds : Deeds TicketAsk TicketLeft) (tree : TurnTree) (rest : Common → TicketLeft → Deeds Ask S)
      → Echoes s (λ sent' left tree'. (counted : Common) → IsFew counted → Mirror sent' (rest counted left) tree') sent deeds tree
      → Mirror sent (lifts node now s.ticket common deeds rest) tree
  own_lifted all common few sent (Ends left) tree rest m = m common few
  own_lifted all common few sent (Does (KeepsRecord tried) go) tree rest m =
      inr (
        refl,
        m.0,
        m.1,
        (λ ok. own_lifted all common few (sent_by tree sent) (go ok) (m.0 ok) rest (m.2 ok)),
        λ others_are message more is revokes.
            let told = m.3 others_are message more is revokes in (
              told.0,
              lifted_says (others s) common message (go true) rest
                  (λ place h. subst (λ (n : ℕ). place < n) all (others_below s place h)) told.1,
            ),
      )
  own_lifted all common few sent (Does (StartsJob job expires) go) tree rest m =
      inr (
        m.0,
        m.1,
        λ ok. (
          (m.2 ok).0,
          own_lifted all (count_start common) (few_after common.next_job few) (sent_by tree sent) (go ok)
              (later (m.2 ok).0 (m.0 ok)) rest (m.2 ok).1,
        ),
      )
  own_lifted all common few sent (Does (Say to head part) go) tree rest m =
      by_peer (peer_of node.config to) refl (λ counted few_now. own_lifted all counted few_now sent (go true) tree rest m.1)
    where
      spoken_to : (t : To) (peer : Peer) → peer_of node.config t ≡ Some peer → Reaches s (sent_by tree sent) t head part
          → IsSpoken node s (sent_by tree sent) (sent_as node now head part)
      spoken_to (Member place) peer is reaches =
          said_own (sent_by tree sent) head part
          (reaches (subst (λ (n : ℕ). place < n) (sym all) (is_member node.config place peer is)))
      spoken_to (Client from) peer is reaches = said_client (sent_by tree sent) head part reaches

      by_peer : (o : Option Peer) → peer_of node.config to ≡ o
          → ((counted : Common) → IsFew counted → Mirror sent (lifts node now s.ticket counted (go true) rest) tree)
          → Mirror sent (sends_on node now s.ticket o (sent_as node now head part) common to go rest) tree
      by_peer None is on = on common few
      by_peer (Some peer) is on = (spoken_to to peer is m.0, λ ok. on (count_send common to ok) (few_sent common to ok few))

  pub other_lifted : (name : List ℕ) → name ≢ s.ticket → (common : Common) → IsFew common → (sent : List MemberMessage) (P : TicketLeft → Type 0)
      (deeds : Deeds TicketAsk TicketLeft) (tree : TurnTree) (rest : Common → TicketLeft → Deeds Ask S)
      → Minds P name deeds
      → ((counted : Common) (left : TicketLeft) → IsFew counted → P left → Mirror sent (rest counted left) tree)
      → Mirror sent (lifts node now name common deeds rest) tree
  other_lifted name other common few sent P (Ends left) tree rest m on = on common left few m
  other_lifted name other common few sent P (Does (KeepsRecord tried) go) tree rest m on =
      inl (other, λ ok. other_lifted name other common few sent P (go ok) tree rest (m ok) on)
  other_lifted name other common few sent P (Does (StartsJob job expires) go) tree rest m on =
      inl (λ ok. other_lifted name other (count_start common) (few_after common.next_job few) sent P (go ok) tree rest (m ok) on)
  other_lifted name other common few sent P (Does (Say to head part) go) tree rest m on =
      by_peer (peer_of node.config to) (λ counted few_now. other_lifted name other counted few_now sent P (go true) tree rest m.1 on)
    where
      spoken_to : (t : To) → IsAbout name t head part → IsSpoken node s (sent_by tree sent) (sent_as node now head part)
      spoken_to (Member place) about = said_other (sent_by tree sent) head part name other about
      spoken_to (Client from) client = said_client (sent_by tree sent) head part client

      by_peer : (o : Option Peer) → ((counted : Common) → IsFew counted → Mirror sent (lifts node now name counted (go true) rest) tree)
          → Mirror sent (sends_on node now name o (sent_as node now head part) common to go rest) tree
      by_peer None on_rest = on_rest common few
      by_peer (Some peer) on_rest = (spoken_to to m.0, λ ok. on_rest (count_send common to ok) (few_sent common to ok few))
