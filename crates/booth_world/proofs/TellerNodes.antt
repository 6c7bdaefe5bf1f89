-- What a node tells of an automatic ticket's deeds, and of others', is borne out by the records that may be kept then.
use Rattle.std.proofs.Common.{Bool, List, [], ap, arith, false, inl, inr, refl, set, slice_get, subst, sym, true, ℕ, ◌/◌, ◌<◌, ◌∙◌, ◌∷◌, ◌≡◌, ◌≢◌, ◌⊎◌}
use Rattle.std.specs.Prelude.{Option, Some, None}
use Rattle.std.proofs.lemmas.Option.{slice_get_within}
use Rattle.booth_keys.specs.declared.ring.Ring.{Ring}
use Rattle.booth_base.specs.declared.address.Address.{Address}
use Rattle.booth_base.specs.declared.address.Peer.{Peer}
use Rattle.booth_base.specs.Tree.{Deeds, Ends, Does, ◌>>=◌, each, Always, ◌>>◌}
use Rattle.booth_base.proofs.TreeLemmas.{always_then}
use Rattle.booth_chain.proofs.NodesLemmas.{same_or_not, slice_get-set_other, slice_get-set_same}
use Rattle.booth_rec.specs.declared.record.Record.{Record}
use Rattle.booth_rec.specs.Record.{lease_end}
use Rattle.booth_wire.specs.declared.message.Head.{Head}
use Rattle.booth_wire.specs.declared.message.TicketPart.{TicketPart}
use Rattle.booth_wire.specs.declared.message.Setup.{Setup}
use Rattle.booth_raft.specs.declared.deed.Told.{Told}
use Rattle.booth_ticket.specs.declared.waiters.Waiter.{Waiter}
use Rattle.booth_ticket.specs.Acts.{Ask as TicketAsk, Keep as KeepsRecord, Start as StartsJob, Say}
use Rattle.booth_ticket.specs.Saying.{say_to}
use Rattle.booth_ticket.specs.Ticket.{TicketState, TicketLeft}
use Rattle.booth_ticket.specs.Waiting.{result_for, tell_one, tell_result}
use Rattle.booth_ticket.proofs.WalkLemmas.{Allows, Any}
use Rattle.booth_node.specs.declared.node_config.NodeConfig.{NodeConfig}
use Rattle.booth_node.specs.declared.state.Common.{Common}
use Rattle.booth_node.specs.Counting.{count_send}
use Rattle.booth_node.specs.Jobs.{job_of, count_start}
use Rattle.booth_node.specs.Reaction.{Ask, Send, Keep, Start, peer_of, sent_as}
use Rattle.booth_node.specs.State.{State, with_ticket}
use Rattle.booth_world.specs.Tellers.{Claim, IsGranted, HasLeft, EndsIn, IsListed, BearsOut, HasNone, PartTells}
use Rattle.booth_world.proofs.Lists.{some_same}
use Rattle.booth_world.proofs.NodeTrees.{lifts, sends_on}
use Rattle.booth_world.proofs.TellerClaims.{IsBacked, IsHonestJob, IsHonestMessage, IsOwn, IsPlaced, Teller, in_lease, same_part, told_of_ticket}
use Rattle.booth_world.proofs.TellerSteps.{Honest, IsHonestLeft, IsTrueJob, IsTrueOf}

-- ---- what other tickets ask

-- what is said names this ticket
abbrev pub Names : List ℕ → TicketAsk → Type 0
Names name (KeepsRecord tried) = Unit {0}
Names name (StartsJob job expires) = Unit {0}
Names name (Say to head part) = part.ticket ≡ name

told_names : (s : Setup) (part : TicketPart) (told : Told) (waiters : List Waiter) → part.ticket ≡ s.ticket
    → Always (Names s.ticket) Any (each (tell_one s part told) waiters)
unfolding tell_one say_to
told_names s part told [] names = tt
told_names s part told (w ∷ ws) names =
    always_then (Names s.ticket) Any Any (tell_result s part w (result_for told w)) _ (by_result (result_for told w))
    (λ done any. told_names s part told ws names)
  where
    by_result : (r : Option ℕ) → Always (Names s.ticket) Any (tell_result s part w r)
    by_result None = tt
    by_result (Some result) = (names, λ ok. tt)

pub names_allowed : (s : Setup) (waiters : List Waiter) → Allows s waiters (Names s.ticket)
names_allowed s waiters = record {
  keeps = λ tried. tt;
  starts = λ job expires. tt;
  says = λ place head part own. own.ticket;
  tells = λ part told names. told_names s part told waiters names;
}

-- ---- the node's deeds

module _ (s : Setup) (at_found : Option ℕ) (lasts : 0 < s.times.expire) (address : Address) where
  abbrev pub by : Teller
  by = record { name = s.ticket; me = s.me; address = address }

  -- All that the node tells of the ticket is borne out by the records that may be kept then.
  abbrev pub KeepsHonest : Option Ring → List Record → Deeds Ask State → Type 0
  KeepsHonest ring may (Ends state) = IsPlaced s at_found may state.tickets
  KeepsHonest ring may (Does (Send peer message) go) =
      IsHonestMessage by ring may message × ((ok : Bool) → KeepsHonest ring may (go ok))
  KeepsHonest ring may (Does (Keep ticket_name tried) go) =
      ((ticket_name ≢ s.ticket) × ((ok : Bool) → KeepsHonest ring may (go ok)))
      ⊎ ((ticket_name ≡ s.ticket) × KeepsHonest ring (tried ∷ []) (go true) × KeepsHonest ring (tried ∷ may) (go false))
  KeepsHonest ring may (Does (Start job) go) = IsHonestJob s.ticket may job × ((ok : Bool) → KeepsHonest ring may (go ok))

  pub keeps_next : (ring : Option Ring) (f : State → Deeds Ask State) (may : List Record) (deeds : Deeds Ask State)
      → ((later : List Record) (state : State) → IsPlaced s at_found later state.tickets → KeepsHonest ring later (f state))
      → KeepsHonest ring may deeds → KeepsHonest ring may (deeds >>= f)
  keeps_next ring f may (Ends state) on h = on may state h
  keeps_next ring f may (Does (Send peer message) go) on h = (h.0, λ ok. keeps_next ring f may (go ok) on (h.1 ok))
  keeps_next ring f may (Does (Keep ticket_name tried) go) on (inl h) = inl (h.0, λ ok. keeps_next ring f may (go ok) on (h.1 ok))
  keeps_next ring f may (Does (Keep ticket_name tried) go) on (inr h) =
      inr (h.0, keeps_next ring f (tried ∷ []) (go true) on h.1, keeps_next ring f (tried ∷ may) (go false) on h.2)
  keeps_next ring f may (Does (Start job) go) on h = (h.0, λ ok. keeps_next ring f may (go ok) on (h.1 ok))

  module _ (node : NodeConfig) (moment : ℕ) where
    -- ---- its own deeds

    pub own_message : (may : List Record) (head : Head) (part : TicketPart) → IsTrueOf s moment may head part
        → IsHonestMessage by node.ring may (sent_as node moment head part)
    own_message may head part so =
        told_of_ticket by node.ring may (sent_as node moment head part) part refl refl
        (λ claim tells. by_claim tells.0 (same_part part tells.0 tells.1) claim tells.2)
      where
        by_claim : (found : TicketPart) → part ≡ found → (claim : Claim) → PartTells s.ticket s.me (sent_as node moment head part).head found claim → IsBacked may claim
        by_claim own_part same (IsGranted found) t =
            let k = so.1 t.2 t.3 in (
              k.0,
              k.1,
              in_lease (BearsOut (IsGranted found)) k.0.lease (let later = k.2 in omega (arith, later))
                  (moment, (ap (λ (h : Head). h.secs) (sym t.1), ap (λ (h : Head). h.usecs) (sym t.1)), k.2),
            )
        by_claim own_part same (HasLeft found seconds) t =
            let k = so.0 (ap (λ (p : TicketPart). p.leader) same ∙ t.2)
            (subst (λ (n : ℕ). 0 < n) (sym t.3 ∙ ap (λ (p : TicketPart). p.valid_for) (sym same)) t.4) in (
              k.0,
              k.1,
              in_lease (BearsOut (HasLeft found seconds)) k.0.lease (let later = k.2 in omega (arith, later)) (
                moment,
                (ap (λ (h : Head). h.secs) (sym t.1), ap (λ (h : Head). h.usecs) (sym t.1)),
                k.2,
                sym t.3 ∙ ap (λ (p : TicketPart). p.valid_for) (sym same) ∙ k.3,
              ),
            )
        by_claim own_part same (EndsIn second) t = absurd t
        by_claim own_part same (IsListed digits) t = absurd t

    own_job : (may : List Record) (number expires : ℕ) → IsTrueJob may expires → IsHonestJob s.ticket may (job_of node s.ticket number expires)
    own_job may number expires so (IsGranted head) t = absurd t
    own_job may number expires so (HasLeft head seconds) t = absurd t
    own_job may number expires so (IsListed digits) t = absurd t
    own_job may number expires so (EndsIn second) t =
        let k = so (subst (λ (n : ℕ). 0 < n) (sym t.1) t.2) in
        let ends : lease_end k.0.lease / 1000 ≡ second = k.2 ∙ t.1 in
        let some : 0 < second = t.2 in
        (k.0, k.1, in_lease (BearsOut (EndsIn second)) k.0.lease (omega (arith, ends, some)) ends)

    pub own_keeps : (may : List Record) (common : Common) (deeds : Deeds TicketAsk TicketLeft) (rest : Common → TicketLeft → Deeds Ask State)
        → Honest s moment (IsHonestLeft s) may deeds
        → ((later : List Record) (counted : Common) (left : TicketLeft) → IsHonestLeft s later left → KeepsHonest node.ring later (rest counted left))
        → KeepsHonest node.ring may (lifts node moment s.ticket common deeds rest)
    own_keeps may common (Ends left) rest h on = on may common left h
    own_keeps may common (Does (KeepsRecord tried) go) rest h on =
        inr (refl, own_keeps (tried ∷ []) common (go true) rest h.0 on, own_keeps (tried ∷ may) common (go false) rest h.1 on)
    own_keeps may common (Does (StartsJob job expires) go) rest h on =
        (own_job may job expires h.0, λ ok. own_keeps may (count_start common) (go ok) rest (h.1 ok) on)
    own_keeps may common (Does (Say to head part) go) rest h on =
        by_peer (peer_of node.config to) (λ counted. own_keeps may counted (go true) rest h.1 on)
      where
        by_peer : (o : Option Peer) → ((counted : Common) → KeepsHonest node.ring may (lifts node moment s.ticket counted (go true) rest))
            → KeepsHonest node.ring may (sends_on node moment s.ticket o (sent_as node moment head part) common to go rest)
        by_peer None more = more common
        by_peer (Some peer) more = (own_message may head part h.0, λ ok. more (count_send common to ok))

    -- ---- another ticket's deeds

    other_message : (name : List ℕ) → name ≢ s.ticket → (may : List Record) (head : Head) (part : TicketPart) → part.ticket ≡ name
        → IsHonestMessage by node.ring may (sent_as node moment head part)
    other_message name other may head part names =
        told_of_ticket by node.ring may (sent_as node moment head part) part refl refl
        (λ claim tells. by_claim tells.0 (same_part part tells.0 tells.1) claim tells.2)
      where
        by_claim : (found : TicketPart) → part ≡ found → (claim : Claim) → PartTells s.ticket s.me (sent_as node moment head part).head found claim → IsBacked may claim
        by_claim own_part same (IsGranted found) t = absurd (other (sym names ∙ ap (λ (p : TicketPart). p.ticket) same ∙ t.0))
        by_claim own_part same (HasLeft found seconds) t = absurd (other (sym names ∙ ap (λ (p : TicketPart). p.ticket) same ∙ t.0))
        by_claim own_part same (EndsIn second) t = absurd t
        by_claim own_part same (IsListed digits) t = absurd t

    other_job : (name : List ℕ) → name ≢ s.ticket → (may : List Record) (number expires : ℕ)
        → IsHonestJob s.ticket may (job_of node name number expires)
    other_job name other may number expires (IsGranted head) t = absurd t
    other_job name other may number expires (HasLeft head seconds) t = absurd t
    other_job name other may number expires (IsListed digits) t = absurd t
    other_job name other may number expires (EndsIn second) t = absurd (other t.0)

    pub other_keeps : (name : List ℕ) → name ≢ s.ticket → (may : List Record) (common : Common) (P : TicketLeft → Type 0) (deeds : Deeds TicketAsk TicketLeft)
        (rest : Common → TicketLeft → Deeds Ask State)
        → Always (Names name) P deeds → ((counted : Common) (left : TicketLeft) → P left → KeepsHonest node.ring may (rest counted left))
        → KeepsHonest node.ring may (lifts node moment name common deeds rest)
    other_keeps name other may common P (Ends left) rest m on = on common left m
    other_keeps name other may common P (Does (KeepsRecord tried) go) rest m on =
        inl (other, λ ok. other_keeps name other may common P (go ok) rest (m.1 ok) on)
    other_keeps name other may common P (Does (StartsJob job expires) go) rest m on =
        (other_job name other may job expires, λ ok. other_keeps name other may (count_start common) P (go ok) rest (m.1 ok) on)
    other_keeps name other may common P (Does (Say to head part) go) rest m on =
        by_peer (peer_of node.config to) (λ counted. other_keeps name other may counted P (go true) rest (m.1 true) on)
      where
        by_peer : (o : Option Peer) → ((counted : Common) → KeepsHonest node.ring may (lifts node moment name counted (go true) rest))
            → KeepsHonest node.ring may (sends_on node moment name o (sent_as node moment head part) common to go rest)
        by_peer None more = more common
        by_peer (Some peer) more = (other_message name other may head part m.0, λ ok. more (count_send common to ok))

    -- ---- what a ticket left stands in its place

    -- a ticket was put at a place that has the setup of the one before it: what is so of each name still is
    names_stay : (Q : ℕ → List ℕ → Type 0) (tickets : List TicketState) (at_place : ℕ) (t new : TicketState) → slice_get tickets at_place ≡ Some t
        → new.setup ≡ t.setup → ((other : ℕ) (u : TicketState) → slice_get tickets other ≡ Some u → Q other u.setup.ticket)
        → (other : ℕ) (u : TicketState) → slice_get (set tickets at_place new) other ≡ Some u → Q other u.setup.ticket
    names_stay Q tickets at_place t new is same so other u read = by_place (same_or_not other at_place)
      where
        by_place : (other ≡ at_place) ⊎ (other ≢ at_place) → Q other u.setup.ticket
        by_place (inl e) =
            let there : slice_get (set tickets at_place new) at_place ≡ Some new =
            slice_get-set_same tickets at_place new (slice_get_within tickets at_place t is) in
            let u_is : u ≡ new =
            some_same u new (sym (subst (λ (n : ℕ). slice_get (set tickets at_place new) n ≡ Some u) e read) ∙ there) in
            subst (λ (n : ℕ). Q n u.setup.ticket) (sym e)
            (subst (λ (name : List ℕ). Q at_place name) (sym (ap (λ (x : TicketState). x.setup.ticket) u_is ∙ ap (λ (x : Setup). x.ticket) same))
            (so at_place t is))
        by_place (inr apart) = so other u (sym (slice_get-set_other tickets at_place other new apart) ∙ read)

    others_stay : (may : List Record) (tickets : List TicketState) (at_place : ℕ) (t new : TicketState) → IsPlaced s at_found may tickets
        → slice_get tickets at_place ≡ Some t → new.setup ≡ t.setup
        → (other : ℕ) (u : TicketState) → slice_get (set tickets at_place new) other ≡ Some u → at_found ≢ Some other → u.setup.ticket ≢ s.ticket
    others_stay may tickets at_place t new at is same =
        names_stay (λ other name. at_found ≢ Some other → name ≢ s.ticket) tickets at_place t new is same at.others

    named_stay : (may : List Record) (tickets : List TicketState) (at_place : ℕ) (t new : TicketState) → IsPlaced s at_found may tickets
        → slice_get tickets at_place ≡ Some t → new.setup ≡ t.setup
        → (other : ℕ) (u : TicketState) → slice_get (set tickets at_place new) other ≡ Some u → HasNone 10 u.setup.ticket × HasNone 32 u.setup.ticket
    named_stay may tickets at_place t new at is same =
        names_stay (λ other name. HasNone 10 name × HasNone 32 name) tickets at_place t new is same at.named

    pub own_left : (state : State) (place : ℕ) (may later : List Record) (counted : Common) (left : TicketLeft) → IsPlaced s at_found may state.tickets
        → at_found ≡ Some place → IsHonestLeft s later left
        → IsPlaced s at_found later (with_ticket state place counted left).tickets
    own_left state place may later counted left at here h =
        let old : IsOwn s at_found place may state.tickets = at.own place here in
        let new : IsOwn s at_found place later (with_ticket state place counted left).tickets = record {
          known = left.ticket.known;
          own = slice_get-set_same state.tickets place left.ticket (slice_get_within state.tickets place _ old.own)
              ∙ ap (λ (x : Setup). Some (record { setup = x; known = left.ticket.known })) h.0;
          honest = h.1;
        } in
        record {
          own = λ p e. subst (λ (n : ℕ). IsOwn s at_found n later (with_ticket state place counted left).tickets) (some_same place p (sym here ∙ e)) new;
          others = others_stay may state.tickets place (record { setup = s; known = old.known }) left.ticket at old.own h.0;
          named = named_stay may state.tickets place (record { setup = s; known = old.known }) left.ticket at old.own h.0;
          clear = at.clear;
        }

    pub other_left : (state : State) (other : ℕ) (may : List Record) (t : TicketState) (counted : Common) (left : TicketLeft) → IsPlaced s at_found may state.tickets
        → slice_get state.tickets other ≡ Some t → at_found ≢ Some other → left.ticket.setup ≡ t.setup
        → IsPlaced s at_found may (with_ticket state other counted left).tickets
    other_left state other may t counted left at is ne same = record {
      own = λ p e. let old : IsOwn s at_found p may state.tickets = at.own p e in
          record {
            known = old.known;
            own = slice_get-set_other state.tickets other p left.ticket (λ q. ne (e ∙ ap (λ (n : ℕ). Some n) q)) ∙ old.own;
            honest = old.honest;
          };
      others = others_stay may state.tickets other t left.ticket at is same;
      named = named_stay may state.tickets other t left.ticket at is same;
      clear = at.clear;
    }
