-- A turn of a node whose configuration lacks a ticket: it keeps no record of it, and tells no member of it.
use Rattle.std.proofs.Common.{◌≡◌, ◌≢◌, ◌⊎◌, inl, inr, ℕ, Bool, List, [], ◌∷◌, set, slice_get, refl, sym, ap, ◌∙◌, subst}
use Rattle.std.specs.Prelude.{Option, Some, None, is_some, Result, Ok, Err}
use Rattle.std.proofs.lemmas.Option.{slice_get_within}
use Rattle.booth_base.specs.declared.address.Peer.{Peer}
use Rattle.booth_base.specs.Tree.{Deeds, Ends, Does, each, ◌>>◌}
use Rattle.booth_chain.proofs.NodesLemmas.{same_or_not, slice_get-set_other, slice_get-set_same}
use Rattle.booth_conf.specs.declared.tickets.GrantKind.{GrantKind}
use Rattle.booth_conf.specs.declared.tickets.GrantKind.TheVariants.{Auto, Manual}
use Rattle.booth_wire.specs.declared.command.Direction.TheVariants.{BetweenMembers}
use Rattle.booth_wire.specs.declared.message.Setup.{Setup}
use Rattle.booth_wire.specs.declared.message.TicketPart.{TicketPart}
use Rattle.booth_wire.specs.Command.{direction_of}
use Rattle.booth_wire.specs.PlainMessage.{PlainMessage, Ticket}
use Rattle.booth_rec.specs.declared.record.Record.{Record}
use Rattle.booth_auth.specs.declared.admission.DropFault.{DropFault}
use Rattle.booth_auth.specs.Verdict.{verdict}
use Rattle.booth_host.specs.declared.host.Arrival.{Arrival}
use Rattle.booth_host.specs.declared.host.Arrival.TheVariants as arrivals
use Rattle.booth_host.specs.declared.host.Failed.{Failed}
use Rattle.booth_raft.specs.declared.view.View.{View}
use Rattle.booth_ticket.specs.declared.handling.Service.{Service}
use Rattle.booth_ticket.specs.declared.waiters.Waiter.{Waiter}
use Rattle.booth_ticket.specs.Handling.{service_of}
use Rattle.booth_ticket.specs.Ticket.{TicketState}
use Rattle.booth_ticket.specs.Waiting.{spare_in, waiting_at}
use Rattle.booth_node.proofs.RoutingLemmas.{attr_to_client}
use Rattle.booth_node.specs.declared.node.Turn.{Turn}
use Rattle.booth_node.specs.declared.node.Turn.TheVariants.{Went, Stopped}
use Rattle.booth_node.specs.declared.node_config.NodeConfig.{NodeConfig}
use Rattle.booth_node.specs.Befalling.{Befalling, comes_due, ends_job, is_told, is_asked}
use Rattle.booth_node.specs.AttributeRequests.{is_ready}
use Rattle.booth_node.specs.Counting.{accepted}
use Rattle.booth_node.specs.Jobs.{job_at}
use Rattle.booth_node.specs.Reaction.{Action, Drops, Hears, Asks, Attends, Answers, Rests, Ask, Send, Keep, Start, action, acts, acts_as, all_places, arrived, befalls, due_places, dues, each_due, each_over, met, react, sends_back, turn_end}
use Rattle.booth_node.specs.State.{State, with_ticket}
use Rattle.booth_world.specs.Rules.{MemberMessage}
use Rattle.booth_world.specs.Turns.{TurnTree, Keeps, AsksElse}
use Rattle.booth_world.proofs.Lists.{some_same}
use Rattle.booth_world.proofs.Mirrors.{Mirrors, mirrors_next}
use Rattle.booth_world.proofs.NodeActions.{AreReplies, Comes, comes}
use Rattle.booth_world.proofs.NodeTrees.{IsFew, Minds, HasSetup, minds_asked, minds_due, minds_heard, minds_over, other_lifted}

-- no ticket of these has the name
abbrev pub Lacks : List ℕ → List TicketState → Type 0
Lacks name tickets = (place : ℕ) (t : TicketState) → slice_get tickets place ≡ Some t → t.setup.ticket ≢ name

-- what a node without the ticket is between its turns
pub record IsWithout (name : List ℕ) (state : State) : Type 0 where
  pub lacks : Lacks name state.tickets
  pub few : IsFew state.common

-- a message says truly whether there is a key, and is no member's message about the ticket
pub record IsUnspoken (name : List ℕ) (node : NodeConfig) (message : PlainMessage) : Type 0 where
  pub truly : message.head.auth ≡ is_some node.ring
  pub unspoken : (part : TicketPart) → direction_of message.head.cmd ≡ BetweenMembers → message.content ≡ Ticket part
      → part.ticket ≡ name → ⊥

-- these deeds keep no record of the ticket, and tell no member of it
abbrev pub Quiet : List ℕ → NodeConfig → Deeds Ask State → Type 0
Quiet name node (Ends state) = IsWithout name state
Quiet name node (Does (Send peer message) go) = IsUnspoken name node message × ((ok : Bool) → Quiet name node (go ok))
Quiet name node (Does (Keep other tried) go) = (other ≢ name) × ((ok : Bool) → Quiet name node (go ok))
Quiet name node (Does (Start job) go) = (ok : Bool) → Quiet name node (go ok)

lacks_set : (name : List ℕ) (tickets : List TicketState) (other : ℕ) (t t' : TicketState) → Lacks name tickets
    → slice_get tickets other ≡ Some t → t'.setup ≡ t.setup → Lacks name (set tickets other t')
lacks_set name tickets other t t' lacks is same place u read = by_place (same_or_not place other)
  where
    by_place : (place ≡ other) ⊎ (place ≢ other) → u.setup.ticket ≢ name
    by_place (inl e) =
        let there : slice_get (set tickets other t') other ≡ Some t' = slice_get-set_same tickets other t' (slice_get_within tickets other t is) in
        let u_is : u ≡ t' = some_same u t' (sym (subst (λ (n : ℕ). slice_get (set tickets other t') n ≡ Some u) e read) ∙ there) in
        λ named. lacks other t is (ap (λ (x : Setup). x.ticket) (sym same) ∙ ap (λ (x : TicketState). x.setup.ticket) (sym u_is) ∙ named)
    by_place (inr apart) = lacks place u (sym (slice_get-set_other tickets other place t' apart) ∙ read)

module _ (s : Setup) (node : NodeConfig) (now : ℕ) where
  abbrev Out : List MemberMessage → State → TurnTree → Type 0
  Out sent state tree = IsWithout s.ticket state

  abbrev Passes : List MemberMessage → Deeds Ask State → TurnTree → Type 0
  Passes sent deeds tree = Mirrors node s Out sent deeds tree

  -- one ticket's deeds
  acts_pass : (state : State) (other : ℕ) (event : Befalling) (sent : List MemberMessage) (tree : TurnTree) → IsWithout s.ticket state
      → ((t : TicketState) (waiters : List Waiter) (spare : ℕ) (ready : GrantKind → Bool) (job : Option ℕ)
      → Minds (HasSetup t.setup now) t.setup.ticket (befalls t waiters spare ready job event now))
      → Passes sent (acts node now state other event) tree
  acts_pass state other event sent tree out minds = by_ticket (slice_get state.tickets other) refl
    where
      by_ticket : (o : Option TicketState) → slice_get state.tickets other ≡ o → Passes sent (acts_as node now state other event o) tree
      by_ticket None is = out
      by_ticket (Some t) is =
          other_lifted s node now Out t.setup.ticket (out.lacks other t is) state.common out.few sent (HasSetup t.setup now)
          (befalls t (waiting_at state.waiters other) (spare_in state.waiters) (is_ready node state.attributes other)
          (job_at node other state.common) event now) tree
          (λ common left. Ends (with_ticket state other common left))
          (minds t (waiting_at state.waiters other) (spare_in state.waiters) (is_ready node state.attributes other) (job_at node other state.common))
          (λ counted left few_now same. record { lacks = lacks_set s.ticket state.tickets other t left.ticket out.lacks is same; few = few_now })

  each_passes : (places : List ℕ) (state : State) (sent : List MemberMessage) (tree : TurnTree) → IsWithout s.ticket state
      → Passes sent (each_due node now places state) tree
  each_passes [] state sent tree out = out
  each_passes (p ∷ places) state sent tree out =
      mirrors_next node s Out Out (each_due node now places) sent (acts node now state p comes_due) tree
      (λ sent' state' tree' m. each_passes places state' sent' tree' m)
      (acts_pass state p comes_due sent tree out (λ t waiters spare ready job. minds_due t.setup now t.known waiters (ready Auto) job))

  dues_pass : (turn : Turn) (state : State) (sent : List MemberMessage) (tree : TurnTree) → IsWithout s.ticket state
      → Passes sent (dues node now turn state) tree
  dues_pass Went state sent tree out = each_passes (due_places now state.tickets) state sent tree out
  dues_pass Stopped state sent tree out = out

  over_passes : (job : ℕ) (service : Service) (places : List ℕ) (state : State) (sent : List MemberMessage) (tree : TurnTree) → IsWithout s.ticket state
      → Passes sent (each_over node now job service places state) tree
  over_passes job service [] state sent tree out = out
  over_passes job service (p ∷ places) state sent tree out =
      mirrors_next node s Out Out (each_over node now job service places) sent (acts node now state p (ends_job job service)) tree
      (λ sent' state' tree' m. over_passes job service places state' sent' tree' m)
      (acts_pass state p (ends_job job service) sent tree out (λ t waiters spare ready next_job. minds_over t.setup now t.known waiters job service))

  met_passes : (r : Result PlainMessage DropFault) (state : State) (from : Peer) (act : Action) (sent : List MemberMessage) (tree : TurnTree)
      → IsWithout s.ticket state → Comes node r act → Passes sent (met node now state from act) tree
  met_passes r state from (Drops fault) sent tree out c = record { lacks = out.lacks; few = out.few }
  met_passes r state from (Hears member ticket head part) sent tree out c =
      acts_pass (accepted state member now) ticket (is_told member head part) sent tree (record { lacks = out.lacks; few = out.few })
      (λ t waiters spare ready job. minds_heard t.setup now t.known waiters member head part)
  met_passes r state from (Asks ticket request) sent tree out c =
      acts_pass state ticket (is_asked request) sent tree out
      (λ t waiters spare ready job. minds_asked t.setup now t.known waiters spare (ready Manual) job request)
  met_passes r state from (Attends ticket request) sent tree out c = (
    record { truly = refl; spoken = λ part between is named. absurd (attr_to_client _ between) },
    λ ok. record { lacks = out.lacks; few = out.few },
  )
  met_passes r state from (Answers messages) sent tree out c = told messages c
    where
      told : (messages : List PlainMessage) → AreReplies node messages
          → Passes sent (each (sends_back from) messages >> Ends state) tree
      told [] all = out
      told (message ∷ messages) all = (
        record { truly = all.0.0; spoken = λ part between is named. absurd (all.0.1 between) },
        λ ok. told messages all.1,
      )
  met_passes r state from Rests sent tree out c = out

  arrived_passes : (state : State) (answer : Result Arrival Failed) (bytes : List ℕ) (sent : List MemberMessage) (tree : TurnTree)
      → IsWithout s.ticket state → Passes sent (arrived node now state answer bytes) tree
  arrived_passes state (Ok (arrivals.Datagram from)) bytes sent tree out =
      met_passes (verdict node.config node.ring node.me now bytes) state from (action node now state.tickets state.common from bytes) sent tree out
      (comes node now state.tickets state.common (verdict node.config node.ring node.me now bytes) from
      (verdict node.config node.ring node.me now bytes) refl)
  arrived_passes state (Ok (arrivals.Handler job status)) bytes sent tree out =
      over_passes job (service_of status) (all_places state) state sent tree out
  arrived_passes state (Ok arrivals.Quiet) bytes sent tree out = out
  arrived_passes state (Ok arrivals.Stop) bytes sent tree out = out
  arrived_passes state (Err failed) bytes sent tree out = out

  reacts_pass : (old : State) (answer : Result Arrival Failed) (bytes : List ℕ) (sent : List MemberMessage) (tree : TurnTree) → IsWithout s.ticket old
      → Passes sent (react node old now answer bytes) tree
  reacts_pass old answer bytes sent tree out =
      mirrors_next node s Out Out (dues node now (turn_end answer)) sent (arrived node now (record old { last_reading = now }) answer bytes) tree
      (λ sent' state' tree' m. dues_pass (turn_end answer) state' sent' tree' m)
      (arrived_passes (record old { last_reading = now }) answer bytes sent tree (record { lacks = out.lacks; few = out.few }))

  -- what mirrors a host that does nothing is quiet
  quiet_of : (view : View) (deeds : Deeds Ask State) → Passes [] deeds (Ends view) → Quiet s.ticket node deeds
  quiet_of view (Ends state) m = m
  quiet_of view (Does (Send peer message) go) m = (
    record { truly = m.0.truly; unspoken = λ part between is named. (m.0.spoken part between is named).3 },
    λ ok. quiet_of view (go ok) (m.1 ok),
  )
  quiet_of view (Does (Keep name tried) go) (inl m) = (m.0, λ ok. quiet_of view (go ok) (m.1 ok))
  quiet_of view (Does (Keep name tried) go) (inr m) = absurd (no_keep view tried m.1 m.2)
    where
      no_keep : (view : View) (tried : Record) (rest : Bool → TurnTree) → Ends view ≡ Does (Keeps tried) rest → ⊥
      no_keep view tried rest e = cc
  quiet_of view (Does (Start job) go) (inl m) = λ ok. quiet_of view (go ok) (m ok)
  quiet_of view (Does (Start job) go) (inr m) = absurd (no_ask view m.0 m.1)
    where
      no_ask : (view : View) (rest : Bool → TurnTree) → Ends view ≡ Does AsksElse rest → ⊥
      no_ask view rest e = cc

  -- so is a turn of a node without the ticket
  pub reacts_quietly : (view : View) (old : State) (answer : Result Arrival Failed) (bytes : List ℕ) → IsWithout s.ticket old
      → Quiet s.ticket node (react node old now answer bytes)
  reacts_quietly view old answer bytes out =
      quiet_of view (react node old now answer bytes) (reacts_pass old answer bytes [] (Ends view) out)
