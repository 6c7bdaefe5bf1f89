-- What every turn leaves as it was: the tickets' setups and the counts of drops; and whom it reaches.
use Rattle.std.proofs.Common.{◌≡◌, ◌⊎◌, inl, inr, ℕ, ◌+◌, Bool, List, [], ◌∷◌, ◌++◌, slice_get, refl, sym, ap, ◌∙◌, subst}
use Rattle.std.specs.Prelude.{Option, Some, None}
use Rattle.booth_base.specs.Tree.{Ends, Leads}
use Rattle.booth_base.proofs.TreeLemmas.{Split, at_end, split}
use Rattle.booth_conf.specs.declared.tickets.GrantKind.{GrantKind}
use Rattle.booth_host.specs.declared.entry.Entry.{Entry}
use Rattle.booth_ticket.specs.declared.handling.Service.{Service}
use Rattle.booth_ticket.specs.Acts.{Act, IsAct}
use Rattle.booth_ticket.specs.declared.waiters.Waiter.{Waiter}
use Rattle.booth_ticket.specs.Ticket.{TicketState, TicketLeft}
use Rattle.booth_ticket.specs.Waiting.{spare_in, waiting_at}
use Rattle.booth_node.specs.declared.event.Event.{Event}
use Rattle.booth_node.specs.declared.event.Event.TheVariants.{Due, Over}
use Rattle.booth_node.specs.declared.node.Turn.{Turn}
use Rattle.booth_node.specs.declared.node.Turn.TheVariants.{Went, Stopped}
use Rattle.booth_node.specs.declared.node_config.NodeConfig.{NodeConfig}
use Rattle.booth_node.specs.declared.state.Common.{Common}
use Rattle.booth_node.specs.Calls.{IsAmong, IsToldIn, ReachesWaiters}
use Rattle.booth_node.specs.Jobs.{job_at}
use Rattle.booth_node.specs.Opening.{AreSetUp}
use Rattle.booth_node.specs.AttributeRequests.{is_ready}
use Rattle.booth_node.specs.Reaction.{IsDone, acts, acts_as, befalls, dues, due_places, each_due, each_over}
use Rattle.booth_node.specs.State.{State, with_ticket}
use Rattle.booth_node.proofs.DueLemmas.{Each}
use Rattle.booth_node.proofs.PathLemmas.{Seen, path_of}
use Rattle.booth_node.proofs.ReachLemmas.{IsTold, Remembers, Tells, each_joined}
use Rattle.booth_node.proofs.TalkLemmas.{due_among, over_among, setup_stays}
use Rattle.booth_node.proofs.SetupLemmas.{set_up_at, set_up_kept}
use Rattle.booth_node.proofs.WaiterLemmas.{all_among, told_in, AllRemember, remember_on, remember_at, AllFewer, fewer_at, each_fewer}

-- ---- a ticket among the others

-- these calls of the node reach members and those that wait alone, nobody waits that did not, nobody is forgotten, the
-- setups stay, and no drop is counted
pub record Stays (node : NodeConfig) (state after : State) (es : List Entry) : Type 0 where
  pub set_up : AreSetUp node after
  pub undropped : after.common.drops ≡ state.common.drops
  pub among : Each (ReachesWaiters node state.waiters) es
  pub fewer : AllFewer state.waiters after.waiters
  pub remember : AllRemember node state.waiters after.waiters es

pub stays_here : (node : NodeConfig) (state after : State) (es : List Entry) → AreSetUp node state
    → Leads (IsDone node.ring) (Ends state) es (Ends after) → Stays node state after es
stays_here node state after es set_up leads =
    let over = at_end (IsDone node.ring) state after es leads in
    subst (λ (l : List Entry). Stays node state after l) (sym over.0)
    (subst (λ (s : State). Stays node state s []) (sym over.1)
    (record { set_up = set_up; undropped = refl; among = tt; fewer = λ place w h. h; remember = λ place w h. inl h }))

pub stays_on : (node : NodeConfig) (a b c : State) (xs ys es : List Entry) → es ≡ xs ++ ys → Stays node a b xs
    → Stays node b c ys → Stays node a c es
stays_on node a b c xs ys es whole first later =
    subst (λ (l : List Entry). Stays node a c l) (sym whole) (record {
      set_up = later.set_up;
      undropped = later.undropped ∙ first.undropped;
      among = each_joined (ReachesWaiters node a.waiters) xs ys first.among
          (each_fewer node a.waiters b.waiters ys first.fewer later.among);
      fewer = λ place w h. first.fewer place w (later.fewer place w h);
      remember = remember_on node a.waiters b.waiters c.waiters xs ys (xs ++ ys) refl first.remember
          later.remember;
    })

-- what the ticket at a place did, as it did it
pub record Acted (node : NodeConfig) (now : ℕ) (state : State) (place : ℕ) (event : Event)
    (ticket : TicketState)
    (es : List Entry) (after : State) : Type 0 where
  pub did : List Act
  pub left : TicketLeft
  pub common : Common
  pub leads : Leads IsAct
      (befalls ticket (waiting_at state.waiters place) (spare_in state.waiters)
      (is_ready node state.attributes place) (job_at node place state.common) event
      now) did (Ends left)
  pub seen : Seen node now ticket.setup.ticket did es
  pub undropped : common.drops ≡ state.common.drops
  pub is : after ≡ with_ticket state place common left

pub acted_at : (node : NodeConfig) (now : ℕ) (state : State) (place : ℕ) (event : Event)
    (ticket : TicketState)
    (es : List Entry) (after : State) → slice_get state.tickets place ≡ Some ticket
    → Leads (IsDone node.ring) (acts node now state place event) es (Ends after)
    → Acted node now state place event ticket es after
acted_at node now state place event ticket es after there leads =
    let p =
    path_of node now ticket.setup.ticket (λ common left. with_ticket state place common left) after
    (befalls ticket (waiting_at state.waiters place) (spare_in state.waiters)
    (is_ready node state.attributes place) (job_at node place state.common) event
    now) state.common es
    (subst (λ (o : Option TicketState). Leads (IsDone node.ring) (acts_as node now state place event o) es
    (Ends after)) there leads) in
    record {
      did = p.acts;
      left = p.left;
      common = p.after;
      leads = p.leads;
      seen = p.seen;
      undropped = p.undropped;
      is = p.ends;
    }

pub acted_set_up : (node : NodeConfig) (now : ℕ) (state : State) (place : ℕ) (event : Event)
    (ticket : TicketState)
    (es : List Entry) (after : State) → AreSetUp node state → slice_get state.tickets place ≡ Some ticket
    → Acted node now state place event ticket es after → AreSetUp node after
acted_set_up node now state place event ticket es after set_up there acted =
    subst (λ (s : State). AreSetUp node s) (sym acted.is)
    (set_up_kept node state place ticket acted.left acted.common set_up there
    (setup_stays ticket acted.left (waiting_at state.waiters place) (spare_in state.waiters)
    (is_ready node state.attributes place) (job_at node place state.common) now acted.did event acted.leads))

pub acted_undropped : (node : NodeConfig) (now : ℕ) (state : State) (place : ℕ) (event : Event)
    (ticket : TicketState)
    (es : List Entry) (after : State) → Acted node now state place event ticket es after
    → after.common.drops ≡ state.common.drops
acted_undropped node now state place event ticket es after acted =
    ap (λ (s : State). s.common.drops) acted.is ∙ acted.undropped

-- who waited for the ticket does so still, or was told, and who waits for another is not touched
pub acted_remember : (node : NodeConfig) (now : ℕ) (state : State) (place : ℕ) (event : Event)
    (ticket : TicketState)
    (es : List Entry) (after : State) → AreSetUp node state → slice_get state.tickets place ≡ Some ticket
    → (acted : Acted node now state place event ticket es after)
    → Remembers ticket.setup (waiting_at state.waiters place) acted.left.waiters acted.did
    → AllRemember node state.waiters after.waiters es
acted_remember node now state place event ticket es after set_up is acted remembers =
    subst (λ (s : State). AllRemember node state.waiters s.waiters es) (sym acted.is)
    (remember_at (λ p w. IsToldIn node p w es) state.waiters place acted.left.waiters
    (λ w h. seen_so w (remembers w h)))
  where
    seen_so : (w : Waiter) → IsAmong w acted.left.waiters ⊎ IsTold ticket.setup w acted.did
        → IsAmong w acted.left.waiters ⊎ IsToldIn node place w es
    seen_so w (inl h) = inl h
    seen_so w (inr told) =
        inr (told_in node now ticket.setup.ticket ticket.setup place (set_up_at node state place ticket set_up is)
        state.waiters w acted.did es told
        acted.seen)

-- what befalls a ticket reaches members and those that wait for it alone
abbrev pub TalksAmong : Event → ℕ → Type 0
TalksAmong event now =
    (ticket : TicketState) (left : TicketLeft) (waiters : List Waiter) (spare : ℕ) (ready : GrantKind → Bool)
    (job : Option ℕ) (did : List Act)
    → Leads IsAct (befalls ticket waiters spare ready job event now) did (Ends left)
    → Tells ticket.setup waiters left.waiters did

pub acts_stay : (node : NodeConfig) (now : ℕ) (state : State) (place : ℕ) (event : Event)
    (es : List Entry) (after : State)
    → TalksAmong event now → AreSetUp node state
    → Leads (IsDone node.ring) (acts node now state place event) es (Ends after) → Stays node state after es
acts_stay node now state place event es after talks set_up leads = by_ticket
    (slice_get state.tickets place) refl
  where
    by_ticket : (o : Option TicketState) → slice_get state.tickets place ≡ o → Stays node state after es
    by_ticket None is =
        stays_here node state after es set_up
        (subst (λ (o : Option TicketState). Leads (IsDone node.ring)
        (acts_as node now state place event o) es (Ends after)) is leads)
    by_ticket (Some ticket) is =
        let acted = acted_at node now state place event ticket es after is leads in
        let own = set_up_at node state place ticket set_up is in
        let told =
        talks ticket acted.left (waiting_at state.waiters place) (spare_in state.waiters)
        (is_ready node state.attributes place) (job_at node place state.common) acted.did acted.leads in
        record {
          set_up = acted_set_up node now state place event ticket es after set_up is acted;
          undropped = acted_undropped node now state place event ticket es after acted;
          among = all_among node now ticket.setup.ticket ticket.setup place own state.waiters acted.did es told.among
              acted.seen;
          fewer = subst (λ (s : State). AllFewer state.waiters s.waiters) (sym acted.is)
              (fewer_at state.waiters place acted.left.waiters told.fewer);
          remember = acted_remember node now state place event ticket es after set_up is acted told.remembers;
        }

-- ---- the end of a job

pub each_over_stays : (node : NodeConfig) (now job : ℕ) (service : Service) (places : List ℕ) (state after : State)
    (es : List Entry) → AreSetUp node state
    → Leads (IsDone node.ring) (each_over node now job service places state) es (Ends after)
    → Stays node state after es
each_over_stays node now job service [] state after es set_up leads = stays_here node state after es set_up leads
each_over_stays node now job service (place ∷ places) state after es set_up leads =
    let parts : Split (IsDone node.ring) (acts node now state place (Over job service))
    (each_over node now job service places) es after =
    split (IsDone node.ring) (acts node now state place (Over job service)) (each_over node now job service places)
    es after leads in
    let one =
    acts_stay node now state place (Over job service) parts.first parts.mid
    (λ ticket left waiters spare ready next_job did leads.
    over_among ticket left waiters spare ready next_job now did job service leads) set_up
    parts.to_mid in
    stays_on node state parts.mid after parts.first parts.later es parts.whole one
    (each_over_stays node now job service places parts.mid after parts.later one.set_up parts.to_end)

-- ---- the deadlines

each_due_stays : (node : NodeConfig) (now : ℕ) (places : List ℕ) (state after : State) (es : List Entry)
    → AreSetUp node state
    → Leads (IsDone node.ring) (each_due node now places state) es (Ends after) → Stays node state after es
each_due_stays node now [] state after es set_up leads = stays_here node state after es set_up leads
each_due_stays node now (place ∷ places) state after es set_up leads =
    let parts : Split (IsDone node.ring) (acts node now state place Due) (each_due node now places) es
    after =
    split (IsDone node.ring) (acts node now state place Due) (each_due node now places) es after leads in
    let one =
    acts_stay node now state place Due parts.first parts.mid
    (λ ticket left waiters spare ready job did leads. due_among ticket left waiters spare ready job now did leads) set_up
    parts.to_mid in
    stays_on node state parts.mid after parts.first parts.later es parts.whole one
    (each_due_stays node now places parts.mid after parts.later one.set_up parts.to_end)

pub dues_stay : (node : NodeConfig) (now : ℕ) (turn : Turn) (state after : State) (es : List Entry)
    → AreSetUp node state
    → Leads (IsDone node.ring) (dues node now turn state) es (Ends after) → Stays node state after es
dues_stay node now Went state after es set_up leads =
    each_due_stays node now (due_places now state.tickets) state after es set_up leads
dues_stay node now Stopped state after es set_up leads = stays_here node state after es set_up leads
