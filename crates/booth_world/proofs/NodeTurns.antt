-- A turn of the node, for one ticket of it: an arrival, and then the deadlines, as a plan.
use Rattle.std.proofs.Common.{◌≡◌, ◌≢◌, ◌⊎◌, inl, inr, ℕ, zero, suc, ◌+◌, ◌^◌, ◌<◌, ◌≤◌, Bool, true, false, List, [], ◌∷◌, length, map, set, get_or, slice_get, refl, sym, ap, ◌∙◌, subst, arith, if◌then◌else◌}
use Rattle.std.specs.Prelude.{Option, Some, None, nat_le, IsSomeAnd}
use Rattle.std.proofs.lemmas.Bool.Decides.{nat_tests}
use Rattle.std.proofs.lemmas.Option.{slice_get_within}
use Rattle.booth_base.specs.Tree.{Deeds, Ends, ◌>>=◌}
use Rattle.booth_chain.specs.DueList.{comes_before, placed, due_from, due_list}
use Rattle.booth_chain.proofs.NodesLemmas.{same_or_not, slice_get-set_other, slice_get-set_same}
use Rattle.booth_wire.specs.declared.message.Setup.{Setup}
use Rattle.booth_raft.specs.declared.view.View.{View}
use Rattle.booth_ticket.specs.Automatic.{come_due}
use Rattle.booth_ticket.specs.declared.request.Given.{Given}
use Rattle.booth_ticket.specs.declared.waiters.Waiter.{Waiter}
use Rattle.booth_ticket.specs.Ticket.{TicketState, Automatic, IsDue, left_as}
use Rattle.booth_ticket.specs.Waiting.{Left, spare_in, waiting_at}
use Rattle.booth_node.specs.declared.node.Turn.{Turn}
use Rattle.booth_node.specs.declared.node.Turn.TheVariants.{Went, Stopped}
use Rattle.booth_node.specs.declared.node_config.NodeConfig.{NodeConfig}
use Rattle.booth_node.specs.declared.state.Common.{Common}
use Rattle.booth_node.specs.Befalling.{Befalling, comes_due}
use Rattle.booth_conf.specs.declared.tickets.GrantKind.{GrantKind}
use Rattle.booth_conf.specs.declared.tickets.GrantKind.TheVariants.{Auto}
use Rattle.booth_node.specs.AttributeRequests.{is_ready}
use Rattle.booth_node.specs.Jobs.{handler_at, job_at}
use Rattle.booth_node.specs.Reaction.{Ask, befalls, acts_as, acts, deadline_of, due_places, each_due, dues}
use Rattle.booth_node.specs.State.{State, with_ticket}
use Rattle.booth_node.proofs.DueLemmas.{Each, Once, DueAt, all_due, all_once}
use Rattle.booth_world.specs.Facts.{Has}
use Rattle.booth_world.specs.Rules.{MemberMessage}
use Rattle.booth_world.specs.Turns.{TurnTree, Plan, Rests, plan_tree, MayPlan}
use Rattle.booth_world.proofs.Lists.{none_is, some_same}
use Rattle.booth_world.proofs.Mirrors.{skip, IsKept, Mirrors, mirrors_next}
use Rattle.booth_world.proofs.Echoes.{Echoes, echoes_as}
use Rattle.booth_world.proofs.Plans.{due_plan}
use Rattle.booth_world.proofs.PlanCalls.{due_may}
use Rattle.booth_world.proofs.PlanDeeds.{ticked}
use Rattle.booth_world.proofs.NodeTrees.{IsFew, Minds, HasSetup, minds_due, own_lifted, other_lifted}

-- ---- one ticket among others

-- this ticket stands at its place, with this view, and no other has its name
pub record IsPlacedAt (s : Setup) (place : ℕ) (view : View) (tickets : List TicketState) : Type 0 where
  pub own : slice_get tickets place ≡ Some (record { setup = s; known = Automatic view })
  pub others : (other : ℕ) (t : TicketState) → slice_get tickets other ≡ Some t → other ≢ place → t.setup.ticket ≢ s.ticket

own_set : (s : Setup) (place : ℕ) (view view' : View) (tickets : List TicketState) → IsPlacedAt s place view tickets
    → IsPlacedAt s place view' (set tickets place (record { setup = s; known = Automatic view' }))
own_set s place view view' tickets at = record {
  own = slice_get-set_same tickets place (record { setup = s; known = Automatic view' }) (slice_get_within tickets place _ at.own);
  others = λ other t is ne. at.others other t (sym (slice_get-set_other tickets place other (record { setup = s; known = Automatic view' }) ne) ∙ is) ne;
}

-- a ticket whose core kept its setup leaves it at its place
pub left_set : (s : Setup) (place : ℕ) (view : View) (tickets : List TicketState) (left : Left) → left.core.setup ≡ s
    → IsPlacedAt s place view tickets → IsPlacedAt s place left.core.view (set tickets place (left_as left).ticket)
left_set s place view tickets left same at =
    subst (λ (t : Setup). IsPlacedAt s place left.core.view (set tickets place (record { setup = t; known = Automatic left.core.view })))
    (sym same) (own_set s place view left.core.view tickets at)

other_set : (s : Setup) (place other : ℕ) (view : View) (tickets : List TicketState) (t t' : TicketState) → IsPlacedAt s place view tickets
    → slice_get tickets other ≡ Some t → other ≢ place → t'.setup ≡ t.setup → IsPlacedAt s place view (set tickets other t')
other_set s place other view tickets t t' at is ne same = record {
  own = slice_get-set_other tickets other place t' (λ e. ne (sym e)) ∙ at.own;
  others = λ o u read away. by_place o u read away (same_or_not o other);
}
  where
    by_place : (o : ℕ) (u : TicketState) → slice_get (set tickets other t') o ≡ Some u → o ≢ place → (o ≡ other) ⊎ (o ≢ other)
        → u.setup.ticket ≢ s.ticket
    by_place o u read away (inl e) =
        let there : slice_get (set tickets other t') other ≡ Some t' = slice_get-set_same tickets other t' (slice_get_within tickets other t is) in
        let u_is : u ≡ t' = some_same u t' (sym (subst (λ (n : ℕ). slice_get (set tickets other t') n ≡ Some u) e read) ∙ there) in
        λ named. at.others other t is ne (ap (λ (x : Setup). x.ticket) (sym same) ∙ ap (λ (x : TicketState). x.setup.ticket) (sym u_is) ∙ named)
    by_place o u read away (inr apart) =
        at.others o u (sym (slice_get-set_other tickets other o t' apart) ∙ read) away

-- ---- deadlines

has_placed : (d slot : ℕ) (xs : List (ℕ × ℕ)) (x : ℕ × ℕ) → Has xs x → Has (placed d slot xs) x
has_placed d slot [] x h = absurd h
has_placed d slot (y ∷ ys) x h = by_test (comes_before d slot y.0 y.1) (has_placed d slot ys x) h
  where
    by_test : (b : Bool) → (Has ys x → Has (placed d slot ys) x) → Has (y ∷ ys) x
        → Has (if b then (d, slot) ∷ y ∷ ys else y ∷ placed d slot ys) x
    by_test true rest h = inr h
    by_test false rest (inl e) = inl e
    by_test false rest (inr h) = inr (rest h)

new_placed : (d slot : ℕ) (xs : List (ℕ × ℕ)) → Has (placed d slot xs) (d, slot)
new_placed d slot [] = inl refl
new_placed d slot (y ∷ ys) = by_test (comes_before d slot y.0 y.1) (new_placed d slot ys)
  where
    by_test : (b : Bool) → Has (placed d slot ys) (d, slot) → Has (if b then (d, slot) ∷ y ∷ ys else y ∷ placed d slot ys) (d, slot)
    by_test true rest = inl refl
    by_test false rest = inr rest

due_has : (now slot i d : ℕ) (ds : List (Option ℕ)) → get_or ds i None ≡ Some d → nat_le d now ≡ true → Has (due_from now slot ds) (d, slot + i)
due_has now slot i d [] is due = absurd (none_is d is)
due_has now slot zero d (o ∷ ds) is due =
    subst (λ (p : Option ℕ). Has (due_from now slot (p ∷ ds)) (d, slot + zero)) (sym is)
    (subst (λ (b : Bool). Has (if b then placed d slot (due_from now (slot + 1) ds) else due_from now (slot + 1) ds) (d, slot + zero)) (sym due)
    (subst (λ (n : ℕ). Has (placed d slot (due_from now (slot + 1) ds)) (d, n)) (omega arith) (new_placed d slot (due_from now (slot + 1) ds))))
due_has now slot (suc i) d (o ∷ ds) is due =
    let rest : Has (due_from now (slot + 1) ds) (d, slot + suc i) =
    subst (λ (n : ℕ). Has (due_from now (slot + 1) ds) (d, n)) (omega arith) (due_has now (slot + 1) i d ds is due) in
    by_first o rest
  where
    by_first : (p : Option ℕ) → Has (due_from now (slot + 1) ds) (d, slot + suc i) → Has (due_from now slot (p ∷ ds)) (d, slot + suc i)
    by_first None rest = rest
    by_first (Some e) rest = by_test (nat_le e now)
      where
        by_test : (b : Bool) → Has (if b then placed e slot (due_from now (slot + 1) ds) else due_from now (slot + 1) ds) (d, slot + suc i)
        by_test true = has_placed e slot (due_from now (slot + 1) ds) (d, slot + suc i) rest
        by_test false = rest

has_slot : (xs : List (ℕ × ℕ)) (x : ℕ × ℕ) → Has xs x → Has (map (λ (y : ℕ × ℕ). y.1) xs) x.1
has_slot [] x h = absurd h
has_slot (y ∷ ys) x (inl e) = inl (ap (λ (z : ℕ × ℕ). z.1) e)
has_slot (y ∷ ys) x (inr h) = inr (has_slot ys x h)

deadline_at : (tickets : List TicketState) (place : ℕ) (t : TicketState) → slice_get tickets place ≡ Some t
    → get_or (map deadline_of tickets) place None ≡ deadline_of t
deadline_at [] place t is = absurd (none_is t is)
deadline_at (x ∷ tickets) zero t is = ap deadline_of (some_same x t is)
deadline_at (x ∷ tickets) (suc place) t is = deadline_at tickets place t is

-- whether the deadline has come
abbrev pub is_due : Option ℕ → ℕ → Bool
is_due None now = false
is_due (Some due) now = nat_le due now

-- the ticket's place is among those that are due exactly where its deadline has come
in_dues : (now place : ℕ) (tickets : List TicketState) (t : TicketState) → slice_get tickets place ≡ Some t
    → is_due (deadline_of t) now ≡ true → Has (due_places now tickets) place
in_dues now place tickets t is due = by_deadline (deadline_of t) refl due
  where
    by_deadline : (o : Option ℕ) → deadline_of t ≡ o → is_due o now ≡ true → Has (due_places now tickets) place
    by_deadline None e due_now = absurd cc
    by_deadline (Some d) e due_now =
        has_slot (due_list now (map deadline_of tickets)) (d, place)
        (subst (λ (n : ℕ). Has (due_list now (map deadline_of tickets)) (d, n)) (omega arith)
        (due_has now zero place d (map deadline_of tickets) (deadline_at tickets place t is ∙ e) due_now))

each_has : (P : ℕ → Type 0) (xs : List ℕ) (x : ℕ) → Each P xs → Has xs x → P x
each_has P [] x each h = absurd h
each_has P (y ∷ ys) x each (inl e) = subst P e each.0
each_has P (y ∷ ys) x each (inr h) = each_has P ys x each.1 h

not_in_dues : (now place : ℕ) (tickets : List TicketState) (t : TicketState) → slice_get tickets place ≡ Some t
    → is_due (deadline_of t) now ≡ false → Has (due_places now tickets) place → ⊥
not_in_dues now place tickets t is due h =
    by_deadline (deadline_of t) due
    (subst (λ (o : Option TicketState). IsSomeAnd o (λ ticket. IsDue ticket.known now)) is (each_has (DueAt now tickets) (due_places now tickets) place (all_due now tickets) h))
  where
    by_deadline : (o : Option ℕ) → is_due o now ≡ false → IsSomeAnd o (λ d. d ≤ now) → ⊥
    by_deadline None e came = came
    by_deadline (Some d) e came = grind (arith, nat_tests)

-- ---- what one ticket does

module _ (s : Setup) (place : ℕ) (node : NodeConfig) (now : ℕ) (all : s.members ≡ length node.config.members) where
  -- a turn is over: the host's tree is, with the ticket's view
  pub record IsOver (sent : List MemberMessage) (state : State) (tree : TurnTree) : Type 0 where
    pub view : View
    pub ended : skip tree ≡ Ends view
    pub at : IsPlacedAt s place view state.tickets
    pub moment_is : state.last_reading ≡ now
    pub few : IsFew state.common

  abbrev pub Over : List MemberMessage → Deeds Ask State → TurnTree → Type 0
  Over sent deeds tree = Mirrors node s IsOver sent deeds tree

  pub over_kept : IsKept IsOver
  over_kept state sent sent' tree tree' x m = record { view = m.view; ended = sym x.same ∙ m.ended; at = m.at; moment_is = m.moment_is; few = m.few }

  module _ (Q : List MemberMessage → State → TurnTree → Type 0) where
    abbrev Here : List MemberMessage → Deeds Ask State → TurnTree → Type 0
    Here sent deeds tree = Mirrors node s Q sent deeds tree

    -- the ticket's own deeds
    pub own_acts : (state : State) (view : View) (event : Befalling) (sent : List MemberMessage) (tree : TurnTree) → IsFew state.common
        → slice_get state.tickets place ≡ Some (record { setup = s; known = Automatic view })
        → Echoes s (λ sent' left tree'. (counted : Common) → IsFew counted → Q sent' (with_ticket state place counted left) tree') sent
        (befalls (record { setup = s; known = Automatic view }) (waiting_at state.waiters place) (spare_in state.waiters)
        (is_ready node state.attributes place) (job_at node place state.common) event now) tree
        → Here sent (acts node now state place event) tree
    own_acts state view event sent tree few is m =
        subst (λ (o : Option TicketState). Here sent (acts_as node now state place event o) tree) (sym is)
        (own_lifted s node now Q all state.common few sent
        (befalls (record { setup = s; known = Automatic view }) (waiting_at state.waiters place) (spare_in state.waiters)
        (is_ready node state.attributes place) (job_at node place state.common) event now) tree
        (λ common left. Ends (with_ticket state place common left)) m)

    -- those of another ticket
    pub other_acts : (state : State) (view : View) (other : ℕ) (event : Befalling) (sent : List MemberMessage) (tree : TurnTree)
        → IsPlacedAt s place view state.tickets → other ≢ place → IsFew state.common
        → ((t : TicketState) (waiters : List Waiter) (spare : ℕ) (ready : GrantKind → Bool) (job : Option ℕ)
        → Minds (HasSetup t.setup now) t.setup.ticket (befalls t waiters spare ready job event now))
        → ((tickets : List TicketState) (waiters : List (List Waiter)) (counted : Common) → IsFew counted → IsPlacedAt s place view tickets
        → Q sent (record state { tickets = tickets; waiters = waiters; common = counted }) tree)
        → Here sent (acts node now state other event) tree
    other_acts state view other event sent tree at ne few minds on = by_ticket (slice_get state.tickets other) refl
      where
        by_ticket : (o : Option TicketState) → slice_get state.tickets other ≡ o → Here sent (acts_as node now state other event o) tree
        by_ticket None is = on state.tickets state.waiters state.common few at
        by_ticket (Some t) is =
            other_lifted s node now Q t.setup.ticket (at.others other t is ne) state.common few sent (HasSetup t.setup now)
            (befalls t (waiting_at state.waiters other) (spare_in state.waiters) (is_ready node state.attributes other)
            (job_at node other state.common) event now) tree
            (λ common left. Ends (with_ticket state other common left))
            (minds t (waiting_at state.waiters other) (spare_in state.waiters) (is_ready node state.attributes other) (job_at node other state.common))
            (λ counted left few_now same. on (set state.tickets other left.ticket) (set state.waiters other left.waiters) counted few_now
            (other_set s place other view state.tickets t left.ticket at is ne same))

  -- ---- the deadlines

  abbrev pub rests : View → Plan
  rests view = Rests

  module _ (own : s.place < s.members) (most : ℕ) (enough : 2 ^ 64 ≤ most) where
    pub below_most : (common : Common) → IsFew common → common.next_job < most
    below_most common few = omega (arith, few, enough)

    -- what the ticket leaves at its deadline is the end for it
    abbrev Done : State → List MemberMessage → Left → TurnTree → Type 0
    Done state sent left tree = (counted : Common) → IsFew counted → IsOver sent (with_ticket state place counted (left_as left)) tree

    done_kept : (state : State) → IsKept (Done state)
    done_kept state left sent sent' tree tree' x m =
        λ counted few. over_kept (with_ticket state place counted (left_as left)) sent sent' tree tree' x (m counted few)

    left_done : (state : State) (view : View) → IsPlacedAt s place view state.tickets → state.last_reading ≡ now
        → (left : Left) (sent : List MemberMessage) → left.core.setup ≡ s → Done state sent left (plan_tree s now left.core.view (rests left.core.view))
    left_done state view at last_is left sent same = λ counted few. record {
      view = left.core.view;
      ended = refl;
      at = left_set s place view state.tickets left same at;
      moment_is = last_is;
      few = few;
    }

    passing : (places : List ℕ) (state : State) (sent : List MemberMessage) (tree : TurnTree) → (Has places place → ⊥)
        → IsOver sent state tree → Over sent (each_due node now places state) tree
    passing [] state sent tree none over = over
    passing (p ∷ places) state sent tree none over =
        mirrors_next node s IsOver IsOver (each_due node now places) sent (acts node now state p comes_due) tree
        (λ sent' state' tree' m. passing places state' sent' tree' (λ h. none (inr h)) m)
        (other_acts IsOver state over.view p comes_due sent tree over.at (λ e. none (inl e)) over.few
        (λ t waiters spare ready job. minds_due t.setup now t.known waiters (ready Auto) job)
        (λ tickets waiters counted few_now at. record { view = over.view; ended = over.ended; at = at; moment_is = over.moment_is; few = few_now }))

    -- the prerequisites of a takeover hold
    abbrev pub ready_in : State → Bool
    ready_in state = is_ready node state.attributes place Auto

    abbrev pub due_tree : View → Bool → TurnTree
    due_tree view ready = plan_tree s now view (due_plan s now most ready (handler_at node place) rests)

    -- where its deadline is still to come in the turn
    pub record IsAhead (view : View) (ready : Bool) (sent : List MemberMessage) (state : State) (tree : TurnTree) : Type 0 where
      pub ahead : tree ≡ due_tree view ready
      pub placed_at : IsPlacedAt s place view state.tickets
      pub moment_is : state.last_reading ≡ now
      pub few : IsFew state.common
      pub ready_is : ready_in state ≡ ready

    own_due : (state : State) (view : View) (sent : List MemberMessage) → IsPlacedAt s place view state.tickets → state.last_reading ≡ now
        → IsFew state.common → Over sent (acts node now state place comes_due) (due_tree view (ready_in state))
    own_due state view sent at last_is few =
        let given : Given = record { now = now; ready = ready_in state; job = job_at node place state.common } in
        own_acts IsOver state view comes_due sent (due_tree view (ready_in state)) few at.own
        (echoes_as s (Done state) (λ sent' left tree'. (counted : Common) → IsFew counted → IsOver sent' (with_ticket state place counted left) tree')
        left_as sent (come_due (record { setup = s; view = view }) (waiting_at state.waiters place) given)
        (due_tree view (ready_in state)) (λ sent' left tree' m. m)
        (ticked s now most own (Done state) (done_kept state) rests (left_done state view at last_is) (handler_at node place)
        state.common.next_job (below_most state.common few) view (waiting_at state.waiters place) (ready_in state) sent))

    meeting : (places : List ℕ) (state : State) (view : View) (ready : Bool) (sent : List MemberMessage) → Has places place → Once places
        → IsPlacedAt s place view state.tickets → state.last_reading ≡ now → IsFew state.common → ready_in state ≡ ready
        → Over sent (each_due node now places state) (due_tree view ready)
    meeting [] state view ready sent h once at last_is few ready_is = absurd h
    meeting (p ∷ places) state view ready sent h once at last_is few ready_is =
        by_place (same_or_not p place) (λ state' sent' g. meeting places state' view ready sent' g once.1)
      where
        by_place : (p ≡ place) ⊎ (p ≢ place)
            → ((state' : State) (sent' : List MemberMessage) → Has places place → IsPlacedAt s place view state'.tickets → state'.last_reading ≡ now
            → IsFew state'.common → ready_in state' ≡ ready → Over sent' (each_due node now places state') (due_tree view ready))
            → Over sent (acts node now state p comes_due >>= each_due node now places) (due_tree view ready)
        by_place (inl e) rest =
            subst (λ (q : ℕ). Over sent (acts node now state q comes_due >>= each_due node now places) (due_tree view ready)) (sym e)
            (mirrors_next node s IsOver IsOver (each_due node now places) sent (acts node now state place comes_due)
            (due_tree view ready)
            (λ sent' state' tree' m. passing places state' sent' tree'
            (λ g. each_has (λ y. p ≢ y) places place once.0 g e) m)
            (subst (λ (b : Bool). Over sent (acts node now state place comes_due) (due_tree view b)) ready_is (own_due state view sent at last_is few)))
        by_place (inr ne) rest =
            mirrors_next node s (IsAhead view ready) IsOver (each_due node now places) sent (acts node now state p comes_due)
            (due_tree view ready)
            (λ sent' state' tree' m. subst (λ (t : TurnTree). Over sent' (each_due node now places state') t) (sym m.ahead)
            (rest state' sent' (still ne h) m.placed_at m.moment_is m.few m.ready_is))
            (other_acts (IsAhead view ready) state view p comes_due sent (due_tree view ready) at ne few
            (λ t waiters spare ready job. minds_due t.setup now t.known waiters (ready Auto) job)
            (λ tickets waiters counted few_now placed_now.
            record { ahead = refl; placed_at = placed_now; moment_is = last_is; few = few_now; ready_is = ready_is }))
          where
            still : p ≢ place → Has (p ∷ places) place → Has places place
            still away (inl e) = absurd (away e)
            still away (inr g) = g

    -- what follows the arrival
    abbrev pub after_plan : Bool → Turn → View → Plan
    after_plan ready Went view = if is_due view.due now then due_plan s now most ready (handler_at node place) rests else Rests
    after_plan ready Stopped view = Rests

    pub after_may : (ready : Bool) (turn : Turn) (view : View) → MayPlan s now view (after_plan ready turn view)
    after_may ready Went view = by_test (is_due view.due now)
      where
        by_test : (b : Bool) → MayPlan s now view (if b then due_plan s now most ready (handler_at node place) rests else Rests)
        by_test true = due_may s now most ready (handler_at node place) rests view (λ left. tt)
        by_test false = tt
    after_may ready Stopped view = tt

    pub dues_over : (turn : Turn) (state : State) (view : View) (sent : List MemberMessage) → IsPlacedAt s place view state.tickets
        → state.last_reading ≡ now → IsFew state.common → Over sent (dues node now turn state) (plan_tree s now view (after_plan (ready_in state) turn view))
    dues_over Stopped state view sent at last_is few = record { view = view; ended = refl; at = at; moment_is = last_is; few = few }
    dues_over Went state view sent at last_is few = by_test (is_due view.due now) refl
      where
        by_test : (b : Bool) → is_due view.due now ≡ b
            → Over sent (each_due node now (due_places now state.tickets) state) (plan_tree s now view (if b then due_plan s now most (ready_in state) (handler_at node place) rests else Rests))
        by_test true due =
            meeting (due_places now state.tickets) state view (ready_in state) sent (in_dues now place state.tickets _ at.own due)
            (all_once now state.tickets) at last_is few refl
        by_test false due =
            passing (due_places now state.tickets) state sent (Ends view) (not_in_dues now place state.tickets _ at.own due)
            (record { view = view; ended = refl; at = at; moment_is = last_is; few = few })
