-- The laws of manual tickets: one path of a tree each.
use Rattle.std.proofs.Common.{◌≡◌, ℕ, ◌+◌, Bool, true, List, [], ◌++◌, refl, sym, subst, if◌then◌else◌}
use Rattle.std.specs.Prelude.{Option, None, not}
use Rattle.std.specs.Option.{is_some}
use Rattle.booth_base.specs.declared.address.Peer.{Peer}
use Rattle.booth_base.specs.Tree.{Deeds, Ends, Leads, ◌>>=◌, ◌>>◌}
use Rattle.booth_base.proofs.TreeLemmas.{leads_on, next_leads}
use Rattle.booth_wire.specs.declared.codes.results.TheConstants.{SUCCESS}
use Rattle.booth_wire.specs.declared.message.Head.{Head}
use Rattle.booth_wire.specs.declared.message.Setup.{Setup}
use Rattle.booth_wire.specs.declared.message.TicketPart.{TicketPart}
use Rattle.booth_raft.specs.declared.deed.Told.TheVariants as tells
use Rattle.booth_manual.specs.declared.view.ManualView.{ManualView}
use Rattle.booth_manual.specs.declared.view.TheConstants.{NO_END_SECONDS}
use Rattle.booth_manual.specs.GrantAndRevoke.{again, finish, grant, granted_record, revoke}
use Rattle.booth_manual.specs.Messages.{part_of}
use Rattle.booth_manual.specs.Outcome.{Keep as Tries}
use Rattle.booth_manual.specs.State.{State, with_view}
use Rattle.booth_ticket.specs.declared.handling.Service.TheVariants.{CanRun}
use Rattle.booth_ticket.specs.declared.request.Request.{Request}
use Rattle.booth_ticket.specs.declared.request.Wish.{Wish}
use Rattle.booth_ticket.specs.declared.request.Wish.TheVariants.{Grant, Revoke}
use Rattle.booth_ticket.specs.declared.waiters.Waiter.{Waiter}
use Rattle.booth_ticket.specs.Acts.{Ask, Act, IsAct, said_to_each}
use Rattle.booth_ticket.specs.Laws.{told_granted}
use Rattle.booth_ticket.specs.Manual.{ManualKnown, ManualLeft, ManualState, manual_state, rules_of, ticket_as}
use Rattle.booth_ticket.specs.ManualHandling.{Granted, end_handler, grant_now, tell_waiters}
use Rattle.booth_ticket.specs.ManualLaws.{GrantsAfterHandler, GrantsByHand, HoldsAfterHandler, HoldsByHand, HoldsNoMore, IsDoneByHand, RevokesByHand, giving_back, granting, granting_to_all, request_for}
use Rattle.booth_ticket.specs.ManualRequests.{Begun, Tried, as_waiting, begin_for, do_for, keep_for, keep_tried, manual_asked, manual_reply, refused_manual_revoke}
use Rattle.booth_ticket.specs.Saying.{others, say_each, say_to}
use Rattle.booth_ticket.specs.Waiting.{joined}
use Rattle.booth_ticket.proofs.LawLemmas.{told_leads}
use Rattle.booth_ticket.proofs.SayLemmas.{each_said}

-- what is kept or revoked by a wish, as the rules after it
abbrev kept_rules : State → Tries → State
kept_rules rules tries = with_view rules (finish rules.setup tries.view true).view

module _ (setup : Setup) (known : ManualKnown) (waiters : List Waiter) (from : Peer) (number options : ℕ) where
  abbrev ticket : ManualState
  ticket = record { setup = setup; known = known }

  abbrev request : Wish → Request
  request wish = request_for wish from number options

  -- what follows of what is left of a keep
  abbrev begins : Tried → Begun
  begins done = record { answer = done.answer; rules = done.rules; running = known.job }

  abbrev replies : Wish → Begun → Deeds Ask ManualLeft
  replies wish done = do
    manual_reply done.rules (request wish) done.answer
    Ends (record {
      ticket = ticket_as done.rules known.greets_at done.running;
      waiters = joined (as_waiting (request wish)) done.answer waiters;
    })

  abbrev keeps : Wish → Tries → Deeds Ask ManualLeft
  keeps wish tries =
      (keep_tried (with_view (rules_of ticket) tries.view) wish tries.tried >>= (λ done. Ends (begins done))) >>= replies wish

  abbrev left_by : Wish → Tries → ManualLeft
  left_by wish tries = record {
    ticket = ticket_as (kept_rules (rules_of ticket) tries) known.greets_at known.job;
    waiters = joined (as_waiting (request wish)) SUCCESS waiters;
  }

  abbrev tried_by : Wish → Tries → Tried
  tried_by wish tries = record { answer = SUCCESS; rules = kept_rules (rules_of ticket) tries }

  -- what is said to all others, and then the reply
  said_and_replied : (wish : Wish) (tries : Tries) (head : Head) (part : TicketPart) (last : List Act)
      → Leads IsAct (replies wish (begins (tried_by wish tries))) last (Ends (left_by wish tries))
      → Leads IsAct
      (((say_each (others setup) head part >>= (λ done. Ends (tried_by wish tries))) >>= (λ done. Ends (begins done))) >>= replies wish)
      (said_to_each (others setup) head part ++ last) (Ends (left_by wish tries))
  said_and_replied wish tries head part last later =
      leads_on IsAct _ (replies wish (begins (tried_by wish tries))) (Ends (left_by wish tries))
      (said_to_each (others setup) head part) last
      (next_leads IsAct _ _ (replies wish) _
      (next_leads IsAct _ _ (λ (done : Tried). Ends (begins done)) _
      (next_leads IsAct _ _ (λ (done : Unit {0}). Ends (tried_by wish tries)) _ (each_said (others setup) head part))))
      later

  granted : IsDoneByHand (keeps Grant (grant setup known.view)) (granting setup known.view from number)
      (λ left. HoldsByHand (granted_record setup known.view) left.ticket.known.view)
  unfolding keep_tried manual_reply say_to
  granted = record {
    left = left_by Grant (grant setup known.view);
    all = (true, refl, said_and_replied Grant (grant setup known.view) _ _ _ (true, refl, refl));
    holds = record { owner = refl; sure = refl; kept_record = refl; shown = refl };
  }

  given_back : IsDoneByHand (keeps Revoke (revoke setup known.view)) (giving_back setup known.view from number)
      (λ left. HoldsNoMore (revoke setup known.view).tried left.ticket.known.view)
  unfolding keep_tried manual_reply say_to
  given_back = record {
    left = left_by Revoke (revoke setup known.view);
    all = (true, refl, said_and_replied Revoke (revoke setup known.view) _ _ _ (true, refl, refl));
    holds = record { owner = refl; sure = refl; kept_record = refl };
  }

pub grants_by_hand : GrantsByHand
unfolding manual_asked keep_for
grants_by_hand setup known waiters spare ready from number options now not_owner unrefused =
    let rules : State = record { setup = setup; view = known.view } in
    let goes_on : Begun → Deeds Ask ManualLeft = replies setup known waiters from number options Grant in
    let Holds : ManualLeft → Type 0 = λ left. HoldsByHand (granted_record setup known.view) left.ticket.known.view in
    let acts : List Act = granting setup known.view from number in
    subst (λ (refused : Option ℕ).
    IsDoneByHand (do_for rules known.job refused None Grant now >>= goes_on) acts Holds) (sym unrefused)
    (subst (λ (owner : Bool).
    IsDoneByHand (begin_for rules known.job (if not owner then None else None) Grant now >>= goes_on) acts Holds) (sym not_owner)
    (subst (λ (owner : Bool).
    IsDoneByHand (keeps setup known waiters from number options Grant
    (if owner then again setup known.view else grant setup known.view)) acts Holds) (sym not_owner)
    (granted setup known waiters from number options)))

pub revokes_by_hand : RevokesByHand
unfolding manual_asked keep_for
revokes_by_hand setup known waiters spare ready job from number options now owner =
    subst (λ (refused : Option ℕ).
    IsDoneByHand (do_for (record { setup = setup; view = known.view }) known.job refused job Revoke now
    >>= replies setup known waiters from number options Revoke)
    (giving_back setup known.view from number)
    (λ left. HoldsNoMore (revoke setup known.view).tried left.ticket.known.view)) (sym (unrefused known.view owner))
    (given_back setup known waiters from number options)
  where
    unrefused : (view : ManualView) → view.owner ≡ true → refused_manual_revoke setup view (is_some known.job) ≡ None
    unrefused view is = rw is refl

pub grants_after_handler : GrantsAfterHandler
unfolding end_handler grant_now keep_tried tell_waiters
grants_after_handler setup known waiters job awaited unspent =
    let ticket : ManualState = record { setup = setup; known = known } in
    let rules : State = rules_of ticket in
    let tries : Tries = grant setup known.view in
    let after : State = kept_rules rules tries in
    let part : TicketPart = part_of setup setup.me (known.view.term + 1) NO_END_SECONDS in
    let none : ManualLeft = record { ticket = ticket_as after known.greets_at None; waiters = [] } in
    let acts : List Act = granting_to_all setup known.view waiters in
    let Holds : ManualLeft → Type 0 = HoldsAfterHandler (granted_record setup known.view) in
    let tried : Tried = record { answer = SUCCESS; rules = after } in
    let granted : Tried → Granted = λ done. record { told = tells.Gained done.rules.view.sure; rules = done.rules } in
    let ends : Granted → Deeds Ask ManualLeft = λ done.
    tell_waiters done.rules done.told waiters >>= (λ stay. Ends (record { ticket = ticket_as done.rules known.greets_at None; waiters = stay })) in
    let clients : Leads IsAct (ends (granted tried)) (told_granted setup waiters part) (Ends none) =
    next_leads IsAct _ _ (λ (stay : List Waiter). Ends (record { ticket = ticket_as after known.greets_at None; waiters = stay })) _
    (told_leads setup (manual_state setup after.view) part waiters refl) in
    subst (λ (is : Bool).
    IsDoneByHand (if is then end_handler ticket waiters CanRun else Ends (record { ticket = ticket; waiters = waiters })) acts Holds)
    (sym awaited)
    (subst (λ (spent : Bool).
    IsDoneByHand ((if spent then Ends (record { told = tells.AskFailed; rules = rules }) else grant_now rules) >>= ends) acts Holds)
    (sym unspent)
    (record {
      left = none;
      all = (
        true,
        refl,
        leads_on IsAct _ (ends (granted tried)) (Ends none) _ (told_granted setup waiters part)
            (next_leads IsAct _ _ ends _
            (next_leads IsAct _ _ (λ (done : Tried). Ends (granted done)) _
            (next_leads IsAct _ _ (λ (done : Unit {0}). Ends tried) _ (each_said (others setup) _ _))))
            clients,
      );
      holds = record {
        holds = record { owner = refl; sure = refl; kept_record = refl; shown = refl };
        over = refl;
        waiting = refl;
      };
    }))
