-- The tickets whose deadline has passed.
use Rattle.std.proofs.Common.{arith, ◌≡◌, ◌⊎◌, inl, inr, ℕ, ◌<◌, ◌≤◌, List, [], ◌∷◌, map, zero, suc, refl, sym, ap, ◌∙◌}
use Rattle.std.specs.Prelude.{Some, None, slice_get, slice_index_or}
use Rattle.booth_chain.specs.DueList.{due_list}
use Rattle.booth_chain.specs.Slots.{IsIn as IsPairIn}
use Rattle.booth_chain.proofs.DueOrderLemmas.{contained, is_in, lists_due}
use Rattle.booth_wire.specs.declared.message.Setup.{Setup}
use Rattle.booth_raft.specs.declared.view.View.{View}
use Rattle.booth_ticket.specs.Ticket.{Automatic, TicketState}
use Rattle.booth_node.specs.Reaction.{deadline_of, due_places}
use Rattle.booth_node.specs.State.{State}
use Rattle.booth_progress.specs.Turns.{HasView}

-- a place is in a list
abbrev pub IsIn : ℕ → List ℕ → Type 0
IsIn place [] = ⊥
IsIn place (first ∷ places) = (first ≡ place) ⊎ IsIn place places

in_places : (deadline place : ℕ) (list : List (ℕ × ℕ)) → IsPairIn deadline place list → IsIn place (map (λ (entry : ℕ × ℕ). entry.1) list)
in_places deadline place [] among = absurd among
in_places deadline place (entry ∷ list) (inl same) = inl (sym same.1)
in_places deadline place (entry ∷ list) (inr later) = inr (in_places deadline place list later)

deadline_at : (tickets : List TicketState) (place due : ℕ) (ticket : TicketState) → slice_get tickets place ≡ Some ticket
    → deadline_of ticket ≡ Some due → slice_index_or (map deadline_of tickets) place None ≡ Some due
deadline_at [] place due ticket has is = absurd cc
deadline_at (first ∷ tickets) zero due ticket has is = ap deadline_of (same_ticket has) ∙ is
  where
    same_ticket : Some first ≡ Some ticket → first ≡ ticket
    same_ticket e = cc
deadline_at (first ∷ tickets) (suc place) due ticket has is = deadline_at tickets place due ticket has is

pub is_due : (state : State) (place : ℕ) (setup : Setup) (view : View) (now due : ℕ) → HasView state place setup view → view.due ≡ Some due
    → due ≤ now → IsIn place (due_places now state.tickets)
is_due state place setup view now due has is came =
    in_places due place (due_list now (map deadline_of state.tickets))
    (is_in due place (due_list now (map deadline_of state.tickets))
    (((lists_due now (map deadline_of state.tickets)).due due place).1
    (record { set = deadline_at state.tickets place due (record { setup = setup; known = Automatic view }) has is; came = came })))

in_pairs : (place : ℕ) (list : List (ℕ × ℕ)) → IsIn place (map (λ (entry : ℕ × ℕ). entry.1) list)
    → (deadline : ℕ) × IsPairIn deadline place list
in_pairs place [] among = absurd among
in_pairs place (entry ∷ list) (inl same) = (entry.0, inl (refl, sym same))
in_pairs place (entry ∷ list) (inr later) = let found = in_pairs place list later in (found.0, inr found.1)

pub not_due : (state : State) (place : ℕ) (setup : Setup) (view : View) (now deadline : ℕ) → HasView state place setup view
    → view.due ≡ Some deadline → now < deadline → IsIn place (due_places now state.tickets) → ⊥
not_due state place setup view now deadline has is early among =
    let found = in_pairs place (due_list now (map deadline_of state.tickets)) among in
    let due = (((lists_due now (map deadline_of state.tickets)).due found.0 place).0
    (contained found.0 place (due_list now (map deadline_of state.tickets)) found.1)) in
    let came : found.0 ≤ now = due.came in
    let same : found.0 ≡ deadline =
    some_equal (sym due.set ∙ deadline_at state.tickets place deadline (record { setup = setup; known = Automatic view }) has is) in
    absurd (omega (arith, came, same, early))
  where
    some_equal : {x y : ℕ} → Some x ≡ Some y → x ≡ y
    some_equal e = cc
