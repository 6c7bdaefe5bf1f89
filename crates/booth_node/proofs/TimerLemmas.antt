-- The timer of a start: the deadlines of the tickets up to a place are set.
use Rattle.std.proofs.Common.{◌≡◌, ◌≢◌, ◌⊎◌, inl, inr, ℕ, ◌+◌, ◌<◌, Bool, true, false, List, length, map, set, get_or, sym, ap, ◌∙◌, subst, arith}
use Rattle.std.specs.Prelude.{Option, None}
use Rattle.std.proofs.Math.Dec.{eqb}
use Rattle.std.proofs.lemmas.Bool.Decides.{eqb_tells}
use Rattle.std.proofs.lemmas.List.{get_or-map, get_or-set_other, get_or-set_same}
use Rattle.booth_ticket.specs.Ticket.{TicketState}
use Rattle.booth_node.specs.Reaction.{deadline_of}

-- the deadline of the next ticket is set
pub next_timed : (deadlines : List (Option ℕ)) (tickets : List TicketState) (place : ℕ) (ticket : TicketState)
    → ticket ≡ get_or tickets place ticket → place < length tickets → place < length deadlines
    → ((slot : ℕ) → slot < place → get_or deadlines slot None ≡ get_or (map deadline_of tickets) slot None)
    → (slot : ℕ) → slot < place + 1
    → get_or (set deadlines place (deadline_of ticket)) slot None ≡ get_or (map deadline_of tickets) slot None
next_timed deadlines tickets place ticket there inside within timed slot below = by_place (eqb_tells slot place)
  where
    by_place : ((eqb slot place ≡ true) × (slot ≡ place)) ⊎ ((eqb slot place ≡ false) × (slot ≢ place))
        → get_or (set deadlines place (deadline_of ticket)) slot None ≡ get_or (map deadline_of tickets) slot None
    by_place (inl h) =
        subst
        (λ (n : ℕ). get_or (set deadlines place (deadline_of ticket)) n None ≡ get_or (map deadline_of tickets) n None)
        (sym h.1)
        (get_or-set_same deadlines place (deadline_of ticket) None within ∙ ap deadline_of there
        ∙ sym (get_or-map deadline_of tickets place ticket None inside))
    by_place (inr h) =
        let other = h.1 in
        get_or-set_other deadlines place slot (deadline_of ticket) None h.1 ∙ timed slot (omega (arith, below, other))
