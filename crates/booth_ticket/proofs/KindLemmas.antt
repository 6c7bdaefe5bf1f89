-- What a kind of ticket did is what the ticket did.
use Rattle.std.proofs.Common.{◌≡◌, ℕ, List, sym, subst}
use Rattle.booth_base.specs.Tree.{Deeds}
use Rattle.booth_ticket.specs.declared.ticket.Ticket.TheInside.{Inside}
use Rattle.booth_ticket.specs.declared.waiters.Waiter.{Waiter}
use Rattle.booth_ticket.specs.Acts.{Ask, Act, Did}
use Rattle.booth_ticket.specs.Kinds.{state_of}
use Rattle.booth_ticket.specs.Ticket.{TicketLeft, TicketState}
use Rattle.booth_ticket.specs.Waiting.{waiting_at}

-- what is left of a ticket, as the code has it
abbrev left_in : Inside → List (List Waiter) → ℕ → TicketLeft
left_in inside lists list = record { ticket = state_of inside.kind; waiters = waiting_at lists list }

module _ {X : Type 0} {did : X → Act → X → Type 0} where
  pub did_by_kind : {a b b' : X} (deeds : TicketState → Deeds Ask TicketLeft) (list : ℕ) (found state : TicketState)
      (inside inside' : Inside) (lists lists' : List (List Waiter))
      → state ≡ found → inside' ≡ inside → lists' ≡ lists → b' ≡ b
      → Did did (deeds found) (record { ticket = state_of inside.kind; waiters = waiting_at lists list }) a b
      → Did did (deeds state) (record { ticket = state_of inside'.kind; waiters = waiting_at lists' list }) a b'
  did_by_kind {a} {b} {b'} deeds list found state inside inside' lists lists' same_state same_inside same_lists same_end
      done =
      subst (λ (s : TicketState). Did did (deeds s) (left_in inside' lists' list) a b') (sym same_state)
      (subst (λ (i : Inside). Did did (deeds found) (left_in i lists' list) a b') (sym same_inside)
      (subst (λ (ls : List (List Waiter)). Did did (deeds found) (left_in inside ls list) a b') (sym same_lists)
      (subst (λ (x : X). Did did (deeds found) (left_in inside lists list) a x) (sym same_end) done)))
