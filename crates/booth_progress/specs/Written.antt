-- What actions leave if each of their writes succeeds.
use Rattle.std.specs.Prelude.{◌≡◌, Bool, true}
use Rattle.booth_base.specs.Tree.{Deeds, Ends, Does}
use Rattle.booth_wire.specs.declared.message.Setup.{Setup}
use Rattle.booth_raft.specs.declared.view.View.{View}
use Rattle.booth_raft.specs.State.{State}
use Rattle.booth_ticket.specs.Acts.{Ask as TicketAsk, Keep as KeepsRecord}
use Rattle.booth_ticket.specs.Waiting.{Left}
use Rattle.booth_node.specs.Reaction.{Ask, Keep}

-- If each request gets an answer that it may get, the result has this property.
abbrev pub Whenever : {A S : Type 0} → (A → Bool → Type 0) → (S → Type 0) → Deeds A S → Type 0
Whenever MayGet Holds (Ends left) = Holds left
Whenever MayGet Holds (Does ask goes_on) = (ok : Bool) → MayGet ask ok → Whenever MayGet Holds (goes_on ok)

-- A write of a ticket succeeds. Its other requests may get any answer.
abbrev pub IsWritten : TicketAsk → Bool → Type 0
IsWritten (KeepsRecord tried) ok = ok ≡ true
IsWritten ask ok = Unit {0}

-- The same for the requests of a node.
abbrev pub IsKept : Ask → Bool → Type 0
IsKept (Keep name tried) ok = ok ≡ true
IsKept ask ok = Unit {0}

abbrev pub core_of : Setup → View → State
core_of setup view = record { setup = setup; view = view }

-- If each write succeeds, the actions leave the ticket with its setup, and with a view that has this property.
abbrev pub Leaves : Setup → (View → Type 0) → Deeds TicketAsk Left → Type 0
Leaves setup Holds deeds =
    Whenever IsWritten (λ left. (left.core.setup ≡ setup) × Holds left.core.view) deeds
