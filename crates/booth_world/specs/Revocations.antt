-- A member's turn then informs each other member that a term was released.
use Rattle.std.specs.Prelude.{◌≡◌, ◌⊎◌, ℕ, ◌==◌, ◌++◌, not, Bool, List, [], ◌∷◌, Some}
use Rattle.std.specs.List.{filter, range_with_len}
use Rattle.booth_base.specs.Tree.{Deeds, Does}
use Rattle.booth_conf.specs.Config.{ConfigSays}
use Rattle.booth_wire.specs.declared.command.Cmd.TheVariants.{Revk}
use Rattle.booth_wire.specs.declared.message.TicketPart.{TicketPart}
use Rattle.booth_wire.specs.PlainMessage.{PlainMessage, Ticket}
use Rattle.booth_ticket.specs.declared.hands.To.TheVariants.{Member}
use Rattle.booth_node.specs.Reaction.{Ask, Send, peer_of}
use Rattle.booth_node.specs.Session.{Stand, Doing}
use Rattle.booth_node.specs.World.{WorldEntry, World, members_of}

-- The places of the other members, in the order of the configuration.
abbrev pub others_of : World → ℕ → List ℕ
others_of w m = filter (λ place. not (place == m)) (range_with_len 0 (members_of w))

-- The message announces that this term of the ticket was released.
pub record IsRevocation (name : List ℕ) (term : ℕ) (message : PlainMessage) : Type 0 where
  pub part : TicketPart
  pub revokes : message.head.cmd ≡ Revk
  pub about : message.content ≡ Ticket part
  pub named : part.ticket ≡ name
  pub same_term : part.term ≡ term

-- Whatever the answers are, these actions begin with sends: one message with this property to each of these members.
abbrev pub SendsEach : {S : Type 0} → ConfigSays → List ℕ → (PlainMessage → Type 0) → Deeds Ask S → Type 0
SendsEach config [] P deeds = Unit {0}
SendsEach config (place ∷ places) P (Does (Send peer message) go) =
    (peer_of config (Member place) ≡ Some peer) × P message × ((ok : Bool) → SendsEach config places P (go ok))
SendsEach config (place ∷ places) P deeds = ⊥

-- A member in this state then informs each other member that the term was released.
abbrev pub GoesOnToRevoke : World → List ℕ → ℕ → ℕ → Stand → Type 0
GoesOnToRevoke w name term m (Doing node deeds) =
    SendsEach node.config (others_of w m) (IsRevocation name term) deeds
GoesOnToRevoke w name term m stand = ⊥

-- The property holds for one of these entries, together with all entries before it.
abbrev pub AtSome : List WorldEntry → List WorldEntry → (List WorldEntry → WorldEntry → Type 0) → Type 0
AtSome before [] P = ⊥
AtSome before (entry ∷ entries) P = P before entry ⊎ AtSome (before ++ entry ∷ []) entries P
