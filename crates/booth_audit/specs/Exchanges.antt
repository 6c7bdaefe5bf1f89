-- The messages that all members sent and received, and the fault of the first message that was received and not sent.
use Rattle.std.specs.Prelude.{◌≡◌, ℕ, List, [], ◌∷◌, map, slice_get, take, Some, Result, Ok, Err}
use Rattle.std.specs.List.{All}
use Rattle.booth_node.specs.Session.{AreSessions, Down}
use Rattle.booth_journal.specs.declared.audit_fault.AuditFault.{AuditFault}
use Rattle.booth_journal.specs.declared.audit_fault.AuditFault.TheVariants as faults
use Rattle.booth_audit.specs.declared.exchanges.Exchange.{Exchange}
use Rattle.booth_audit.specs.declared.hearings.Hears.{Hears}
use Rattle.booth_audit.specs.Faults.{AllHearSent, FirstUnsent, Heard}
use Rattle.booth_audit.specs.Hearings.{AreCounted, heard_in}
use Rattle.booth_audit.specs.Noted.{MemberSays}
use Rattle.booth_audit.specs.Own.{AllOwn}
use Rattle.booth_audit.specs.Replay.{deeds_of}
use Rattle.booth_audit.specs.Sends.{IsFirstUnsent, IsHeardOf, Sender, sent_in}

abbrev pub sender_in : Exchange → Sender
sender_in exchange = record { id = exchange.id; sent = exchange.sent.now }

abbrev pub senders_in : List Exchange → List Sender
senders_in exchanges = map sender_in exchanges

-- Every message that the member received was sent.
abbrev pub HeardWell : List Sender → Exchange → Type 0
HeardWell senders exchange = All (λ (hears : Hears). IsHeardOf senders hears.bytes) exchange.heard.now

-- The first member that received a message which was not sent.
pub record IsFirstIn (senders : List Sender) (exchanges : List Exchange) (place line : ℕ) : Type 0 where
  pub exchange : Exchange
  pub is : slice_get exchanges place ≡ Some exchange
  pub earlier : All (HeardWell senders) (take place exchanges)
  pub wrong : IsFirstUnsent senders exchange.heard.now line

-- All messages were sent, or this is the first message that was not sent. Out of memory may come in place of both.
abbrev pub IsToldSo : List Sender → List Exchange → Result (Unit {0}) AuditFault → Type 0
IsToldSo senders exchanges (Ok done) = All (HeardWell senders) exchanges
IsToldSo senders exchanges (Err (faults.Unsent place line)) = IsFirstIn senders exchanges place line
IsToldSo senders exchanges (Err faults.OutOfMemory) = Unit {0}
IsToldSo senders exchanges (Err fault) = ⊥

-- ---- exchanges and their journals

-- The exchange has the messages that the journal shows for its member.
pub record Tells (one : Heard) (exchange : Exchange) : Type 0 where
  pub member : MemberSays
  pub same_id : exchange.id ≡ one.id
  pub sent : exchange.sent.now ≡ sent_in one.events
  pub heard : exchange.heard.now ≡ heard_in member one.events
  pub sessions : AreSessions Down (deeds_of one.events)
  pub own : AllOwn member.node (deeds_of one.events)
  pub counted : AreCounted one.events

-- Each exchange fits its journal, in order.
abbrev pub AllTell : List Heard → List Exchange → Type 0
AllTell [] [] = Unit {0}
AllTell (one ∷ all) (exchange ∷ exchanges) = Tells one exchange × AllTell all exchanges
AllTell all exchanges = ⊥

abbrev pub HearsAll : List Heard → Heard → Type 0
HearsAll all one = AllHearSent all [] (deeds_of one.events)

-- The first journal with a message that was received and not sent, and the line of that message.
pub record IsUnsentIn (all : List Heard) (place line : ℕ) : Type 0 where
  pub one : Heard
  pub is : slice_get all place ≡ Some one
  pub before : All (HearsAll all) (take place all)
  pub wrong : FirstUnsent all one.events line

abbrev pub IsUnsentFault : List Heard → Result (Unit {0}) AuditFault → Type 0
IsUnsentFault all (Ok done) = All (HearsAll all) all
IsUnsentFault all (Err (faults.Unsent place line)) = IsUnsentIn all place line
IsUnsentFault all (Err faults.OutOfMemory) = Unit {0}
IsUnsentFault all (Err fault) = ⊥

-- The answer about the exchanges is the fault of their journals, or states that there is no fault.
abbrev pub ExchangesTell : Type 0
ExchangesTell =
    (all : List Heard) (exchanges : List Exchange) (result : Result (Unit {0}) AuditFault) → AllTell all exchanges
    → IsToldSo (senders_in exchanges) exchanges result → IsUnsentFault all result
