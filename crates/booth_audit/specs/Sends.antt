-- The messages that members sent, compared with the messages that others received.
use Rattle.std.specs.Prelude.{◌≡◌, ◌⊎◌, ◌↔◌, ◌++◌, ℕ, List, [], ◌∷◌, map}
use Rattle.std.specs.Prelude.{MatchOption, Option, None, Some, Ok, IfOk}
use Rattle.std.specs.List.{All, flat_map}
use Rattle.booth_base.specs.declared.address.MemberId.{MemberId}
use Rattle.booth_host.specs.declared.entry.Entry.TheVariants as entries
use Rattle.booth_node.specs.Records.{Has}
use Rattle.booth_node.specs.Session.{AreSessions, CutSend, Down, IsCut, Makes, SessionEntry}
use Rattle.booth_wire.specs.PlainMessage.{PlainMessage}
use Rattle.booth_wire.specs.Reading.{decoded}
use Rattle.booth_wire.specs.Spelling.{Fits, spelling}
use Rattle.booth_audit.specs.declared.hearings.Hears.{Hears}
use Rattle.booth_audit.specs.Faults.{AllHearSent, FirstUnsent, Heard, WasSent}
use Rattle.booth_audit.specs.Hearings.{AreCounted, heard_in}
use Rattle.booth_audit.specs.Noted.{MemberSays, noted_all, nothing_noted}
use Rattle.booth_audit.specs.Own.{AllOwn}
use Rattle.booth_audit.specs.Replay.{Event, deeds_of}

-- The id of a member, and the bytes of all that it sent.
pub record Sender : Type 0 where
  pub id : MemberId
  pub sent : List (List ℕ)

-- ---- the sends in journals

-- The bytes of a send. A send that failed or was interrupted counts.
abbrev pub sent_by : SessionEntry → List (List ℕ)
sent_by (Makes (entries.Send to bytes answer)) = bytes ∷ []
sent_by (IsCut (CutSend to bytes)) = bytes ∷ []
sent_by what = []

abbrev pub sent_in : List Event → List (List ℕ)
sent_in events = flat_map (λ (event : Event). sent_by event.what) events

abbrev pub sender_of : Heard → Sender
sender_of heard = record { id = heard.id; sent = sent_in heard.events }

abbrev pub senders_of : List Heard → List Sender
senders_of all = map sender_of all

-- ---- messages

-- The member with this id sent this message, which carries the same id.
pub record IsFrom (id : MemberId) (sent : List (List ℕ)) (message : PlainMessage) : Type 0 where
  pub same_id : id ≡ message.head.from
  pub bytes : List ℕ
  pub told : Has sent bytes
  pub same : decoded bytes ≡ Ok message

-- One of these members sent the message.
abbrev pub IsAmong : List Sender → PlainMessage → Type 0
IsAmong senders message =
    (sender : Sender) × Has senders sender × IsFrom sender.id sender.sent message

-- One of these members sent the message of a datagram.
abbrev pub IsHeardOf : List Sender → List ℕ → Type 0
IsHeardOf senders bytes = IfOk (decoded bytes) (IsAmong senders)

-- ---- frames

-- The table contains a message, in its one spelling without a signature, exactly if one of these members sent the
-- message.
abbrev pub KnowsAll : List (List ℕ) → List Sender → Type 0
KnowsAll frames senders =
    (message : PlainMessage) → Fits message → Has frames (spelling message) ↔ IsAmong senders message

-- The table contains the frames of the old one, and this frame.
abbrev pub HasOneMore : List (List ℕ) → List ℕ → List (List ℕ) → Type 0
HasOneMore old one new = (frame : List ℕ) → Has new frame ↔ (Has old frame ⊎ (one ≡ frame))

-- The table contains the frames of the old one, and the frames of one more member.
abbrev pub KnowsMore : List (List ℕ) → MemberId → List (List ℕ) → List (List ℕ) → Type 0
KnowsMore old id sent new =
    (message : PlainMessage) → Fits message
    → Has new (spelling message) ↔ (Has old (spelling message) ⊎ IsFrom id sent message)

-- ---- the first message that was not sent

-- The first message that was received and not sent is at this line. All messages before it were sent.
pub record IsFirstUnsent (senders : List Sender) (heard : List Hears) (line : ℕ) : Type 0 where
  pub before : List Hears
  pub one : Hears
  pub after : List Hears
  pub whole : heard ≡ before ++ one ∷ after
  pub earlier : All (λ (hears : Hears). IsHeardOf senders hears.bytes) before
  pub wrong : IsHeardOf senders one.bytes → ⊥
  pub place : one.line ≡ line

-- The result of a search. Without a line, each message was sent. With a line, that line has the first message that
-- was not sent.
abbrev pub IsFound : List Sender → List Hears → Option ℕ → Type 0
IsFound senders heard found =
    MatchOption found (All (λ (hears : Hears). IsHeardOf senders hears.bytes) heard) (IsFirstUnsent senders heard)

-- ---- laws

-- The sends in the journals are what the members sent, and so are the noted sends.
abbrev pub SendersTell : Type 0
SendersTell =
    ((all : List Heard) (message : PlainMessage) → IsAmong (senders_of all) message ↔ WasSent all message)
    × ((member : MemberSays) (events : List Event) → (noted_all member nothing_noted events).sent ≡ sent_in events)

-- Each turn of a member received only sent messages, or this is the line of the first message that was not sent.
abbrev pub IsUnsent : List Heard → List Event → Option ℕ → Type 0
IsUnsent all events None = AllHearSent all [] (deeds_of events)
IsUnsent all events (Some line) = FirstUnsent all events line

-- The noted messages, compared with what the members sent, give the line of `IsUnsent`.
abbrev pub UnsentIsFound : Type 0
UnsentIsFound =
    (member : MemberSays) (events : List Event) (all : List Heard) (found : Option ℕ)
    → AreSessions Down (deeds_of events) → AllOwn member.node (deeds_of events) → AreCounted events
    → IsFound (senders_of all) (heard_in member events) found → IsUnsent all events found
