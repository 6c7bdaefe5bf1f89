-- What members sent, by the events of journals and by frames of messages.
use Rattle.std.specs.Prelude.{◌↔◌, ◌⊎◌, ◌<◌, Bool, true, length, IsTrue, OnOk, None, Some, Result, Ok, Err, IfOk}
use Rattle.std.specs.List.{All}
use Rattle.std.proofs.Common.{◌≡◌, ◌+◌, ◌≤◌, inl, inr, ℕ, List, [], ◌∷◌, ◌++◌, take, drop, get_or, refl, sym, ◌∙◌, ap, subst, append_assoc, append-nil}
use Rattle.std.proofs.lemmas.List.{drop_all, drop_more, take-append-drop, take_more}
use Rattle.std.proofs.lemmas.List.Elements.{All-push, All-weaker}
use Rattle.booth_base.specs.declared.address.MemberId.{MemberId}
use Rattle.booth_host.specs.declared.entry.Entry.TheVariants as entries
use Rattle.booth_node.specs.Records.{Has}
use Rattle.booth_node.specs.Session.{CutKeep, CutNext, CutNow, CutSend, CutStart, IsCut, Makes, SessionEntry, Starts}
use Rattle.booth_node.specs.World.{IsSend}
use Rattle.booth_wire.specs.declared.message.FrameFault.{FrameFault}
use Rattle.booth_wire.specs.PlainMessage.{PlainMessage}
use Rattle.booth_wire.specs.Reading.{decoded}
use Rattle.booth_wire.specs.Spelling.{Fits, spelling}
use Rattle.booth_wire.proofs.AgainLemmas.{spelling_read}
use Rattle.booth_audit.specs.declared.hearings.Hears.{Hears}
use Rattle.booth_audit.specs.Faults.{FirstUnsent, Heard, WasSent}
use Rattle.booth_audit.specs.Hearings.{IsSent, heard_in}
use Rattle.booth_audit.specs.Noted.{MemberSays, Noted, noted, noted_all, nothing_noted}
use Rattle.booth_audit.specs.Replay.{Event}
use Rattle.booth_audit.specs.Sends.{HasOneMore, IsAmong, IsFirstUnsent, IsFrom, IsHeardOf, KnowsAll, KnowsMore, Sender, SendersTell, UnsentIsFound, sender_of, senders_of, sent_by, sent_in}
use Rattle.booth_audit.proofs.HearingsLemmas.{hearings_are_deeds}
use Rattle.booth_audit.proofs.FrameLemmas.{has_either, has_left, has_right}

-- ---- messages by their frames

abbrev reads : PlainMessage → Result PlainMessage FrameFault
reads message = Ok message

abbrev faulty : FrameFault → Result PlainMessage FrameFault
faulty fault = Err fault

one_message : (one other : PlainMessage) (read : Result PlainMessage FrameFault) → read ≡ Ok one → read ≡ Ok other
    → one ≡ other
one_message one other read is also = let both : reads one ≡ reads other = sym is ∙ also in cc

one_spelling : (one other : PlainMessage) → Fits one → Fits other → spelling one ≡ spelling other → one ≡ other
one_spelling one other fits also same =
    one_message one other (decoded (spelling one)) (spelling_read one fits)
    (ap decoded same ∙ spelling_read other also)

knows_no_more : (old : List (List ℕ)) (id : MemberId) (sent : List (List ℕ))
    → ((message : PlainMessage) → IsFrom id sent message → ⊥) → KnowsMore old id sent old
knows_no_more old id sent none message fits = (
  λ has. inl has,
  λ either. elim either [
    | inl has ↦ has
    | inr from ↦ absurd (none message from)
  ],
)

pub sent_nothing : (old : List (List ℕ)) (id : MemberId) → KnowsMore old id [] old
sent_nothing old id = knows_no_more old id [] (λ message from. from.told)

same_bytes : (bytes : List ℕ) (message : PlainMessage) (id : MemberId) → (from : IsFrom id (bytes ∷ []) message)
    → decoded bytes ≡ Ok message
same_bytes bytes message id from = by from.told
  where
    by : Has (bytes ∷ []) from.bytes → decoded bytes ≡ Ok message
    by (inl is) = ap decoded is ∙ from.same
    by (inr has) = absurd has

-- bytes that are no message
pub sent_no_message : (old : List (List ℕ)) (id : MemberId) (bytes : List ℕ) (fault : FrameFault) → decoded bytes ≡ Err fault
    → KnowsMore old id (bytes ∷ []) old
sent_no_message old id bytes fault is =
    knows_no_more old id (bytes ∷ [])
    (λ message from. let both : faulty fault ≡ reads message = sym is ∙ same_bytes bytes message id from in absurd cc)

-- a message that bears another id
pub sent_other : (old : List (List ℕ)) (id : MemberId) (bytes : List ℕ) (one : PlainMessage) → decoded bytes ≡ Ok one
    → (one.head.from ≡ id → ⊥) → KnowsMore old id (bytes ∷ []) old
sent_other old id bytes one is other =
    knows_no_more old id (bytes ∷ [])
    (λ message from.
    let same : one ≡ message = one_message one message (decoded bytes) is (same_bytes bytes message id from) in
    other (ap (λ (m : PlainMessage). m.head.from) same ∙ sym from.same_id))

-- a message of its own
pub sent_one : (old new : List (List ℕ)) (id : MemberId) (bytes : List ℕ) (one : PlainMessage) → decoded bytes ≡ Ok one
    → Fits one → one.head.from ≡ id → HasOneMore old (spelling one) new → KnowsMore old id (bytes ∷ []) new
sent_one old new id bytes one is fits own more message also = (
  λ has. elim ((more (spelling message)).0 has) [
    | inl there ↦ inl there
    | inr same ↦
        let the_message : one ≡ message = one_spelling one message fits also same in
        inr (record {
          same_id = sym own ∙ ap (λ (m : PlainMessage). m.head.from) the_message;
          bytes = bytes;
          told = inl refl;
          same = is ∙ ap reads the_message;
        })
  ],
  λ either. (more (spelling message)).1
      (elim either [
        | inl there ↦ inl there
        | inr from ↦ inr (ap spelling (one_message one message (decoded bytes) is (same_bytes bytes message id from)))
      ]),
)

pub on_kept : {T E : Type 0} {A B : Type 0} (result : Result T E) → (A → B) → OnOk result A → OnOk result B
on_kept (Ok kept) then_so so = then_so so
on_kept (Err fault) then_so so = tt

from_left : (id : MemberId) (some others : List (List ℕ)) (message : PlainMessage) → IsFrom id some message
    → IsFrom id (some ++ others) message
from_left id some others message from = record {
  same_id = from.same_id;
  bytes = from.bytes;
  told = has_left some others from.bytes from.told;
  same = from.same;
}

from_right : (id : MemberId) (some others : List (List ℕ)) (message : PlainMessage) → IsFrom id others message
    → IsFrom id (some ++ others) message
from_right id some others message from = record {
  same_id = from.same_id;
  bytes = from.bytes;
  told = has_right some others from.bytes from.told;
  same = from.same;
}

from_either : (id : MemberId) (some others : List (List ℕ)) (message : PlainMessage) → IsFrom id (some ++ others) message
    → IsFrom id some message ⊎ IsFrom id others message
from_either id some others message from = by (has_either some others from.bytes from.told)
  where
    by : Has some from.bytes ⊎ Has others from.bytes → IsFrom id some message ⊎ IsFrom id others message
    by (inl told) = inl (record { same_id = from.same_id; bytes = from.bytes; told = told; same = from.same })
    by (inr told) = inr (record { same_id = from.same_id; bytes = from.bytes; told = told; same = from.same })

-- some that one member sent, and then others
pub sent_then : (old mid new : List (List ℕ)) (id : MemberId) (some others : List (List ℕ)) → KnowsMore old id some mid
    → KnowsMore mid id others new → KnowsMore old id (some ++ others) new
sent_then old mid new id some others first more message fits = (
  λ has. elim ((more message fits).0 has) [
    | inl was ↦
        elim ((first message fits).0 was) [
          | inl there ↦ inl there
          | inr from ↦ inr (from_left id some others message from)
        ]
    | inr from ↦ inr (from_right id some others message from)
  ],
  λ either. elim either [
    | inl there ↦ (more message fits).1 (inl ((first message fits).1 (inl there)))
    | inr from ↦
        elim (from_either id some others message from) [
          | inl one ↦ (more message fits).1 (inl ((first message fits).1 (inr one)))
          | inr one ↦ (more message fits).1 (inr one)
        ]
  ],
)

-- one more of a list
pub sent_more : (old mid new : List (List ℕ)) (id : MemberId) (sent : List (List ℕ)) (i : ℕ) (item bytes : List ℕ) → i < length sent
    → item ≡ get_or sent i item → bytes ≡ item → KnowsMore old id (take i sent) mid → KnowsMore mid id (bytes ∷ []) new
    → KnowsMore old id (take (i + 1) sent) new
sent_more old mid new id sent i item bytes below is same first more =
    let whole : take (i + 1) sent ≡ take i sent ++ bytes ∷ [] =
    take_more sent i item below ∙ ap (λ (b : List ℕ). take i sent ++ b ∷ []) (sym is ∙ sym same) in
    subst (λ (taken : List (List ℕ)). KnowsMore old id taken new) (sym whole)
    (sent_then old mid new id (take i sent) (bytes ∷ []) first more)

-- ---- members

pub knows_none : KnowsAll [] []
knows_none message fits = (λ has. absurd has, λ among. absurd among.1)

pub knows_next : (old new : List (List ℕ)) (id : MemberId) (sent : List (List ℕ)) → KnowsMore old id sent new
    → (senders : List Sender) → KnowsAll old senders → KnowsAll new (senders ++ record { id = id; sent = sent } ∷ [])
knows_next old new id sent more senders knows message fits =
    let one : Sender = record { id = id; sent = sent } in
    let last : List Sender = one ∷ [] in (
      λ has. elim ((more message fits).0 has) [
        | inl there ↦
            let among = (knows message fits).0 there in
            (among.0, has_left senders last among.0 among.1, among.2)
        | inr from ↦ (one, has_right senders last one (inl refl), from)
      ],
      λ among. elim (has_either senders last among.0 among.1) [
        | inl there ↦ (more message fits).1 (inl ((knows message fits).1 (among.0, there, among.2)))
        | inr is ↦ (more message fits).1 (inr (own among.0 is among.2))
      ],
    )
  where
    own : (sender : Sender) → Has (record { id = id; sent = sent } ∷ []) sender → IsFrom sender.id sender.sent message
        → IsFrom id sent message
    own sender (inl is) from = subst (λ (s : Sender). IsFrom s.id s.sent message) (sym is) from
    own sender (inr has) from = absurd has

-- ---- one that was heard

pub heard_so : (frames : List (List ℕ)) (bytes : List ℕ) (one : PlainMessage) (result : Bool) → decoded bytes ≡ Ok one → Fits one
    → IsTrue result ↔ Has frames (spelling one) → (senders : List Sender) → KnowsAll frames senders
    → IsTrue result ↔ IsHeardOf senders bytes
heard_so frames bytes one result is fits found senders knows = (
  λ yes. subst (λ r. IfOk r (IsAmong senders)) (sym is) ((knows one fits).0 (found.0 yes)),
  λ heard. found.1 ((knows one fits).1 (subst (λ r. IfOk r (IsAmong senders)) is heard)),
)

pub no_message_heard : (bytes : List ℕ) (fault : FrameFault) → decoded bytes ≡ Err fault → (senders : List Sender)
    → IsTrue true ↔ IsHeardOf senders bytes
no_message_heard bytes fault is senders =
    (λ yes. subst (λ r. IfOk r (IsAmong senders)) (sym is) tt, λ heard. refl)

module _ (senders : List Sender) (heard : List Hears) (i : ℕ) where
  abbrev IsKnown : Hears → Type 0
  IsKnown hears = IsHeardOf senders hears.bytes

  module _ (one : Hears) (below : i < length heard) (is : one ≡ get_or heard i one) (sent : All IsKnown (take i heard)) where
    pub first_here : (IsHeardOf senders one.bytes → ⊥) → IsFirstUnsent senders heard one.line
    first_here wrong = record {
      before = take i heard;
      one = one;
      after = drop (i + 1) heard;
      whole = sym (take-append-drop i heard)
          ∙ ap (λ (rest : List Hears). take i heard ++ rest)
          (drop_more heard i one below ∙ ap (λ (h : Hears). h ∷ drop (i + 1) heard) (sym is));
      earlier = sent;
      wrong = wrong;
      place = refl;
    }

    pub known_more : IsHeardOf senders one.bytes → All IsKnown (take (i + 1) heard)
    known_more known =
        let whole : take (i + 1) heard ≡ take i heard ++ one ∷ [] =
        take_more heard i one below ∙ ap (λ (h : Hears). take i heard ++ h ∷ []) (sym is) in
        subst (All IsKnown) (sym whole) (All-push IsKnown (take i heard) one sent known)

  pub all_known : length heard ≤ i → All IsKnown (take i heard) → All IsKnown heard
  all_known over sent =
      let whole : take i heard ≡ heard =
      sym (append-nil (take i heard)) ∙ ap (λ (rest : List Hears). take i heard ++ rest) (sym (drop_all i heard over))
      ∙ take-append-drop i heard in
      subst (All IsKnown) whole sent

-- ---- journals

told_by : (what : SessionEntry) (bytes : List ℕ) → Has (sent_by what) bytes → IsSend what bytes
told_by (Starts node reading records) bytes has = absurd has
told_by (Makes (entries.Send to sent answer)) bytes (inl is) = is
told_by (Makes (entries.Send to sent answer)) bytes (inr has) = absurd has
told_by (Makes (entries.Open local port records conf_path answer)) bytes has = absurd has
told_by (Makes (entries.Next wait answer more)) bytes has = absurd has
told_by (Makes (entries.Now reading)) bytes has = absurd has
told_by (Makes (entries.ReadFile path answer)) bytes has = absurd has
told_by (Makes (entries.Lock path answer)) bytes has = absurd has
told_by (Makes (entries.Kept name answer)) bytes has = absurd has
told_by (Makes (entries.Keep name kept answer)) bytes has = absurd has
told_by (Makes (entries.Start number name handler local expires answer)) bytes has = absurd has
told_by (Makes (entries.Out text answer)) bytes has = absurd has
told_by (Makes (entries.Err text answer)) bytes has = absurd has
told_by (IsCut (CutSend to sent)) bytes (inl is) = is
told_by (IsCut (CutSend to sent)) bytes (inr has) = absurd has
told_by (IsCut CutNext) bytes has = absurd has
told_by (IsCut CutNow) bytes has = absurd has
told_by (IsCut (CutKeep name kept)) bytes has = absurd has
told_by (IsCut (CutStart job)) bytes has = absurd has

by_send : (what : SessionEntry) (bytes : List ℕ) → IsSend what bytes → Has (sent_by what) bytes
by_send (Starts node reading records) bytes is = absurd is
by_send (Makes (entries.Send to sent answer)) bytes is = inl is
by_send (Makes (entries.Open local port records conf_path answer)) bytes is = absurd is
by_send (Makes (entries.Next wait answer more)) bytes is = absurd is
by_send (Makes (entries.Now reading)) bytes is = absurd is
by_send (Makes (entries.ReadFile path answer)) bytes is = absurd is
by_send (Makes (entries.Lock path answer)) bytes is = absurd is
by_send (Makes (entries.Kept name answer)) bytes is = absurd is
by_send (Makes (entries.Keep name kept answer)) bytes is = absurd is
by_send (Makes (entries.Start number name handler local expires answer)) bytes is = absurd is
by_send (Makes (entries.Out text answer)) bytes is = absurd is
by_send (Makes (entries.Err text answer)) bytes is = absurd is
by_send (IsCut (CutSend to sent)) bytes is = inl is
by_send (IsCut CutNext) bytes is = absurd is
by_send (IsCut CutNow) bytes is = absurd is
by_send (IsCut (CutKeep name kept)) bytes is = absurd is
by_send (IsCut (CutStart job)) bytes is = absurd is

-- an event by which these bytes were sent
record Told (events : List Event) (bytes : List ℕ) : Type 0 where
  pub event : Event
  pub told : Has events event
  pub sent : IsSend event.what bytes

told_in : (events : List Event) (bytes : List ℕ) → Has (sent_in events) bytes → Told events bytes
told_in [] bytes has = absurd has
told_in (event ∷ events) bytes has =
    elim (has_either (sent_by event.what) (sent_in events) bytes has) [
      | inl here ↦ record { event = event; told = inl refl; sent = told_by event.what bytes here }
      | inr there ↦
          let told = told_in events bytes there in record { event = told.event; told = inr told.told; sent = told.sent }
    ]

sent_where : (events : List Event) (event : Event) (bytes : List ℕ) → Has events event → IsSend event.what bytes
    → Has (sent_in events) bytes
sent_where [] event bytes has sent = absurd has
sent_where (first ∷ events) event bytes (inl is) sent =
    has_left (sent_by first.what) (sent_in events) bytes
    (by_send first.what bytes (subst (λ (e : Event). IsSend e.what bytes) (sym is) sent))
sent_where (first ∷ events) event bytes (inr has) sent =
    has_right (sent_by first.what) (sent_in events) bytes (sent_where events event bytes has sent)

one_more : (one : Heard) (all : List Heard) (message : PlainMessage) → WasSent all message → WasSent (one ∷ all) message
one_more one all message was = record {
  sender = was.sender;
  known = inr was.known;
  same_id = was.same_id;
  event = was.event;
  told = was.told;
  bytes = was.bytes;
  sent = was.sent;
  same = was.same;
}

was_sent : (all : List Heard) (message : PlainMessage) (sender : Sender) → Has (senders_of all) sender
    → IsFrom sender.id sender.sent message → WasSent all message
was_sent [] message sender has from = absurd has
was_sent (one ∷ all) message sender (inr has) from = one_more one all message (was_sent all message sender has from)
was_sent (one ∷ all) message sender (inl is) from =
    let own : IsFrom one.id (sent_in one.events) message =
    subst (λ (s : Sender). IsFrom s.id s.sent message) (sym is) from in
    let told = told_in one.events own.bytes own.told in
    record {
      sender = one;
      known = inl refl;
      same_id = own.same_id;
      event = told.event;
      told = told.told;
      bytes = own.bytes;
      sent = told.sent;
      same = own.same;
    }

sender_has : (all : List Heard) (one : Heard) → Has all one → Has (senders_of all) (sender_of one)
sender_has [] one has = absurd has
sender_has (first ∷ all) one (inl is) = inl (ap sender_of is)
sender_has (first ∷ all) one (inr has) = inr (sender_has all one has)

is_among : (all : List Heard) (message : PlainMessage) → WasSent all message → IsAmong (senders_of all) message
is_among all message was = (
  sender_of was.sender,
  sender_has all was.sender was.known,
  record {
    same_id = was.same_id;
    bytes = was.bytes;
    told = sent_where was.sender.events was.event was.bytes was.told was.sent;
    same = was.same;
  },
)

-- ---- what is noted as sent

noted_one : (member : MemberSays) (notes : Noted) (what : SessionEntry)
    → (noted member notes what).sent ≡ notes.sent ++ sent_by what
noted_one member notes (Starts node reading records) = sym (append-nil notes.sent)
noted_one member notes (Makes (entries.Send to sent answer)) = refl
noted_one member notes (Makes (entries.Open local port records conf_path answer)) = sym (append-nil notes.sent)
noted_one member notes (Makes (entries.Next wait answer more)) = sym (append-nil notes.sent)
noted_one member notes (Makes (entries.Now reading)) = sym (append-nil notes.sent)
noted_one member notes (Makes (entries.ReadFile path answer)) = sym (append-nil notes.sent)
noted_one member notes (Makes (entries.Lock path answer)) = sym (append-nil notes.sent)
noted_one member notes (Makes (entries.Kept name answer)) = sym (append-nil notes.sent)
noted_one member notes (Makes (entries.Keep name kept answer)) = sym (append-nil notes.sent)
noted_one member notes (Makes (entries.Start number name handler local expires answer)) = sym (append-nil notes.sent)
noted_one member notes (Makes (entries.Out text answer)) = sym (append-nil notes.sent)
noted_one member notes (Makes (entries.Err text answer)) = sym (append-nil notes.sent)
noted_one member notes (IsCut (CutSend to sent)) = refl
noted_one member notes (IsCut CutNext) = sym (append-nil notes.sent)
noted_one member notes (IsCut CutNow) = sym (append-nil notes.sent)
noted_one member notes (IsCut (CutKeep name kept)) = sym (append-nil notes.sent)
noted_one member notes (IsCut (CutStart job)) = sym (append-nil notes.sent)

noted_sent : (member : MemberSays) (events : List Event) (notes : Noted)
    → (noted_all member notes events).sent ≡ notes.sent ++ sent_in events
noted_sent member [] notes = sym (append-nil notes.sent)
noted_sent member (event ∷ events) notes =
    noted_sent member events (noted member notes event.what)
    ∙ ap (λ (sent : List (List ℕ)). sent ++ sent_in events) (noted_one member notes event.what)
    ∙ append_assoc notes.sent (sent_by event.what) (sent_in events)

pub senders_tell : SendersTell
senders_tell = (
  λ all message. (λ among. was_sent all message among.0 among.1 among.2, is_among all message),
  λ member events. noted_sent member events nothing_noted,
)

-- ---- what is found

if_ok : {T E : Type 0} (result : Result T E) (P Q : T → Type 0) → ((x : T) → P x → Q x) → IfOk result P → IfOk result Q
if_ok (Ok x) P Q then_so so = then_so x so
if_ok (Err fault) P Q then_so so = tt

module _ (all : List Heard) where
  sent_too : (hears : Hears) → IsHeardOf (senders_of all) hears.bytes → IsSent all hears
  sent_too hears heard =
      if_ok (decoded hears.bytes) (IsAmong (senders_of all)) (WasSent all)
      (λ message among. was_sent all message among.0 among.1 among.2) heard

  heard_too : (hears : Hears) → IsSent all hears → IsHeardOf (senders_of all) hears.bytes
  heard_too hears sent = if_ok (decoded hears.bytes) (WasSent all) (IsAmong (senders_of all)) (is_among all) sent

  all_sent_too : (heard : List Hears) → All (λ (hears : Hears). IsHeardOf (senders_of all) hears.bytes) heard
      → All (IsSent all) heard
  all_sent_too heard known =
      All-weaker (λ (hears : Hears). IsHeardOf (senders_of all) hears.bytes) (IsSent all) sent_too heard known

pub unsent_is_found : UnsentIsFound
unsent_is_found member events all None are own counted found =
    (hearings_are_deeds member events all are own counted).sent.1 (all_sent_too all (heard_in member events) found)
unsent_is_found member events all (Some line) are own counted found =
    subst (λ (at : ℕ). FirstUnsent all events at) found.place
    ((hearings_are_deeds member events all are own counted).first found.before found.after found.one found.whole
    (all_sent_too all found.before found.earlier) (λ sent. found.wrong (heard_too all found.one sent)))
