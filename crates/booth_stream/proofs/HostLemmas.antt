-- What a next and a send of a host over streams did, from the parts that did it.
use Rattle.std.specs.Prelude.{Option, Result, Ok}
use Rattle.std.proofs.Common.{◌≡◌, ℕ, List, [], ◌∷◌, ◌++◌, refl, sym, ◌∙◌, ap, inl, inr, append-nil, subst}
use Rattle.std.specs.List.{All}
use Rattle.booth_base.specs.declared.address.Peer.{Peer}
use Rattle.booth_host.specs.declared.entry.Entry.{Entry}
use Rattle.booth_host.specs.declared.entry.Entry.TheVariants.{Send}
use Rattle.booth_host.specs.declared.host.Arrival.{Arrival}
use Rattle.booth_host.specs.declared.host.Arrival.TheVariants.{Datagram}
use Rattle.booth_host.specs.declared.host.Failed.{Failed}
use Rattle.booth_host.specs.Past.{GrewBy}
use Rattle.booth_host.proofs.PastLemmas.{no_entry}
use Rattle.booth_stream.specs.declared.link_call.LinkCall.{LinkCall}
use Rattle.booth_stream.specs.declared.links.LinkEvent.{LinkEvent}
use Rattle.booth_stream.specs.declared.stream_host.Wrote.{Wrote}
use Rattle.booth_stream.specs.declared.stream_host.Wrote.TheVariants as wrotes
use Rattle.booth_stream.specs.Calls.{CallsGrewBy}
use Rattle.booth_stream.specs.Places.{OpenLink, Gives, NoneWhole, Polls, closings, unbroken}
use Rattle.booth_stream.specs.Slots.{IsOpen, IsNotOf}
use Rattle.booth_stream.specs.Steps.{BothGrew, IsNext, Ready, Arrived, Passed, AnswersElse, IsSend, Linked, SentOn, Writes, EndsWrites, StaysOrCounts, own_after, own_count}
use Rattle.booth_stream.proofs.CallLemmas.{no_call, calls_joined}
use Rattle.booth_stream.proofs.StepLemmas.{both_of}
use Rattle.booth_stream.proofs.WriteLemmas.{own_counted}

-- a frame was there
pub ready_next : (old new : List (Option OpenLink)) (wait : ℕ) (peer : Peer) (bytes : List ℕ) (calls : List LinkCall)
    {links linked : Option (List LinkCall)} {host : Option (List Entry)} → CallsGrewBy links linked calls
    → Gives old peer bytes new → calls ≡ []
    → BothGrew (λ made entries. IsNext old wait made entries (Ok (Datagram peer)) bytes new) links linked host host
ready_next old new wait peer bytes calls grew gives none =
    both_of (λ made entries. IsNext old wait made entries (Ok (Datagram peer)) bytes new) grew no_entry
    (Ready peer gives refl none refl)

-- one came with the poll
pub arrived_next : (old mid new : List (Option OpenLink)) (wait : ℕ) (peer : Peer) (bytes : List ℕ)
    (polled : Result LinkEvent Failed) (calls more : List LinkCall) {links linked ended : Option (List LinkCall)}
    {host : Option (List Entry)} → CallsGrewBy links linked calls → Polls old polled calls mid
    → CallsGrewBy linked ended more → more ≡ [] → Gives mid peer bytes new
    → BothGrew (λ made entries. IsNext old wait made entries (Ok (Datagram peer)) bytes new) links ended host host
arrived_next old mid new wait peer bytes polled calls more {links} {linked} {ended} grew polls last none gives =
    let is : calls ++ more ≡ calls = ap (λ (l : List LinkCall). calls ++ l) none ∙ append-nil calls in
    both_of (λ made entries. IsNext old wait made entries (Ok (Datagram peer)) bytes new) (calls_joined grew last) no_entry
    (Arrived polled mid peer (subst (λ (l : List LinkCall). Polls old polled l mid) (sym is) polls) gives refl refl)

-- none came
pub passed_next : (old mid new : List (Option OpenLink)) (wait : ℕ) (answer : Result Arrival Failed) (bytes : List ℕ)
    (polled : Result LinkEvent Failed) (calls more : List LinkCall) (entries : List Entry)
    {links linked ended : Option (List LinkCall)} {host hosted : Option (List Entry)}
    → CallsGrewBy links linked calls → Polls old polled calls mid → CallsGrewBy linked ended more → NoneWhole mid
    → more ≡ closings mid → new ≡ unbroken mid → GrewBy host hosted entries → AnswersElse wait polled entries answer bytes
    → BothGrew (λ made given. IsNext old wait made given answer bytes new) links ended host hosted
passed_next old mid new wait answer bytes polled calls more entries grew polls last none closes now inside answers =
    both_of (λ made given. IsNext old wait made given answer bytes new) (calls_joined grew last) inside
    (Passed polled mid calls polls none (ap (λ (l : List LinkCall). calls ++ l) closes) now answers)

-- a link was written to
pub linked_send : (old new : List (Option OpenLink)) (to : Peer) (bytes : List ℕ) (number : ℕ) (wrote : Wrote)
    (writes calls : List LinkCall) (answer : Result (Unit {0}) Failed) (before now : ℕ) {links linked : Option (List LinkCall)}
    {host : Option (List Entry)} → IsOpen old to number → CallsGrewBy links linked calls → Writes number bytes writes wrote
    → EndsWrites old number wrote writes calls answer new → now ≡ own_after wrote before
    → BothGrew (λ calls entries. IsSend old to bytes calls entries answer new × (now ≡ own_count before calls))
    links linked host host
linked_send old new to bytes number wrote writes calls answer before now open_to grew written ends counted =
    both_of (λ made entries. IsSend old to bytes made entries answer new × (now ≡ own_count before made)) grew no_entry (
      Linked number wrote writes open_to written ends refl,
      counted ∙ sym (own_counted old new number bytes writes calls wrote answer before written ends),
    )

-- the host's own count stays, or the answer is a failure
pub own_stays : (old new : List (Option OpenLink)) (number : ℕ) (wrote : Wrote) (writes calls : List LinkCall)
    (answer : Result (Unit {0}) Failed) (before now : ℕ) → EndsWrites old number wrote writes calls answer new
    → now ≡ own_after wrote before → StaysOrCounts before now answer
own_stays old new number wrotes.All writes calls answer before now ends counted = inl counted
own_stays old new number wrotes.Nothing writes calls answer before now ends counted = inr (ends.0, counted)
own_stays old new number wrotes.Fault writes calls answer before now ends counted = inl counted

-- the host inside sent
pub sent_on : (places : List (Option OpenLink)) (to : Peer) (bytes : List ℕ) (answer : Result (Unit {0}) Failed) (own : ℕ)
    {links : Option (List LinkCall)} {host hosted : Option (List Entry)} → All (IsNotOf to) places
    → GrewBy host hosted (Send to bytes answer ∷ [])
    → BothGrew (λ calls entries. IsSend places to bytes calls entries answer places × (own ≡ own_count own calls))
    links links host hosted
sent_on places to bytes answer own unreached grew =
    both_of (λ made entries. IsSend places to bytes made entries answer places × (own ≡ own_count own made)) no_call grew
    (SentOn unreached refl refl refl, refl)
