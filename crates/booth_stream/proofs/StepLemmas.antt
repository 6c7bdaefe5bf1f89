-- What the calls of a host over streams come to.
use Rattle.std.specs.Prelude.{take, drop, min, Bool, true, false, Option, if◌then◌else◌, Some, None, Result, Ok, Err, position, slice_set}
use Rattle.std.specs.List.{flat_map, list_any}
use Rattle.std.proofs.Common.{◌≡◌, ℕ, ◌+◌, ◌-◌, ◌^◌, ◌≤◌, List, [], ◌∷◌, ◌++◌, refl, sym, ◌∙◌, ap, inl, inr, arith}
use Rattle.std.proofs.lemmas.List.{take-append-drop}
use Rattle.booth_base.specs.declared.address.Peer.{Peer}
use Rattle.booth_host.specs.declared.entry.Entry.{Entry}
use Rattle.booth_host.specs.declared.host.Failed.{Failed}
use Rattle.booth_host.specs.Causes.{Rose, HasCause}
use Rattle.booth_host.specs.Past.{GrewBy}
use Rattle.booth_stream.specs.Calls.{CallsGrewBy}
use Rattle.booth_stream.specs.Places.{OpenLink, Gives, Polls, closing, closings, has_number, is_broken, is_free, placed, unbroken, without, after_poll}
use Rattle.booth_stream.specs.Runs.{Happening, Polled, Given, Pruned, Left, IsGiven, AreOf, OfLink, Else, NextHappens, SendHappens, WrittenIsWhole, polls_in, taken_by}
use Rattle.booth_stream.specs.Steps.{BothGrew, Ready, Arrived, Passed, Linked, SentOn, Stops, Writes, EndsWrites, summed}
use Rattle.booth_stream.specs.declared.link_call.LinkCall.{LinkCall}
use Rattle.booth_stream.specs.declared.link_call.LinkCall.TheVariants.{Close, Open, Poll, Write}
use Rattle.booth_stream.specs.declared.links.LinkEvent.{LinkEvent}
use Rattle.booth_stream.specs.declared.links.LinkEvent.TheVariants.{Opened, Bytes, Ended, Quiet}
use Rattle.booth_stream.specs.declared.stream_host.Wrote.{Wrote}
use Rattle.booth_stream.specs.declared.stream_host.Wrote.TheVariants as wrotes

-- ---- calls of both devices

pub both_of : (P : List LinkCall → List Entry → Type 0) {links linked : Option (List LinkCall)} {host hosted : Option (List Entry)}
    {calls : List LinkCall} {entries : List Entry} → CallsGrewBy links linked calls → GrewBy host hosted entries → P calls entries
    → BothGrew P links linked host hosted
both_of P {links} {linked} {host} {hosted} {calls} {entries} of_links of_host holds = record {
  grew = λ told told_host. (calls, entries, of_links.grew told, of_host.grew told_host, holds);
}

-- ---- faults

most : ℕ
most = 2 ^ 64 - 1

sum_later : (m h l o h2 l2 o2 : ℕ) → h ≤ h2 → l ≤ l2 → o ≤ o2 → min (h + l + o) m ≤ min (h2 + l2 + o2) m
sum_later m h l o h2 l2 o2 a b c = omega (arith, a, b, c)

sum_rose_host : (m h l o h2 l2 o2 : ℕ) → min (h + 1) m ≤ h2 → l ≤ l2 → o ≤ o2
    → min (min (h + l + o) m + 1) m ≤ min (h2 + l2 + o2) m
sum_rose_host m h l o h2 l2 o2 a b c = omega (arith, a, b, c)

sum_rose_links : (m h l o h2 l2 o2 : ℕ) → h ≤ h2 → min (l + 1) m ≤ l2 → o ≤ o2
    → min (min (h + l + o) m + 1) m ≤ min (h2 + l2 + o2) m
sum_rose_links m h l o h2 l2 o2 a b c = omega (arith, a, b, c)

sum_rose_own : (m h l o h2 l2 o2 : ℕ) → h ≤ h2 → l ≤ l2 → min (o + 1) m ≤ o2
    → min (min (h + l + o) m + 1) m ≤ min (h2 + l2 + o2) m
sum_rose_own m h l o h2 l2 o2 a b c = omega (arith, a, b, c)

pub summed_later : (h l o h2 l2 o2 : ℕ) → h ≤ h2 → l ≤ l2 → o ≤ o2 → summed h l o ≤ summed h2 l2 o2
summed_later h l o h2 l2 o2 a b c = sum_later (2 ^ 64 - 1) h l o h2 l2 o2 a b c

pub rose_host : (h l o h2 l2 o2 : ℕ) → Rose h h2 → l ≤ l2 → o ≤ o2 → Rose (summed h l o) (summed h2 l2 o2)
rose_host h l o h2 l2 o2 a b c = sum_rose_host (2 ^ 64 - 1) h l o h2 l2 o2 a b c

pub rose_links : (h l o h2 l2 o2 : ℕ) → h ≤ h2 → Rose l l2 → o ≤ o2 → Rose (summed h l o) (summed h2 l2 o2)
rose_links h l o h2 l2 o2 a b c = sum_rose_links (2 ^ 64 - 1) h l o h2 l2 o2 a b c

pub rose_own : (h l o h2 l2 o2 : ℕ) → h ≤ h2 → l ≤ l2 → Rose o o2 → Rose (summed h l o) (summed h2 l2 o2)
rose_own h l o h2 l2 o2 a b c = sum_rose_own (2 ^ 64 - 1) h l o h2 l2 o2 a b c

-- the host inside has the cause
pub host_cause : {T : Type 0} (result : Result T Failed) (h l o h2 l2 : ℕ) → HasCause h h2 result → l ≤ l2
    → HasCause (summed h l o) (summed h2 l2 o) result
host_cause (Ok value) h l o h2 l2 cause b = record { later = summed_later h l o h2 l2 o cause.later b (omega arith); failed = tt }
host_cause (Err fault) h l o h2 l2 cause b = record {
  later = summed_later h l o h2 l2 o cause.later b (omega arith);
  failed = rose_host h l o h2 l2 o cause.failed b (omega arith);
}

-- ---- runs

gives_happens : (old new : List (Option OpenLink)) (peer : Peer) (bytes : List ℕ) → (gives : Gives old peer bytes new)
    → IsGiven old gives.gives.link.number bytes new
gives_happens old new peer bytes gives = record {
  place = gives.place;
  link = gives.gives.link;
  left = gives.gives.left;
  there = gives.there ∙ ap Some gives.gives.was;
  named = refl;
  frame = gives.gives.frame;
  begins = gives.gives.begins;
  now = gives.now ∙ ap (λ (l : Option OpenLink). slice_set old gives.place l) gives.gives.now;
}

polls-append : (xs ys : List LinkCall) → polls_in (xs ++ ys) ≡ polls_in xs ++ polls_in ys
polls-append [] ys = refl
polls-append (Poll answer bytes ∷ xs) ys = ap (λ l. (answer, bytes) ∷ l) (polls-append xs ys)
polls-append (Open local port answer ∷ xs) ys = polls-append xs ys
polls-append (Write link bytes answer ∷ xs) ys = polls-append xs ys
polls-append (Close link ∷ xs) ys = polls-append xs ys

close_if : (b : Bool) (number : ℕ) → polls_in (if b then Close number ∷ [] else []) ≡ []
close_if true number = refl
close_if false number = refl

no_poll : (place : Option OpenLink) → polls_in (closing place) ≡ []
no_poll None = refl
no_poll (Some link) = close_if (is_broken link.rest) link.number

no_polls : (places : List (Option OpenLink)) → polls_in (closings places) ≡ []
no_polls [] = refl
no_polls (place ∷ places) =
    polls-append (closing place) (closings places) ∙ ap (λ l. l ++ polls_in (closings places)) (no_poll place) ∙ no_polls places

no_placed : (number : ℕ) (peer : Peer) (places : List (Option OpenLink)) (free : Option ℕ)
    → polls_in (placed number peer places free).calls ≡ []
no_placed number peer places None = refl
no_placed number peer places (Some place) = refl

no_after : (answer : Result LinkEvent Failed) (bytes : List ℕ) (places : List (Option OpenLink))
    → polls_in (after_poll answer bytes places).calls ≡ []
no_after (Err fault) bytes places = refl
no_after (Ok (Opened number peer)) bytes places =
    no_placed number peer (without number places) (position is_free (without number places))
no_after (Ok (Bytes number)) bytes places = refl
no_after (Ok (Ended number)) bytes places = close_if (list_any (has_number number) places) number
no_after (Ok Quiet) bytes places = refl

one_poll : (old mid : List (Option OpenLink)) (polled : Result LinkEvent Failed) (calls : List LinkCall)
    → (polls : Polls old polled calls mid) → polls_in calls ≡ (polled, polls.bytes) ∷ []
one_poll old mid polled calls polls =
    let later = (after_poll polled polls.bytes (unbroken old)).calls in
    ap polls_in polls.does ∙ polls-append (closings old) (Poll polled polls.bytes ∷ later)
    ∙ ap (λ l. l ++ (polled, polls.bytes) ∷ polls_in later) (no_polls old)
    ∙ ap (λ l. (polled, polls.bytes) ∷ l) (no_after polled polls.bytes (unbroken old))

pub next_happens : NextHappens
next_happens old new wait calls entries answer bytes is = elim is [
  | Ready peer gives answers none inside ↦ (
    Given gives.gives.link.number bytes ∷ [],
    bytes ∷ [],
    record {
      leads = (old, refl, gives_happens old new peer bytes gives);
      polls = ap polls_in (sym none);
      gives = refl;
    },
    OfLink peer refl answers inside,
  )
  | Arrived polled mid peer polls gives answers inside ↦ (
    Given gives.gives.link.number bytes ∷ Polled polled polls.bytes ∷ Pruned ∷ [],
    bytes ∷ [],
    record {
      leads = (mid, (unbroken old, (old, refl, refl), polls.now), gives_happens mid new peer bytes gives);
      polls = sym (one_poll old mid polled calls polls);
      gives = refl;
    },
    OfLink peer refl answers inside,
  )
  | Passed polled mid first polls none does now answers ↦
      let one : polls_in calls ≡ (polled, polls.bytes) ∷ [] =
      ap polls_in does ∙ polls-append first (closings mid) ∙ ap (λ l. l ++ polls_in (closings mid)) (one_poll old mid polled first polls)
      ∙ ap (λ l. (polled, polls.bytes) ∷ l) (no_polls mid) in (
        Pruned ∷ Polled polled polls.bytes ∷ Pruned ∷ [],
        [],
        record {
          leads = (mid, (unbroken old, (old, refl, refl), polls.now), now);
          polls = sym one;
          gives = refl;
        },
        Else polled polls.bytes refl one answers,
      )
]

writes_polls : (number : ℕ) (bytes : List ℕ) (calls : List LinkCall) (wrote : Wrote) → Writes number bytes calls wrote
    → polls_in calls ≡ []
writes_polls number bytes [] wrote writes = refl
writes_polls number bytes (call ∷ calls) wrote writes = elim writes.1 [
  | inl part ↦
      ap (λ (c : LinkCall). polls_in (c ∷ calls)) part.1 ∙ writes_polls number (drop part.0 bytes) calls wrote part.4
  | inr stop ↦ ap (λ (c : LinkCall). polls_in (c ∷ calls)) stop.1 ∙ ap polls_in stop.2
]

closed_polls : (writes calls : List LinkCall) (number : ℕ) → polls_in writes ≡ [] → calls ≡ writes ++ Close number ∷ []
    → polls_in calls ≡ []
closed_polls writes calls number none is =
    ap polls_in is ∙ polls-append writes (Close number ∷ []) ∙ ap (λ l. l ++ []) none

writes_happen : (old new : List (Option OpenLink)) (number : ℕ) (wrote : Wrote) (writes calls : List LinkCall)
    (answer : Result (Unit {0}) Failed) → polls_in writes ≡ [] → EndsWrites old number wrote writes calls answer new
    → (run : List Happening) × AreOf run old new calls []
writes_happen old new number wrotes.All writes calls answer none ends =
    ([], record { leads = ends.2; polls = sym (ap polls_in ends.1 ∙ none); gives = refl })
writes_happen old new number wrotes.Nothing writes calls answer none ends =
    (Left number ∷ [], record { leads = (old, refl, ends.2); polls = sym (closed_polls writes calls number none ends.1); gives = refl })
writes_happen old new number wrotes.Fault writes calls answer none ends =
    (Left number ∷ [], record { leads = (old, refl, ends.2); polls = sym (closed_polls writes calls number none ends.1); gives = refl })

pub send_happens : SendHappens
send_happens old new to bytes calls entries answer is = elim is [
  | Linked number wrote writes reached written ends inside ↦
      writes_happen old new number wrote writes calls answer (writes_polls number bytes writes wrote written) ends
  | SentOn unreached none inside now ↦ ([], record { leads = now; polls = ap polls_in (sym none); gives = refl })
]

-- ---- sends

no_stop : (answer : Result ℕ Failed) → Stops answer wrotes.All → ⊥
no_stop (Ok taken) stops = let is = stops.1 in cc
no_stop (Err fault) stops = cc

pub written_is_whole : WrittenIsWhole
written_is_whole number bytes [] writes = sym writes.0
written_is_whole number bytes (call ∷ calls) writes = elim writes.1 [
  | inl part ↦
      ap (λ (c : LinkCall). taken_by c ++ flat_map taken_by calls) part.1
      ∙ ap (λ l. take part.0 bytes ++ l) (written_is_whole number (drop part.0 bytes) calls part.4)
      ∙ take-append-drop part.0 bytes
  | inr stop ↦ absurd (no_stop stop.0 stop.3)
]
