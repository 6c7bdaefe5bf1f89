-- The wait for a list, pair by pair.
use Rattle.std.specs.Prelude.{Option, Some, None, Result, Ok}
use Rattle.std.proofs.Common.{◌≡◌, ◌<◌, ◌+◌, ℕ, true, false, List, [], ◌∷◌, ◌++◌, ◌⊎◌, length, refl, sym, ◌∙◌, ap, subst, inl, inr}
use Rattle.std.proofs.lemmas.List.{length-append}
use Rattle.std.proofs.lemmas.List.Elements.{All-nil, All-push}
use Rattle.booth_base.specs.declared.address.Peer.{Peer}
use Rattle.booth_host.specs.declared.entry.Entry.{Entry}
use Rattle.booth_host.specs.declared.entry.Entry.TheVariants.{Next, Now, Send}
use Rattle.booth_host.specs.declared.host.Arrival.{Arrival}
use Rattle.booth_host.specs.declared.host.Failed.{Failed}
use Rattle.booth_host.specs.Past.{GrewBy, GrewSome}
use Rattle.booth_host.proofs.PastLemmas.{no_entry, one_more, some_of, some_joined, some_weaker, then_some}
use Rattle.booth_talk.specs.declared.list_wait.Listed.{Listed}
use Rattle.booth_talk.specs.declared.order.Asking.{Asking}
use Rattle.booth_talk.specs.Asking.{request_bytes}
use Rattle.booth_talk.specs.Listing.{Completes, EndsAwaited, IsAwaited, IsLateList, IsListRow, IsListTalk, IsListWait, IsPatient, IsRefused}
use Rattle.booth_talk.specs.Parts.{AreNone, AreTaken, Part, first_part, is_whole, part_at, refusal_at, text_of}
use Rattle.booth_talk.specs.Waiting.{Pair, calls_of, all_calls}
use Rattle.booth_talk.specs.declared.wait.TheConstants.{MOST_PAIRS, PATIENCE}
use Rattle.booth_talk.proofs.PartLemmas.{AreKept, none_first, none_whole, not_whole, taken_first, whole_of}
use Rattle.booth_talk.proofs.WaitLemmas.{calls-push, pair_of}

module _ (asking : Asking) (start : ℕ) where
  -- so many pairs behind which the list is still waited for, and their parts that are kept
  pub record IsKeptRow (count : ℕ) (kept : List (Option Part)) (entries : List Entry) : Type 0 where
    pub pairs : List Pair
    pub number : length pairs ≡ count
    pub whole : entries ≡ all_calls pairs
    pub awaited : IsAwaited asking start pairs
    pub first : AreKept (first_part asking start pairs) kept

  pub none_kept : (kept : List (Option Part)) {a : Option (List Entry)} → AreNone kept → GrewSome (IsKeptRow 0 kept) a a
  unfolding all_calls
  none_kept kept none =
      some_of (IsKeptRow 0 kept) no_entry
      (record {
        pairs = [];
        number = refl;
        whole = refl;
        awaited = record { patient = All-nil (IsPatient asking start); unwhole = none_whole asking start };
        first = none_first asking start kept none;
      })

  module _ (n : ℕ) (answer : Result Arrival Failed) (bytes : List ℕ) (reading : ℕ) (old new : List (Option Part)) {a b c d : Option (List Entry)}
      (row : GrewSome (IsKeptRow n old) a b) (next : GrewBy b c (Next 100 answer bytes ∷ [])) (now : GrewBy c d (Now reading ∷ []))
      (taken : AreTaken (λ k. part_at asking start k (pair_of answer bytes reading)) old new) where
    abbrev this : Pair
    this = pair_of answer bytes reading

    abbrev these : List Entry → Type 0
    these es = es ≡ calls_of this

    both : GrewSome these b d
    both = some_of these (one_more next now) refl

    -- behind one more pair
    pub one_kept : IsPatient asking start (pair_of answer bytes reading) → is_whole new ≡ false → GrewSome (IsKeptRow (n + 1) new) a d
    one_kept holds unwhole =
        some_joined (IsKeptRow n old) these (IsKeptRow (n + 1) new)
        (λ xs ys r e.
        let first = taken_first asking start r.pairs this old new r.first taken in
        record {
          pairs = r.pairs ++ this ∷ [];
          number = length-append r.pairs (this ∷ []) ∙ ap (λ k. k + 1) r.number;
          whole = ap (λ es. xs ++ es) e ∙ ap (λ es. es ++ calls_of this) r.whole ∙ sym (calls-push r.pairs this);
          awaited = record {
            patient = All-push (IsPatient asking start) r.pairs this r.awaited.patient holds;
            unwhole = not_whole new (first_part asking start (r.pairs ++ this ∷ [])) first unwhole;
          };
          first = first;
        })
        row both

    -- a last pair
    pub last_kept : (Q : List Pair → Pair → Type 0) → n < MOST_PAIRS →
        ((pairs : List Pair) → AreKept (first_part asking start (pairs ++ pair_of answer bytes reading ∷ [])) new → Q pairs (pair_of answer bytes reading)) →
        GrewSome (EndsAwaited asking start Q) a d
    last_kept Q below holds =
        some_joined (IsKeptRow n old) these (EndsAwaited asking start Q)
        (λ xs ys r e. record {
          early = r.pairs;
          below = subst (λ (k : ℕ). k < MOST_PAIRS) (sym r.number) below;
          awaited = r.awaited;
          last = this;
          whole = ap (λ es. xs ++ es) e ∙ ap (λ es. es ++ calls_of this) r.whole;
          holds = holds r.pairs (taken_first asking start r.pairs this old new r.first taken);
        })
        row both

    pub listed_whole : n < MOST_PAIRS → is_whole new ≡ true → GrewSome (EndsAwaited asking start (Completes asking start (text_of new))) a d
    listed_whole below is =
        last_kept (Completes asking start (text_of new)) below
        (λ pairs first.
        let w = whole_of new (first_part asking start (pairs ++ this ∷ [])) first is in
        record { texts = w.0; whole = w.1; joined = w.2 })

    pub listed_refused : (code : ℕ) → n < MOST_PAIRS → refusal_at asking start (pair_of answer bytes reading) ≡ Some code →
        GrewSome (EndsAwaited asking start (IsRefused asking start code)) a d
    listed_refused code below is = last_kept (IsRefused asking start code) below (λ pairs first. is)

    pub listed_late : n < MOST_PAIRS → refusal_at asking start (pair_of answer bytes reading) ≡ None → is_whole new ≡ false → start + PATIENCE < reading →
        GrewSome (λ es. EndsAwaited asking start (IsLateList asking start) es ⊎ IsListRow asking start MOST_PAIRS es) a d
    listed_late below none unwhole late =
        some_weaker (EndsAwaited asking start (IsLateList asking start)) _ (λ xs h. inl h)
        (last_kept (IsLateList asking start) below
        (λ pairs first. record {
          none = none;
          unwhole = not_whole new (first_part asking start (pairs ++ this ∷ [])) first unwhole;
          late = late;
        }))

  pub listed_spent : (kept : List (Option Part)) {a b : Option (List Entry)} → GrewSome (IsKeptRow MOST_PAIRS kept) a b →
      GrewSome (λ es. EndsAwaited asking start (IsLateList asking start) es ⊎ IsListRow asking start MOST_PAIRS es) a b
  listed_spent kept row =
      some_weaker (IsKeptRow MOST_PAIRS kept) _
      (λ xs r. inr (record { pairs = r.pairs; number = r.number; whole = r.whole; awaited = r.awaited })) row

-- a request that was sent, and its wait
pub list_asked : (asking : Asking) (to : Peer) (start : ℕ) (sent : List ℕ) (listed : Listed) (text : List ℕ) {a b c : Option (List Entry)} →
    GrewBy a b (Send to sent (Ok tt) ∷ []) → sent ≡ request_bytes asking start → GrewSome (IsListWait asking start listed text) b c →
    GrewSome (IsListTalk asking to start (Ok listed) text) a c
list_asked asking to start sent listed text send is wait =
    then_some (IsListWait asking start listed text) (IsListTalk asking to start (Ok listed) text) send
    (λ ys h. (ys, ap (λ (s : List ℕ). Send to s (Ok tt) ∷ ys) is, h)) wait
